-- The steps of a climb from container to container.
use Rattle.std.proofs.Common.{◌≡◌, ℕ, ◌+◌, ◌-◌, ◌<◌, ◌≤◌, zero, suc, Bool, true, false, List, [], ◌∷◌, ◌++◌, Option, Some, None, Ok, refl, sym, ap, ◌∙◌, arith, if◌then◌else◌}
use Rattle.std.specs.Option.{option_map_or}
use Rattle.wb_metamodel.specs.Metamodel.{Metamodel}
use Rattle.wb_store.specs.declared.scalars.Scalar.TheVariants.{Object}
use Rattle.wb_store.specs.declared.scalars.Cell.{Cell}
use Rattle.wb_store.specs.declared.scalars.Cell.TheVariants.{Kind, Holder}
use Rattle.wb_store.specs.Contents.{Contents, kind}
use Rattle.wb_store.specs.Cells.{holder}
use Rattle.wb_aql_values.specs.declared.values.Value.{Value}
use Rattle.wb_aql_values.specs.declared.values.Value.TheVariants.{Null, One}
use Rattle.wb_aql_values.specs.Readings.{Reading, contents, done, held, ◌>>=◌}
use Rattle.wb_aql_values.specs.Runs.{Ran, run, with_read}
use Rattle.wb_aql_services.specs.Types.{is_of}
use Rattle.wb_aql_services.specs.Navigation.{climbed, nearest}

above : (h i : ℕ) → i < h → h - i ≡ suc (h - (i + 1))
above h i l = omega arith

spent : (h i : ℕ) → h ≤ i → h - i ≡ zero
spent h i l = omega arith

module _ (m : Contents) where
  -- what a climb does where it met a holder, or none
  unfoldable pub onward : ℕ → List ℕ → Option (ℕ × ℕ) → Reading (List ℕ)
  onward n met place = option_map_or (λ (p : ℕ × ℕ). climbed n (met ++ p.0 ∷ []) p.0) place (done met)

  pub climbed_next : (n : ℕ) (met : List ℕ) (o : ℕ) (old : List Cell) → run (climbed (suc n) met o) (contents m) old ≡ run (onward n met (holder m o)) (contents m) (with_read old (Holder o))
  unfolding climbed run ◌>>=◌ onward
  climbed_next n met o old = refl

  pub climbed_none : (met : List ℕ) (o : ℕ) (old : List Cell) → run (climbed zero met o) (contents m) old ≡ record { gave = Ok met; reads = old }
  unfolding climbed run
  climbed_none met o old = refl

  step : (h i : ℕ) (met : List ℕ) (o : ℕ) (place : Option (ℕ × ℕ)) (old new : List Cell) → i < h → place ≡ holder m o → new ≡ with_read old (Holder o)
      → run (onward (h - (i + 1)) met place) (contents m) new ≡ run (climbed (h - i) met o) (contents m) old
  step h i met o place old new l e r =
      (λ j. run (onward (h - (i + 1)) met (e j)) (contents m) (r j)) ∙ (sym (climbed_next (h - (i + 1)) met o old) ∙ ap (λ n. run (climbed n met o) (contents m) old) (sym (above h i l)))

  pub climb_more : (h i : ℕ) (met : List ℕ) (o : ℕ) (place : ℕ × ℕ) (old new : List Cell) (all : Ran (List ℕ)) → i < h → Some place ≡ holder m o → new ≡ with_read old (Holder o)
      → run (climbed (h - i) met o) (contents m) old ≡ all → run (climbed (h - (i + 1)) (met ++ place.0 ∷ []) place.0) (contents m) new ≡ all
  unfolding onward
  climb_more h i met o place old new all l e r k = step h i met o (Some place) old new l e r ∙ k

  pub climb_end : (h i : ℕ) (met : List ℕ) (o : ℕ) (old new : List Cell) (all : Ran (List ℕ)) → i < h → None ≡ holder m o → new ≡ with_read old (Holder o)
      → run (climbed (h - i) met o) (contents m) old ≡ all → all ≡ record { gave = Ok met; reads = new }
  unfolding onward run
  climb_end h i met o old new all l e r k = sym (step h i met o None old new l e r ∙ k)

  pub climb_spent : (h i : ℕ) (met : List ℕ) (o : ℕ) (old : List Cell) (all : Ran (List ℕ)) → h ≤ i → run (climbed (h - i) met o) (contents m) old ≡ all → all ≡ record { gave = Ok met; reads = old }
  climb_spent h i met o old all l k = sym k ∙ (ap (λ n. run (climbed n met o) (contents m) old) (spent h i l) ∙ climbed_none met o old)

  module _ (mm : Metamodel) (t : Option ℕ) where
    -- what the search for the nearest does with a holder's class
    unfoldable pub judged : ℕ → ℕ → Bool → Reading Value
    judged n p fits = if fits then done (One (Object p)) else nearest mm t n p

    unfoldable pub searched : ℕ → Option (ℕ × ℕ) → Reading Value
    searched n place = option_map_or (λ (p : ℕ × ℕ). held (Kind p.0) >>= λ k. judged n p.0 (is_of mm t k)) place (done Null)

    pub nearest_next : (n o : ℕ) (old : List Cell) → run (nearest mm t (suc n) o) (contents m) old ≡ run (searched n (holder m o)) (contents m) (with_read old (Holder o))
    unfolding nearest run ◌>>=◌ searched judged
    nearest_next n o old = refl

    pub nearest_none : (o : ℕ) (old : List Cell) → run (nearest mm t zero o) (contents m) old ≡ record { gave = Ok Null; reads = old }
    unfolding nearest run
    nearest_none o old = refl

    look : (h i o : ℕ) (place : Option (ℕ × ℕ)) (old new : List Cell) → i < h → place ≡ holder m o → new ≡ with_read old (Holder o)
        → run (searched (h - (i + 1)) place) (contents m) new ≡ run (nearest mm t (h - i) o) (contents m) old
    look h i o place old new l e r =
        (λ j. run (searched (h - (i + 1)) (e j)) (contents m) (r j)) ∙ (sym (nearest_next (h - (i + 1)) o old) ∙ ap (λ n. run (nearest mm t n o) (contents m) old) (sym (above h i l)))

    pub judge : (n : ℕ) (place : ℕ × ℕ) (fits : Bool) (old new : List Cell) → fits ≡ is_of mm t (kind m place.0) → new ≡ with_read old (Kind place.0)
        → run (judged n place.0 fits) (contents m) new ≡ run (searched n (Some place)) (contents m) old
    unfolding run ◌>>=◌ searched
    judge n place fits old new e r = λ j. run (judged n place.0 (e j)) (contents m) (r j)

    pub nearest_more : (h i o : ℕ) (place : ℕ × ℕ) (old mid new : List Cell) (all : Ran Value) → i < h → Some place ≡ holder m o → mid ≡ with_read old (Holder o)
        → false ≡ is_of mm t (kind m place.0) → new ≡ with_read mid (Kind place.0)
        → run (nearest mm t (h - i) o) (contents m) old ≡ all → run (nearest mm t (h - (i + 1)) place.0) (contents m) new ≡ all
    unfolding judged
    nearest_more h i o place old mid new all l e r f q k = judge (h - (i + 1)) place false mid new f q ∙ (look h i o (Some place) old mid l e r ∙ k)

    pub nearest_found : (h i o : ℕ) (place : ℕ × ℕ) (old mid new : List Cell) (all : Ran Value) → i < h → Some place ≡ holder m o → mid ≡ with_read old (Holder o)
        → true ≡ is_of mm t (kind m place.0) → new ≡ with_read mid (Kind place.0)
        → run (nearest mm t (h - i) o) (contents m) old ≡ all → all ≡ record { gave = Ok (One (Object place.0)); reads = new }
    unfolding judged run
    nearest_found h i o place old mid new all l e r f q k = sym (judge (h - (i + 1)) place true mid new f q ∙ (look h i o (Some place) old mid l e r ∙ k))

    pub nearest_end : (h i o : ℕ) (old new : List Cell) (all : Ran Value) → i < h → None ≡ holder m o → new ≡ with_read old (Holder o)
        → run (nearest mm t (h - i) o) (contents m) old ≡ all → all ≡ record { gave = Ok Null; reads = new }
    unfolding searched run
    nearest_end h i o old new all l e r k = sym (look h i o None old new l e r ∙ k)

    pub nearest_spent : (h i o : ℕ) (old : List Cell) (all : Ran Value) → h ≤ i → run (nearest mm t (h - i) o) (contents m) old ≡ all → all ≡ record { gave = Ok Null; reads = old }
    nearest_spent h i o old all l k = sym k ∙ (ap (λ n. run (nearest mm t n o) (contents m) old) (spent h i l) ∙ nearest_none o old)
