-- Each climb in a valid model ends, within its bound, at an object that stands in no container.
use Rattle.std.proofs.Common.{◌≡◌, ℕ, ◌<◌, ◌≤◌, zero, suc, true, false, List, [], ◌∷◌, ◌++◌, length, Option, Some, None, Ok, refl, sym, ap, subst, ◌∙◌, cond, arith, append-nil, append_assoc, ◌⊎◌, inl, inr, ⊎_elim, ◌↔◌}
use Rattle.std.proofs.lemmas.Bool.{false≢true, false_from_ne_true}
use Rattle.std.proofs.lemmas.List.{length-map}
use Rattle.std.proofs.lemmas.Option.{same_Some}
use Rattle.std.specs.Prelude.{filter, find, map}
use Rattle.std.specs.Option.{option_map_or}
use Rattle.std.specs.FinMap.{entries, keys, len-entries}
use Rattle.wb_metamodel.specs.Metamodel.{Metamodel}
use Rattle.wb_store.specs.declared.scalars.Scalar.TheVariants.{Object}
use Rattle.wb_store.specs.declared.scalars.Cell.{Cell}
use Rattle.wb_store.specs.declared.scalars.Cell.TheVariants.{Kind, Holder}
use Rattle.wb_store.specs.Contents.{Contents, kind, contains}
use Rattle.wb_store.specs.Cells.{holder}
use Rattle.wb_store.specs.Relinking.{is_among}
use Rattle.wb_validity.specs.Valid.{Within, IsValid}
use Rattle.wb_validity.specs.Valid.Within.{directly, through}
use Rattle.wb_validity.specs.ValidTest.{is_within}
use Rattle.wb_aql_values.specs.declared.values.Value.{Value}
use Rattle.wb_aql_values.specs.declared.values.Value.TheVariants.{Null, One}
use Rattle.wb_aql_values.specs.Readings.{contents}
use Rattle.wb_aql_values.specs.Runs.{Ran, run, with_read, with_reads}
use Rattle.wb_aql_services.specs.Types.{is_of}
use Rattle.wb_aql_services.specs.Navigation.{climbed, nearest, height}
use Rattle.wb_aql_services.specs.Climbs.{AreAbove, IsClimbed, first_of, looked_at}
use Rattle.wb_aql_services.specs.Climbs.AreAbove.{top, under}
use Rattle.wb_store.proofs.Filtered.{In-cons}
use Rattle.wb_store.proofs.Members.{In}
use Rattle.wb_store.proofs.Members.In.{here, there}
use Rattle.wb_validity.proofs.Trees.{all_pass, one_fewer, live_In}
use Rattle.wb_validity.proofs.ValidTest.{is_within-decides}
use Rattle.wb_model.proofs.EditEffects.{holder-is}
use Rattle.wb_model.proofs.KeptLinks.{sound, housed}
use Rattle.wb_model.proofs.Live.{contained-live, holder-live}
use Rattle.wb_model.proofs.MoveSteps.{holder-some, holder-none}
use Rattle.wb_model.proofs.TreesWithin.{among-In, In-among}
use Rattle.wb_aql_services.proofs.Climbs.{onward, climbed_next, climbed_none, judged, searched, judge, nearest_next, nearest_none}

-- the container of what stands within an object is the object, or stands within it
last_step : (m : Contents) (p o : ℕ) → Within m p o → (q : ℕ) × (f : ℕ) × (contains m q f o ≡ true) × ((p ≡ q) ⊎ Within m p q)
last_step m p o (directly f h) = (p, f, h, inl refl)
last_step m p o (through {q = q} f w h) = (q, f, h, inr w)

module _ (m : Contents) (v : IsValid m) where
  -- ---- how far it is to the top

  -- how many live objects an object stands within
  counted : ℕ → ℕ
  counted o = length (filter (λ p. is_within m p o) (keys m.kinds))

  -- the container counts for what it contains and not for itself
  falls : (o p f : ℕ) → holder m o ≡ Some (p, f) → counted p < counted o
  unfolding counted
  falls o p f e =
      let c = holder-some m o p f e in
      one_fewer (λ q. is_within m q p) (λ q. is_within m q o) (keys m.kinds) p
      (λ q w. (is_within-decides m q o).1 (through f ((is_within-decides m q p).0 w) c))
      (live_In m p (holder-live m (sound m v) p f o c))
      (false_from_ne_true _ (λ w. (housed m v).no_ring p ((is_within-decides m p p).0 w)))
      ((is_within-decides m p o).1 (directly f c))

  stops : (n o p f : ℕ) → holder m o ≡ Some (p, f) → counted o < suc n → counted p < n
  stops n o p f e l = let less = falls o p f e in omega (arith, less, l)

  -- what stands in a container is live, and does not count for itself
  below_height : (o p f : ℕ) → holder m o ≡ Some (p, f) → counted o < height
  unfolding counted
  below_height o p f e =
      let live = contained-live m (sound m v) p f o (holder-some m o p f e) in
      let less = one_fewer (λ q. is_within m q o) (λ q. true) (keys m.kinds) o (λ q w. refl) (live_In m o live) (false_from_ne_true _ (λ w. (housed m v).no_ring o ((is_within-decides m o o).0 w))) refl in
      let all = all_pass (keys m.kinds) in
      let keys_are = length-map (entries m.kinds) (λ (e : ℕ × ℕ). e.0) in
      let most = (sound m v).few in
      omega (arith, less, all, keys_are, len-entries m.kinds, most)

  -- ---- all containers are met

  abbrev Meets : ℕ → List ℕ → ℕ → List Cell → Type 0
  Meets n met o old = (os : List ℕ) × AreAbove m o os × (run (climbed n met o) (contents m) old ≡ record { gave = Ok (met ++ os); reads = with_reads old (map Holder (o ∷ os)) })

  ends : (n : ℕ) (met : List ℕ) (o : ℕ) (old : List Cell) → holder m o ≡ None → run (climbed (suc n) met o) (contents m) old ≡ record { gave = Ok met; reads = with_read old (Holder o) }
  unfolding onward run
  ends n met o old e = climbed_next m n met o old ∙ ap (λ place. run (onward m n met place) (contents m) (with_read old (Holder o))) e

  goes_on : (n : ℕ) (met : List ℕ) (o p f : ℕ) (old : List Cell) → holder m o ≡ Some (p, f) → run (climbed (suc n) met o) (contents m) old ≡ run (climbed n (met ++ p ∷ []) p) (contents m) (with_read old (Holder o))
  unfolding onward
  goes_on n met o p f old e = climbed_next m n met o old ∙ ap (λ place. run (onward m n met place) (contents m) (with_read old (Holder o))) e

  at_top : (n : ℕ) (met : List ℕ) (o : ℕ) (old : List Cell) → holder m o ≡ None → Meets (suc n) met o old
  at_top n met o old e = ([], top e, ends n met o old e ∙ ap (λ ms. record { gave = Ok ms; reads = with_read old (Holder o) }) (sym (append-nil met)))

  meets : (n : ℕ) (met : List ℕ) (o : ℕ) (old : List Cell) → counted o < n → Meets n met o old
  meets zero met o old l = absurd (omega (arith, l))
  meets (suc n) met o old l =
      elim (holder m o) as (λ r. holder m o ≡ r → Meets (suc n) met o old) [
        | None ↦ λ e. at_top n met o old e
        | Some place ↦ λ e.
            let now = with_read old (Holder o) in
            let rest = meets n (met ++ place.0 ∷ []) place.0 now (stops n o place.0 place.1 e l) in
            (place.0 ∷ rest.0, under e rest.1, goes_on n met o place.0 place.1 old e ∙ (rest.2 ∙ ap (λ ms. record { gave = Ok ms; reads = with_reads now (map Holder (place.0 ∷ rest.0)) }) (append_assoc met (place.0 ∷ []) rest.0)))
      ] refl

  from_below : (o : ℕ) (old : List Cell) → Meets height [] o old
  from_below o old =
      elim (holder m o) as (λ r. holder m o ≡ r → Meets height [] o old) [
        | None ↦ λ e. at_top 19999 [] o old e
        | Some place ↦ λ e. meets height [] o old (below_height o place.0 place.1 e)
      ] refl

  pub climbed-all : (o : ℕ) (old : List Cell) → IsClimbed m o old
  climbed-all o old = let all = from_below o old in record { met = all.0; above = all.1; ran = all.2 }

  -- ---- they are what the object stands within

  above-within : (o : ℕ) (os : List ℕ) → AreAbove m o os → (p : ℕ) → In p os → Within m p o
  above-within o [] (top e) p i = elim i [ ]
  above-within o (q ∷ os) (under {f = f} e a) p i =
      let c = holder-some m o q f e in
      ⊎_elim (λ s. subst (λ x. Within m x o) s (directly f c)) (λ later. through f (above-within q os a p later) c) (In-cons q os p i)

  within-above : (o : ℕ) (os : List ℕ) → AreAbove m o os → (p : ℕ) → Within m p o → In p os
  within-above o [] (top e) p w = let s = last_step m p o w in absurd (false≢true (sym (holder-none m o e s.0 s.1) ∙ s.2))
  within-above o (q ∷ os) (under {f = f} e a) p w =
      let s = last_step m p o w in
      let at : q ≡ s.0 = ap (λ (k : ℕ × ℕ). k.0) (same_Some (q, f) (s.0, s.1) (sym e ∙ holder-is m (sound m v) (housed m v).once s.0 s.1 o s.2)) in
      ⊎_elim (λ e. subst (λ x. In x (q ∷ os)) (at ∙ sym e) here) (λ u. there (within-above q os a p (subst (Within m p) (sym at) u))) s.3

  -- ---- the nearest of a type is the first of them

  module _ (mm : Metamodel) (t : Option ℕ) where
    finds_none : (n o : ℕ) (old : List Cell) → holder m o ≡ None → run (nearest mm t (suc n) o) (contents m) old ≡ record { gave = Ok Null; reads = with_read old (Holder o) }
    unfolding searched run
    finds_none n o old e = nearest_next m mm t n o old ∙ ap (λ place. run (searched m mm t n place) (contents m) (with_read old (Holder o))) e

    looks_on : (n o p f : ℕ) (old : List Cell) → holder m o ≡ Some (p, f)
        → run (nearest mm t (suc n) o) (contents m) old ≡ run (judged m mm t n p (is_of mm t (kind m p))) (contents m) (with_read (with_read old (Holder o)) (Kind p))
    looks_on n o p f old e =
        nearest_next m mm t n o old
        ∙ ap (λ place. run (searched m mm t n place) (contents m) (with_read old (Holder o))) e
        ∙ sym (judge m mm t n (p, f) (is_of mm t (kind m p)) (with_read old (Holder o)) (with_read (with_read old (Holder o)) (Kind p)) refl refl)

    finds : (n o : ℕ) (os : List ℕ) (old : List Cell) → AreAbove m o os → counted o < n → run (nearest mm t n o) (contents m) old ≡ record { gave = Ok (first_of mm t m os); reads = with_reads old (looked_at mm t m o os) }
    unfolding judged run
    finds zero o os old a l = absurd (omega (arith, l))
    finds (suc n) o [] old (top e) l = finds_none n o old e
    finds (suc n) o (p ∷ os) old (under {f = f} e a) l =
        let now = with_read (with_read old (Holder o)) (Kind p) in
        looks_on n o p f old e
        ∙ elim (is_of mm t (kind m p)) as (λ b. run (judged m mm t n p b) (contents m) now
        ≡ record { gave = Ok (option_map_or (λ o. One (Object o)) (cond b (Some p) (find (λ o. is_of mm t (kind m o)) os)) Null); reads = with_reads now (cond b [] (looked_at mm t m p os)) }) [
          | true ↦ refl
          | false ↦ finds n p os now a (stops n o p f e l)
        ]

    found : (o : ℕ) (os : List ℕ) (old : List Cell) → AreAbove m o os → run (nearest mm t height o) (contents m) old ≡ record { gave = Ok (first_of mm t m os); reads = with_reads old (looked_at mm t m o os) }
    found o [] old (top e) = finds_none 19999 o old e
    found o (p ∷ os) old (under {f = f} e a) = finds height o (p ∷ os) old (under e a) (below_height o p f e)

-- ---- the law

pub climbed-whole : (m : Contents) → IsValid m → (o : ℕ) (old : List Cell) → IsClimbed m o old
climbed-whole m v o old = climbed-all m v o old

pub above-decides : (m : Contents) → IsValid m → (o : ℕ) (os : List ℕ) → AreAbove m o os → (p : ℕ) → (is_among os p ≡ true) ↔ Within m p o
above-decides m v o os a p = (λ h. above-within m v o os a p (among-In os p h), λ w. In-among os p (within-above m v o os a p w))

pub nearest-first : (m : Contents) → IsValid m → (o : ℕ) (os : List ℕ) → AreAbove m o os → (mm : Metamodel) (t : Option ℕ) (old : List Cell)
    → run (nearest mm t height o) (contents m) old ≡ record { gave = Ok (first_of mm t m os); reads = with_reads old (looked_at mm t m o os) }
nearest-first m v o os a mm t old = found m v mm t o os old a
