-- The first marked object is the least one of which the marks tell.
use Rattle.std.proofs.Common.{◌≡◌, ℕ, suc, zero, Bool, true, false, List, [], ◌∷◌, length, map, Option, Some, None, refl, sym, ap, ◌∙◌, cond, arith}
use Rattle.std.proofs.lemmas.Option.{none-some}
use Rattle.std.specs.Option.{option_map}
use Rattle.std.specs.List.{find, slice_get}
use Rattle.wb_store.specs.declared.records.Record.{Record}
use Rattle.wb_store.specs.Contents.{Contents}
use Rattle.wb_validity.specs.Broken.{least, is_held_twice}
use Rattle.wb_store.specs.invariants.Links.{Kept, AreHolders, KnowsHolders, links_of}
use Rattle.wb_store.specs.declared.containment.Link.{Link}
use Rattle.wb_store.specs.invariants.Marks.{first_marked}
use Rattle.wb_store.specs.Records.{kind_entry}
use Rattle.wb_validity.proofs.Breaches.{least_begins}
use Rattle.wb_validity.proofs.LinkLemmas.{twice_marked, knows}

abbrev Tells : (ℕ → ℕ → Bool) → List Record → List Bool → Type 0
Tells passes rs marks = (i : ℕ) (r : Record) (mark : Bool) → slice_get rs i ≡ Some r → slice_get marks i ≡ Some mark → mark ≡ passes r.id r.class

abbrev found_in : (ℕ → ℕ → Bool) → List Record → Option ℕ
found_in passes rs = option_map (λ (e : ℕ × ℕ). e.0) (find (λ (e : ℕ × ℕ). passes e.0 e.1) (map kind_entry rs))

marked_among : (passes : ℕ → ℕ → Bool) (rs : List Record) (marks : List Bool) → length marks ≡ length rs → Tells passes rs marks → first_marked rs marks ≡ found_in passes rs
marked_among passes [] [] e tells = refl
marked_among passes [] (b ∷ bs) e tells = absurd (omega arith)
marked_among passes (r ∷ rs) [] e tells = absurd (omega arith)
marked_among passes (r ∷ rs) (b ∷ bs) e tells =
    let rest = marked_among passes rs bs (omega arith) (λ i q mark f g. tells (suc i) q mark f g) in
    ap (λ x. cond b (Some r.id) x) rest
    ∙ ap (λ x. cond x (Some r.id) (found_in passes rs)) (tells 0 r b refl refl)
    ∙ elim (passes r.id r.class) as (λ x. cond x (Some r.id) (found_in passes rs) ≡ option_map (λ (e : ℕ × ℕ). e.0) (cond x (Some (kind_entry r)) (find (λ (e : ℕ × ℕ). passes e.0 e.1) (map kind_entry rs)))) [
      | true ↦ refl
      | false ↦ refl
    ]

pub marked_least : (m : Contents) (rs : List Record) (kept : Kept m rs) (passes : ℕ → ℕ → Bool) (marks : List Bool) → length marks ≡ length rs → Tells passes rs marks → first_marked rs marks ≡ least m passes
marked_least m rs kept passes marks e tells = marked_among passes rs marks e tells ∙ least_begins m rs kept passes

pub none_marked : (rs : List Record) (marks : List Bool) → length marks ≡ length rs → first_marked rs marks ≡ None → (i : ℕ) (r : Record) → slice_get rs i ≡ Some r → slice_get marks i ≡ Some false
none_marked [] marks e n i r f = absurd (none-some r f)
none_marked (q ∷ rs) [] e n i r f = absurd (omega arith)
none_marked (q ∷ rs) (true ∷ bs) e n i r f = absurd (none-some q.id (sym n))
none_marked (q ∷ rs) (false ∷ bs) e n zero r f = refl
none_marked (q ∷ rs) (false ∷ bs) e n (suc i) r f = none_marked rs bs (omega arith) n i r f

module _ (m : Contents) (rs : List Record) (kept : Kept m rs) (hs : List (Option Link)) (ts : List Bool) (holders : AreHolders rs (links_of m.metamodel rs) hs ts) where
  pub twice_least : first_marked rs ts ≡ least m (λ o c. is_held_twice m o)
  twice_least = marked_least m rs kept (λ o c. is_held_twice m o) ts holders.each_twice (λ i r mark e f. twice_marked m rs kept hs ts holders i r e mark f)

  pub knows_holders : first_marked rs ts ≡ None → KnowsHolders m rs hs
  knows_holders none = knows m rs kept hs ts holders (none_marked rs ts holders.each_twice none)
