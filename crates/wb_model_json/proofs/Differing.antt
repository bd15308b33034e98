-- Numbers of which none repeats stand once each.
use Rattle.std.proofs.Common.{◌≡◌, ℕ, ◌+◌, Bool, true, false, List, [], ◌∷◌, ◌++◌, Some, None, refl, sym, ap, ◌∙◌, cond, eqb}
use Rattle.std.proofs.lemmas.Bool.{and_from, or_parts, both_ways, not_from_false, false_from_ne_true}
use Rattle.std.proofs.lemmas.List.Folds.{list_any-append}
use Rattle.std.proofs.lemmas.Option.{none-some}
use Rattle.std.specs.List.{list_any}
use Rattle.indexmap.specs.IndexSet.{insert_key}
use Rattle.wb_store.specs.Places.{once}
use Rattle.wb_validity.proofs.LinkLemmas.{any_found}
use Rattle.wb_store.proofs.Members.{In}
use Rattle.wb_store.proofs.Members.In.{here, there}
use Rattle.wb_model_json.specs.ModelFile.{repeat_from}

-- each stands once, and is none of the earlier ones
record IsFresh (earlier ns : List ℕ) : Type 0 where
  once_each : once ns ≡ true
  new : (n : ℕ) → In n ns → list_any (eqb n) earlier ≡ false

one_more : (earlier ns : List ℕ) (n : ℕ) → list_any (eqb n) earlier ≡ false → IsFresh (earlier ++ n ∷ []) ns → IsFresh earlier (n ∷ ns)
one_more earlier ns n is_new rest = record {
  once_each = and_from _ _ (not_from_false _ (false_from_ne_true _ (λ h.
      let f = any_found (λ other. eqb other n) ns h in
      let apart = (or_parts _ _ (sym (list_any-append (eqb f.0) earlier (n ∷ [])) ∙ rest.new f.0 f.1)).1 in
      both_ways _ (or_parts _ _ apart).0 f.2))) rest.once_each;
  new = λ m i. fresh_at m i;
}
  where
    fresh_at : (m : ℕ) → In m (n ∷ ns) → list_any (eqb m) earlier ≡ false
    fresh_at m here = is_new
    fresh_at m (there i) = (or_parts _ _ (sym (list_any-append (eqb m) earlier (n ∷ [])) ∙ rest.new m i)).0

none_fresh : (i : ℕ) (earlier ns : List ℕ) → repeat_from i earlier ns ≡ None → IsFresh earlier ns
none_fresh i earlier [] e = record { once_each = refl; new = λ n m. elim m [ ] }
none_fresh i earlier (n ∷ ns) e =
    elim (list_any (eqb n) earlier) as (λ b. list_any (eqb n) earlier ≡ b → cond b (Some i) (repeat_from (i + 1) (earlier ++ n ∷ []) ns) ≡ None → IsFresh earlier (n ∷ ns)) [
      | true ↦ λ t e. absurd (none-some i (sym e))
      | false ↦ λ t e. one_more earlier ns n t (none_fresh (i + 1) (earlier ++ n ∷ []) ns e)
    ] refl e

pub differing : (ns : List ℕ) → repeat_from 0 [] ns ≡ None → once ns ≡ true
differing ns e = (none_fresh 0 [] ns e).once_each

inserted : (b : Bool) (seen : List ℕ) (n : ℕ) → b ≡ false → cond b seen (seen ++ n ∷ []) ≡ seen ++ n ∷ []
inserted true seen n h = absurd (both_ways true h refl)
inserted false seen n h = refl

-- a step of the search, and its end
pub repeat_on : (i : ℕ) (seen later : List ℕ) (n : ℕ) (ns : List ℕ) → list_any (eqb n) seen ≡ false → later ≡ insert_key eqb seen n → repeat_from i seen (n ∷ ns) ≡ repeat_from (i + 1) later ns
repeat_on i seen later n ns h e =
    ap (λ b. cond b (Some i) (repeat_from (i + 1) (seen ++ n ∷ []) ns)) h
    ∙ ap (λ (s : List ℕ). repeat_from (i + 1) s ns) (sym (e ∙ inserted (list_any (eqb n) seen) seen n h))

pub repeat_here : (i : ℕ) (seen : List ℕ) (n : ℕ) (ns : List ℕ) → list_any (eqb n) seen ≡ true → repeat_from i seen (n ∷ ns) ≡ Some i
repeat_here i seen n ns h = ap (λ b. cond b (Some i) (repeat_from (i + 1) (seen ++ n ∷ []) ns)) h
