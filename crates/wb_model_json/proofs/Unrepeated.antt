-- Numbers that stand once each do not repeat.
use Rattle.std.proofs.Common.{◌≡◌, ℕ, ◌+◌, Bool, true, false, ◌||◌, List, [], ◌∷◌, ◌++◌, Some, None, refl, sym, ap, ◌∙◌, cond, eqb}
use Rattle.std.proofs.lemmas.Bool.{and_parts, false_from_ne_true, both_ways}
use Rattle.std.proofs.lemmas.List.Folds.{list_any-append}
use Rattle.std.specs.Prelude.{not}
use Rattle.std.specs.List.{list_any}
use Rattle.wb_store.specs.Places.{once}
use Rattle.wb_store.proofs.Members.{In, any_In}
use Rattle.wb_store.proofs.Members.In.{here, there}
use Rattle.wb_model_json.specs.ModelFile.{repeat_from}

of_not : (b : Bool) → not b ≡ true → b ≡ false
of_not true h = sym h
of_not false h = refl

alone : (b : Bool) → b ≡ false → (b || false) ≡ false
alone true h = h
alone false h = refl

other_later : (n m : ℕ) (ns : List ℕ) → list_any (λ other. eqb other n) ns ≡ false → In m ns → eqb m n ≡ false
other_later n m ns none i = false_from_ne_true _ (λ same. both_ways _ none (any_In (λ other. eqb other n) ns m i same))

fresh-none : (i : ℕ) (earlier ns : List ℕ) → ((n : ℕ) → In n ns → list_any (eqb n) earlier ≡ false) → once ns ≡ true → repeat_from i earlier ns ≡ None
fresh-none i earlier [] new h = refl
fresh-none i earlier (n ∷ ns) new h =
    let parts = and_parts _ _ h in
    ap (λ b. cond b (Some i) (repeat_from (i + 1) (earlier ++ n ∷ []) ns)) (new n here)
    ∙ fresh-none (i + 1) (earlier ++ n ∷ []) ns
    (λ m j. list_any-append (eqb m) earlier (n ∷ []) ∙ (λ k. new m (there j) k || (eqb m n || false)) ∙ alone _ (other_later n m ns (of_not _ parts.0) j))
    parts.1

pub once-none : (ns : List ℕ) → once ns ≡ true → repeat_from 0 [] ns ≡ None
once-none ns h = fresh-none 0 [] ns (λ n i. refl) h
