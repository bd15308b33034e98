-- Units that are the same are equal, and how what is kept of them grows by one.
use Rattle.std.proofs.Common.{◌≡◌, ℕ, Bool, true, false, cond, ◌&&◌, ◌||◌, nat_eq, List, [], ◌∷◌, ◌++◌, Option, Some, None, refl, sym, ap, subst, ◌∙◌, rules, if◌then◌else◌}
use Rattle.std.specs.List.{list_any}
use Rattle.std.specs.Map.{lookup}
use Rattle.std.specs.Cmp.Lexicographic.{pointwise}
use Rattle.std.proofs.lemmas.Bool.{false≢true, eqb-true, and_parts}
use Rattle.std.proofs.lemmas.List.Folds.{list_any-append}
use Rattle.wb_diagram.specs.contracts.units.UnitPartialEq.TheImpl.{eq-value}
use Rattle.wb_diagram.specs.declared.keys.AnyKey.{AnyKey}
use Rattle.wb_diagram.specs.declared.keys.AnyKey.TheVariants.{Node, Edge}
use Rattle.wb_diagram.specs.declared.keys.EdgeKey.{EdgeKey}
use Rattle.wb_diagram.specs.declared.keys.Key.{Key}
use Rattle.wb_diagram.specs.declared.keys.Pair.{Pair}
use Rattle.wb_diagram.specs.declared.units.Unit.{Unit as Place}
use Rattle.wb_diagram.specs.declared.units.Unit.TheVariants.{Candidates, Precondition, EdgeCandidates, EdgePrecondition, Source, Target, Style, Label, Filter}
use Rattle.wb_aql_eval.specs.declared.env.Outcome.{Outcome}
use Rattle.wb_answers.specs.SameKeys.{same_pair, same_key, same_any}
use Rattle.wb_answers.proofs.SameKeyLaws.{any_is, key_is, pair_is}
use Rattle.wb_refresh.specs.SameUnits.{same_parent, same_unit}

-- ---- the same, and so equal

parent_is : (a b : Option Key) → same_parent a b ≡ true → a ≡ b
parent_is None None h = refl
parent_is None (Some b) h = absurd (false≢true h)
parent_is (Some a) None h = absurd (false≢true h)
parent_is (Some a) (Some b) h = ap Some (key_is a b h)

numbered_is : (make : ℕ → AnyKey → Place) (m n : ℕ) (a b : AnyKey) → (nat_eq m n && same_any a b) ≡ true → make m a ≡ make n b
numbered_is make m n a b h =
    let both = and_parts (nat_eq m n) (same_any a b) h in
    let number = eqb-true m n both.0 in
    let key = any_is a b both.1 in
    λ i. make (number i) (key i)

pub unit_is : (a b : Place) → same_unit a b ≡ true → a ≡ b
unit_is (Candidates m a) (Candidates n b) h =
    let both = and_parts (nat_eq m n) (same_parent a b) h in
    let number = eqb-true m n both.0 in
    let parent = parent_is a b both.1 in
    λ i. Candidates (number i) (parent i)
unit_is (Precondition a) (Precondition b) h = ap Precondition (key_is a b h)
unit_is (EdgeCandidates m) (EdgeCandidates n) h = ap EdgeCandidates (eqb-true m n h)
unit_is (EdgePrecondition a) (EdgePrecondition b) h = ap EdgePrecondition (pair_is a b h)
unit_is (Source a) (Source b) h = ap Source (pair_is a b h)
unit_is (Target a) (Target b) h = ap Target (pair_is a b h)
unit_is (Style m a) (Style n b) h = numbered_is Style m n a b h
unit_is (Label m a) (Label n b) h = numbered_is Label m n a b h
unit_is (Filter m a) (Filter n b) h = numbered_is Filter m n a b h
unit_is a b h = absurd (false≢true h)

turned : (a b : Place) → same_unit a b ≡ true → same_unit b a ≡ true
turned a b h =
    let is = unit_is a b h in
    let own : same_unit a a ≡ true = subst (λ (x : Place). same_unit a x ≡ true) (sym is) h in
    subst (λ (x : Place). same_unit x a ≡ true) is own

both_ways : (b c : Bool) → (b ≡ true → c ≡ true) → (c ≡ true → b ≡ true) → b ≡ c
both_ways true c there back = sym (there refl)
both_ways false true there back = back refl
both_ways false false there back = refl

pub unit_symm : (a b : Place) → same_unit a b ≡ same_unit b a
unit_symm a b = both_ways (same_unit a b) (same_unit b a) (turned a b) (turned b a)

-- ---- as the code compares them

pub same_units : (x y : Place) → eq-value.it x y ≡ same_unit x y
same_units (Candidates m None) (Candidates n None) = search rules
same_units (Candidates m None) (Candidates n (Some b)) = search rules
same_units (Candidates m (Some a)) (Candidates n None) = search rules
same_units (Candidates m (Some a)) (Candidates n (Some b)) = search rules
same_units (Precondition a) (Precondition b) = search rules
same_units (EdgeCandidates m) (EdgeCandidates n) = search rules
same_units (EdgePrecondition a) (EdgePrecondition b) = search rules
same_units (Source a) (Source b) = search rules
same_units (Target a) (Target b) = search rules
same_units (Style m (Node a)) (Style n (Node b)) = search rules
same_units (Style m (Node a)) (Style n (Edge b)) = search rules
same_units (Style m (Edge a)) (Style n (Node b)) = search rules
same_units (Style m (Edge a)) (Style n (Edge b)) = search rules
same_units (Label m (Node a)) (Label n (Node b)) = search rules
same_units (Label m (Node a)) (Label n (Edge b)) = search rules
same_units (Label m (Edge a)) (Label n (Node b)) = search rules
same_units (Label m (Edge a)) (Label n (Edge b)) = search rules
same_units (Filter m (Node a)) (Filter n (Node b)) = search rules
same_units (Filter m (Node a)) (Filter n (Edge b)) = search rules
same_units (Filter m (Edge a)) (Filter n (Node b)) = search rules
same_units (Filter m (Edge a)) (Filter n (Edge b)) = search rules
same_units x y = search rules

pub looked_up : {A : Type 0} (unit : Place) (entries : List (Place × A)) → lookup (eq-value.it unit) entries ≡ lookup (same_unit unit) entries
looked_up {A} unit entries = ap (λ (test : Place → Bool). lookup test entries) (λ i other. same_units unit other i)

-- ---- one unit more

-- the outcome of a unit that is there
abbrev where_there : Bool → Outcome → Option Outcome
where_there b o = if b then Some o else None

or_there : (b c : Bool) (o : Outcome) → cond c (Some o) (where_there b o) ≡ where_there (b || (c || false)) o
or_there true true o = refl
or_there true false o = refl
or_there false true o = refl
or_there false false o = refl

-- what is kept of a unit at another, where the units are the same
at_same : (f : Place → Outcome) (k q : Place) (o : Outcome) (b : Bool) (rest : Option Outcome) → o ≡ f k → same_unit k q ≡ b → cond b (Some o) rest ≡ cond b (Some (f q)) rest
at_same f k q o true rest is same = ap Some (is ∙ ap f (unit_is k q same))
at_same f k q o false rest is same = refl

pub one_more_outcome : (f : Place → Outcome) (k q : Place) (o : Outcome) (us : List Place) (old new : List (Place × Outcome)) → o ≡ f k
    → lookup (same_unit q) old ≡ (if list_any (same_unit q) us then Some (f q) else None)
    → lookup (eq-value.it q) new ≡ cond (eq-value.it k q) (Some o) (lookup (eq-value.it q) old)
    → lookup (same_unit q) new ≡ (if list_any (same_unit q) (us ++ k ∷ []) then Some (f q) else None)
one_more_outcome f k q o us old new is so_far updated =
    sym (looked_up q new) ∙ updated
    ∙ ap (λ rest. cond (eq-value.it k q) (Some o) rest) (looked_up q old ∙ so_far)
    ∙ ap (λ b. cond b (Some o) (where_there (list_any (same_unit q) us) (f q))) (same_units k q)
    ∙ at_same f k q o (same_unit k q) (where_there (list_any (same_unit q) us) (f q)) is refl
    ∙ ap (λ b. cond b (Some (f q)) (where_there (list_any (same_unit q) us) (f q))) (unit_symm k q)
    ∙ or_there (list_any (same_unit q) us) (same_unit q k) (f q)
    ∙ ap (λ b. where_there b (f q)) (sym (list_any-append (same_unit q) us (k ∷ [])))
