-- Operations one after another, and their rows.
use Rattle.std.specs.Prelude.{⊤}
use Rattle.std.specs.declared.alloc.AllocError.{AllocError}
use Rattle.std.proofs.Common.{◌≡◌, ℕ, suc, ◌+◌, ◌<◌, List, [], ◌∷◌, ◌++◌, length, take, get_or, Option, Some, None, Result, Ok, Err, OnOk, refl, sym, ap, ◌∙◌, append_assoc, append-nil, arith, codes}
use Rattle.std.proofs.lemmas.List.{take_more, length-take-le}
use Rattle.wb_json.specs.Place.{Place}
use Rattle.wb_metamodel.specs.Metamodel.{Metamodel}
use Rattle.wb_viewpoint.proofs.Trees.{tree_out}
use Rattle.wb_viewpoint.specs.View.{tree_of, trees_of}
use Rattle.wb_viewpoint.specs.declared.operations.Operation.{Operation, out-Operation}
use Rattle.wb_spec_check.specs.Places.{◌▸◌, ◌!◌}
use Rattle.wb_spec_check.specs.Scopes.{scope_inside}
use Rattle.wb_spec_check.specs.Tools.{action_at, operation_at, operations_from}
use Rattle.wb_spec_check.specs.Validated.{Validated, good, bad, ◌<*>◌, problems_of, value_of}
use Rattle.wb_spec_check.specs.declared.checked_tools.CheckedOperation.{CheckedOperation}
use Rattle.wb_spec_check.specs.declared.problem.Problem.{Problem}
use Rattle.wb_spec_check.specs.invariants.Reports.{Tells, and_then}
use Rattle.wb_spec_check.specs.invariants.Rows.{TellsRows, behind}

-- ---- lists that are checked one after the other

abbrev pub both : {A : Type 0} → Validated (List A) → Validated (List A) → Validated (List A)
both a b = good (λ ys zs. ys ++ zs) <*> a <*> b

both_value : {A : Type 0} (a b : Validated (List A)) → value_of (both a b) ≡ behind (value_of a) (value_of b)
both_value (good ys) (good zs) = refl
both_value (good ys) (bad q qs) = refl
both_value (bad p ps) (good zs) = refl
both_value (bad p ps) (bad q qs) = refl

both_problems : {A : Type 0} (a b : Validated (List A)) → problems_of (both a b) ≡ problems_of a ++ problems_of b
both_problems (good ys) (good zs) = refl
both_problems (good ys) (bad q qs) = refl
both_problems (bad p ps) (good zs) = sym (append-nil (p ∷ ps))
both_problems (bad p ps) (bad q qs) = refl

both_nothing : {A : Type 0} (a : Validated (List A)) → both a (good []) ≡ a
both_nothing (good ys) = ap good (append-nil ys)
both_nothing (bad p ps) = refl

nothing_both : {A : Type 0} (a : Validated (List A)) → both (good []) a ≡ a
nothing_both (good ys) = refl
nothing_both (bad p ps) = refl

both_assoc : {A : Type 0} (a b c : Validated (List A)) → both a (both b c) ≡ both (both a b) c
both_assoc (good xs) (good ys) (good zs) = ap good (sym (append_assoc xs ys zs))
both_assoc (good xs) (good ys) (bad r rs) = refl
both_assoc (good xs) (bad q qs) (good zs) = refl
both_assoc (good xs) (bad q qs) (bad r rs) = refl
both_assoc (bad p ps) (good ys) (good zs) = refl
both_assoc (bad p ps) (good ys) (bad r rs) = refl
both_assoc (bad p ps) (bad q qs) (good zs) = refl
both_assoc (bad p ps) (bad q qs) (bad r rs) = ap (bad p) (sym (append_assoc ps (q ∷ qs) (r ∷ rs)))

-- ---- rows of the one, and then of the other

behind_nothing : {A : Type 0} (xs : Option (List A)) → xs ≡ behind xs (Some [])
behind_nothing None = refl
behind_nothing (Some xs) = ap Some (sym (append-nil xs))

behind_assoc : {A : Type 0} (xs ys zs : Option (List A)) → behind (behind xs ys) zs ≡ behind xs (behind ys zs)
behind_assoc None ys zs = refl
behind_assoc (Some xs) None zs = refl
behind_assoc (Some xs) (Some ys) None = refl
behind_assoc (Some xs) (Some ys) (Some zs) = ap Some (append_assoc xs ys zs)

pub rows_none : {A : Type 0} (p0 : List Problem) (r0 : Option (List A)) → TellsRows (good []) p0 r0 r0 p0
rows_none p0 r0 = record { rows = behind_nothing r0; problems = sym (append-nil p0) }

pub rows_both : {A : Type 0} {a b : Validated (List A)} {p0 p1 p2 : List Problem} {r0 r1 r2 : Option (List A)} → TellsRows a p0 r0 r1 p1 → TellsRows b p1 r1 r2 p2 → TellsRows (both a b) p0 r0 r2 p2
rows_both {a = a} {b = b} {p0 = p0} {r0 = r0} s t = record {
  rows = t.rows ∙ ap (λ r. behind r (value_of b)) s.rows ∙ behind_assoc r0 (value_of a) (value_of b) ∙ ap (behind r0) (sym (both_value a b));
  problems = t.problems ∙ ap (λ ps. ps ++ problems_of b) s.problems ∙ append_assoc p0 (problems_of a) (problems_of b) ∙ ap (λ ps. p0 ++ ps) (sym (both_problems a b));
}

-- the rows that begin with none
pub rows_alone : {A : Type 0} (a : Validated (List A)) (p0 p1 : List Problem) (r : Option (List A)) → TellsRows a p0 (Some []) r p1 → Tells a p0 r p1
rows_alone (good ys) p0 p1 r t = record { value = t.rows; problems = t.problems }
rows_alone (bad p ps) p0 p1 r t = record { value = t.rows; problems = t.problems }

-- ---- one row

abbrev alone : {A : Type 0} → Validated A → Validated (List A)
alone a = good (λ y. y ∷ []) <*> a

alone_value : {A : Type 0} (a : Validated A) (r : Option (List A)) → and_then r (value_of a) ≡ behind r (value_of (alone a))
alone_value (good y) None = refl
alone_value (good y) (Some ys) = refl
alone_value (bad p ps) None = refl
alone_value (bad p ps) (Some ys) = refl

alone_problems : {A : Type 0} (a : Validated A) → problems_of a ≡ problems_of (alone a)
alone_problems (good y) = refl
alone_problems (bad p ps) = refl

rows_one : {A : Type 0} {a : Validated A} {p0 p1 : List Problem} {row : Option A} {r0 r1 : Option (List A)} → Tells a p0 row p1 → r1 ≡ and_then r0 row → TellsRows (alone a) p0 r0 r1 p1
rows_one {a = a} {p0 = p0} {r0 = r0} s is = record {
  rows = is ∙ ap (and_then r0) s.value ∙ alone_value a r0;
  problems = s.problems ∙ ap (λ ps. p0 ++ ps) (alone_problems a);
}

first_and_others : {A : Type 0} (a : Validated A) (b : Validated (List A)) → good (λ first others. first ∷ others) <*> a <*> b ≡ both (alone a) b
first_and_others (good y) (good ys) = refl
first_and_others (good y) (bad q qs) = refl
first_and_others (bad p ps) (good ys) = refl
first_and_others (bad p ps) (bad q qs) = refl

-- ---- an operation, and those inside it

operation_parts : (mm : Metamodel) (scope : List (List ℕ)) (place : Place) (o : Operation) → operation_at mm scope place (tree_of o) ≡ both (alone (action_at mm scope place (out-Operation o).action)) (operations_from mm (scope_inside scope (out-Operation o).action) (place ▸ codes "do") 0 (trees_of (out-Operation o).inside))
unfolding operation_at
operation_parts mm scope place o = ap (operation_at mm scope place) (tree_out o) ∙ first_and_others (action_at mm scope place (out-Operation o).action) (operations_from mm (scope_inside scope (out-Operation o).action) (place ▸ codes "do") 0 (trees_of (out-Operation o).inside))

operation_rows : (mm : Metamodel) (scope : List (List ℕ)) (place : Place) {p0 p1 p2 : List Problem} {r0 r1 r2 : Option (List CheckedOperation)} {row : Option CheckedOperation} (o : Operation) (inner : List (List ℕ)) (there : Place) (inside : List Operation) → Tells (action_at mm scope place (out-Operation o).action) p0 row p1 → r1 ≡ and_then r0 row → inner ≡ scope_inside scope (out-Operation o).action → there ≡ place ▸ codes "do" → inside ≡ (out-Operation o).inside → TellsRows (operations_from mm inner there 0 (trees_of inside)) p1 r1 r2 p2 → TellsRows (operation_at mm scope place (tree_of o)) p0 r0 r2 p2
operation_rows mm scope place o inner there inside first is around at all others = rw (operation_parts mm scope place o) (rows_both (rows_one first is) (rw (around, at, all) at others))

pub operation_told : (mm : Metamodel) (scope : List (List ℕ)) (place : Place) {p0 p1 : List Problem} (p2 : List Problem) (r0 : Option (List CheckedOperation)) {r1 : Option (List CheckedOperation)} (r2 : Option (List CheckedOperation)) {row : Option CheckedOperation} (o : Operation) (inner : List (List ℕ)) (there : Place) (inside : List Operation) (result : Result ⊤ AllocError) → Tells (action_at mm scope place (out-Operation o).action) p0 row p1 → r1 ≡ and_then r0 row → inner ≡ scope_inside scope (out-Operation o).action → there ≡ place ▸ codes "do" → inside ≡ (out-Operation o).inside → OnOk result (TellsRows (operations_from mm inner there 0 (trees_of inside)) p1 r1 r2 p2) → OnOk result (TellsRows (operation_at mm scope place (tree_of o)) p0 r0 r2 p2)
operation_told mm scope place p2 r0 r2 o inner there inside (Ok u) first is around at all others = operation_rows mm scope place o inner there inside first is around at all others
operation_told mm scope place p2 r0 r2 o inner there inside (Err e) first is around at all others = tt

-- ---- operations one after another

operations_more : (mm : Metamodel) (scope : List (List ℕ)) (place : Place) (i n : ℕ) (os : List Operation) (o : Operation) → n ≡ i + length os → operations_from mm scope place i (trees_of (os ++ o ∷ [])) ≡ both (operations_from mm scope place i (trees_of os)) (operation_at mm scope (place ! n) (tree_of o))
unfolding operations_from
operations_more mm scope place i n [] o is =
    let same : n ≡ i = omega (arith, is) in
    rw same (both_nothing (operation_at mm scope (place ! i) (tree_of o)) ∙ sym (nothing_both (operation_at mm scope (place ! i) (tree_of o))))
operations_more mm scope place i n (p ∷ os) o is =
    ap (both (operation_at mm scope (place ! i) (tree_of p))) (operations_more mm scope place (suc i) n os o (omega (arith, is)))
    ∙ both_assoc (operation_at mm scope (place ! i) (tree_of p)) (operations_from mm scope place (suc i) (trees_of os)) (operation_at mm scope (place ! n) (tree_of o))

-- before the first
pub operations_none : (mm : Metamodel) (scope : List (List ℕ)) (place : Place) (os : List Operation) (p0 : List Problem) (r0 : Option (List CheckedOperation)) → TellsRows (operations_from mm scope place 0 (trees_of (take 0 os))) p0 r0 r0 p0
unfolding operations_from
operations_none mm scope place os p0 r0 = rows_none p0 r0

-- one more
pub operations_on : (mm : Metamodel) (scope : List (List ℕ)) (place : Place) (i : ℕ) (os : List Operation) {p0 p1 p2 : List Problem} {r0 r1 r2 : Option (List CheckedOperation)} (o : Operation) (there : Place) → TellsRows (operations_from mm scope place 0 (trees_of (take i os))) p0 r0 r1 p1 → i < length os → o ≡ get_or os i o → there ≡ place ! i → TellsRows (operation_at mm scope there (tree_of o)) p1 r1 r2 p2 → TellsRows (operations_from mm scope place 0 (trees_of (take (i + 1) os))) p0 r0 r2 p2
operations_on mm scope place i os o there old within here at one =
    let count : i ≡ 0 + length (take i os) = omega (arith, length-take-le i os) in
    let more : take (i + 1) os ≡ take i os ++ o ∷ [] = take_more os i o within ∙ ap (λ y. take i os ++ y ∷ []) (sym here) in
    let whole : operations_from mm scope place 0 (trees_of (take (i + 1) os)) ≡ both (operations_from mm scope place 0 (trees_of (take i os))) (operation_at mm scope (place ! i) (tree_of o)) =
    ap (λ ys. operations_from mm scope place 0 (trees_of ys)) more ∙ operations_more mm scope place 0 i (take i os) o count in
    rw whole (rows_both old (rw at at one))
