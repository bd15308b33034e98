-- What a check of a part gives: its value, or all its problems in the order of the walk.
use Rattle.std.specs.Prelude.{ℕ, suc, List, [], ◌∷◌, ◌++◌, Option, Some, None, Result, Ok, Err}
use Rattle.wb_json.specs.Place.{Place}
use Rattle.wb_expressions.specs.declared.problem.ProblemCode.{ProblemCode}
use Rattle.wb_spec_check.specs.declared.problem.Problem.{Problem}

-- a value, or one problem and more
pub data Validated (A : Type 0) : Type 0 where
  good : A → Validated A
  bad : Problem → List Problem → Validated A

-- a function of two parts that are checked one after the other: the problems of both count
abbrev pub ◌<*>◌ : {A B : Type 0} → Validated (A → B) → Validated A → Validated B
(good f) <*> (good x) = good (f x)
(good f) <*> (bad q qs) = bad q qs
(bad p ps) <*> (good x) = bad p ps
(bad p ps) <*> (bad q qs) = bad p (ps ++ (q ∷ qs))

infixl 20 ◌<*>◌
-- the problems that were found, and the value where there is none
abbrev pub problems_of : {A : Type 0} → Validated A → List Problem
problems_of (good x) = []
problems_of (bad p ps) = p ∷ ps

abbrev pub value_of : {A : Type 0} → Validated A → Option A
value_of (good x) = Some x
value_of (bad p ps) = None

-- what is wrong with one name or one text: a code, and a detail
abbrev pub Finding : Type 0
Finding = ProblemCode × List ℕ

-- a spot of the walk: what was found there, or its one problem
abbrev pub at : {A : Type 0} → Place → Result A Finding → Validated A
at place (Ok x) = good x
at place (Err finding) = bad (record { place = place; code = finding.0; detail = finding.1 }) []

-- a part that may be absent
abbrev pub optional : {A B : Type 0} → (A → Validated B) → Option A → Validated (Option B)
optional check None = good None
optional check (Some x) = good Some <*> check x

-- each item of a list in order, with its number
abbrev pub each_from : {A B : Type 0} → (ℕ → A → Validated B) → ℕ → List A → Validated (List B)
each_from check i [] = good []
each_from check i (x ∷ xs) = good (λ y ys. y ∷ ys) <*> check i x <*> each_from check (suc i) xs

abbrev pub each : {A B : Type 0} → (ℕ → A → Validated B) → List A → Validated (List B)
each check xs = each_from check 0 xs
