-- What a step of the check tells: its value, and its problems behind those that were told before.
use Rattle.std.specs.Prelude.{◌≡◌, ⊤, ℕ, take, List, [], ◌∷◌, ◌++◌, Option, Some, None, Result, Ok, Err}
use Rattle.wb_json.specs.Place.{Place}
use Rattle.wb_spec_check.specs.Checked.{none_needed}
use Rattle.wb_spec_check.specs.Validated.{Finding, Validated, each, problems_of, value_of}
use Rattle.wb_spec_check.specs.declared.problem.Problem.{Problem}

-- it gives the value that was found, if one was, and adds the problems that were found
pub record Tells {A : Type 0} (found : Validated A) (old : List Problem) (given : Option A) (new : List Problem) : Type 0 where
  pub value : given ≡ value_of found
  pub problems : new ≡ old ++ problems_of found

-- for want of memory it may tell anything
abbrev pub Reports : {A E : Type 0} → Validated A → List Problem → Result (Option A) E → List Problem → Type 0
Reports found old (Ok given) new = Tells found old given new
Reports found old (Err e) new = ⊤

-- one problem was added
abbrev pub Adds : Place → Finding → List Problem → List Problem → Type 0
Adds place finding old new = new ≡ old ++ (record { place = place; code = finding.0; detail = finding.1 } ∷ [])

-- there is a problem, and it was added
abbrev pub AddsSome : Place → Option Finding → List Problem → List Problem → Type 0
AddsSome place (Some finding) old new = Adds place finding old new
AddsSome place None old new = ⊥

-- the function of the value, where both are there
abbrev pub ◌<&>◌ : {A B : Type 0} → Option (A → B) → Option A → Option B
None <&> x = None
(Some f) <&> None = None
(Some f) <&> (Some x) = Some (f x)

infixl 20 ◌<&>◌
-- one more value, where all are there
abbrev pub and_then : {A : Type 0} → Option (List A) → Option A → Option (List A)
and_then xs x = Some (λ ys y. ys ++ y ∷ []) <&> xs <&> x

-- the first items of a list were checked, and told this
pub record Gathers {A B : Type 0} (check : ℕ → A → Validated B) (items : List A) (checked : ℕ) (old : List Problem) (given : Option (List B)) (new : List Problem) : Type 0 where
  pub so_far : Tells (each check (take checked items)) old given new

abbrev pub both_good : ⊤ → ⊤ → ⊤
both_good x y = tt

-- the same where the items have no values, but all are good or not
pub record GathersAll {A : Type 0} (check : ℕ → A → Validated ⊤) (items : List A) (checked : ℕ) (old : List Problem) (given : Option ⊤) (new : List Problem) : Type 0 where
  pub values : Option (List ⊤)
  pub gathers : Gathers check items checked old values new
  pub all : given ≡ (Some none_needed <&> values)
