-- What a building answers.
use Rattle.std.specs.Prelude.{◌≡◌, ℕ, List, true, Option, Some, None, Result, Ok, Err}
use Rattle.std.specs.List.{list_all}
use Rattle.wb_metamodel.specs.Metamodel.{Metamodel}
use Rattle.wb_store.specs.declared.parts.Part.{Part}
use Rattle.wb_model.specs.declared.building.BuildRefusal.{BuildRefusal}
use Rattle.wb_model.specs.declared.building.BuildRefusal.TheVariants.{Broken, NoMemory as OutOfMemory}
use Rattle.wb_validity.specs.declared.flaws.Flaw.{Flaw}
use Rattle.wb_validity.specs.declared.flaws.Flaw.TheVariants.{At, Whole, NoMemory}
use Rattle.wb_store.specs.Parts.{made_of, is_listed}
use Rattle.wb_validity.specs.Valid.{IsValid}
use Rattle.wb_validity.specs.Broken.{Breach}

-- the parts make a valid model
pub record MakeModel (metamodel : Metamodel) (next : ℕ) (parts : List Part) (roots : List ℕ) : Type 0 where
  pub listed : list_all (is_listed metamodel) parts ≡ true
  pub valid : IsValid (made_of metamodel next parts roots)

-- what a refusal says of a fact: that it does not hold, unless there was no memory
abbrev pub Refutes : BuildRefusal → Type 0 → Type 0
Refutes (Broken number object) P = ¬ P
Refutes OutOfMemory P = Unit {0}

-- a model where there is no breach, and else the breach that there is
abbrev pub NamesBreach : {A : Type 0} → Result A BuildRefusal → Option Breach → Type 0
NamesBreach (Ok x) breach = breach ≡ None
NamesBreach (Err (Broken number o)) breach = breach ≡ Some (number, o)
NamesBreach (Err OutOfMemory) breach = Unit {0}

abbrev pub refusal_of : Flaw → BuildRefusal
refusal_of (At number object) = Broken number (Some object)
refusal_of (Whole number) = Broken number None
refusal_of NoMemory = OutOfMemory
