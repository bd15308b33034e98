-- Which names a run asks for.
use Rattle.std.specs.Prelude.{ℕ, ◌≡◌, ⊤, List, [], ◌∷◌, ◌++◌, take}
use Rattle.wb_outer.specs.declared.shelf.Taken.{Taken}
use Rattle.wb_outer.specs.declared.shelf.Call.{Call}
use Rattle.wb_outer.specs.Shelf.{names_of}
use Rattle.wb_program.specs.Course.{Course, gives, stops, asks}

-- the course asks for these names in their order, all of them where it gives a value, and a front of them where it stops
abbrev pub AsksInTurn : {A : Type 0} → List (List ℕ) → Course A → Type 0
AsksInTurn [] (gives x) = ⊤
AsksInTurn (name ∷ names) (gives x) = ⊥
AsksInTurn names (stops answer) = ⊤
AsksInTurn [] (asks name next) = ⊥
AsksInTurn (first ∷ names) (asks name next) = (name ≡ first) × ((taken : Taken) → AsksInTurn names (next taken))

-- a front of the names was asked, in their order
pub record AsksFront (old new : List Call) (names : List (List ℕ)) : Type 0 where
  pub count : ℕ
  pub asked : names_of new ≡ names_of old ++ take count names
