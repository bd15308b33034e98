-- The containers above an object, and what climbs to them give.
use Rattle.std.specs.Prelude.{◌≡◌, ℕ, List, [], ◌∷◌, map, find, Option, None, Some, Ok, if◌then◌else◌}
use Rattle.std.specs.Option.{option_map_or}
use Rattle.wb_metamodel.specs.Metamodel.{Metamodel}
use Rattle.wb_store.specs.declared.scalars.Scalar.TheVariants.{Object}
use Rattle.wb_store.specs.declared.scalars.Cell.{Cell}
use Rattle.wb_store.specs.declared.scalars.Cell.TheVariants.{Kind, Holder}
use Rattle.wb_store.specs.Contents.{Contents, kind}
use Rattle.wb_store.specs.Cells.{holder}
use Rattle.wb_aql_values.specs.declared.values.Value.{Value}
use Rattle.wb_aql_values.specs.declared.values.Value.TheVariants.{Null, One}
use Rattle.wb_aql_values.specs.Readings.{contents}
use Rattle.wb_aql_values.specs.Runs.{run, with_reads}
use Rattle.wb_aql_services.specs.Types.{is_of}
use Rattle.wb_aql_services.specs.Navigation.{climbed, height}

-- the containers above an object, nearest first, up to one that stands in none
pub data AreAbove (m : Contents) : ℕ → List ℕ → Type 0 where
  top : {o : ℕ} → holder m o ≡ None → AreAbove m o []
  under : {o p f : ℕ} {ps : List ℕ} → holder m o ≡ Some (p, f) → AreAbove m p ps → AreAbove m o (p ∷ ps)

-- a climb, after these reads, met all of them, and looked at the holder of the object and of each that it met
pub record IsClimbed (m : Contents) (o : ℕ) (old : List Cell) : Type 0 where
  pub met : List ℕ
  pub above : AreAbove m o met
  pub ran : run (climbed height [] o) (contents m) old ≡ record { gave = Ok met; reads = with_reads old (map Holder (o ∷ met)) }

-- the first of these objects that is of a type, or null
abbrev pub first_of : Metamodel → Option ℕ → Contents → List ℕ → Value
first_of mm t m os = option_map_or (λ o. One (Object o)) (find (λ o. is_of mm t (kind m o)) os) Null

-- the cells that are looked at for it: the holder of each object on the way, and the class of each container that is met
abbrev pub looked_at : Metamodel → Option ℕ → Contents → ℕ → List ℕ → List Cell
looked_at mm t m o [] = Holder o ∷ []
looked_at mm t m o (p ∷ ps) = Holder o ∷ Kind p ∷ (if is_of mm t (kind m p) then [] else looked_at mm t m p ps)
