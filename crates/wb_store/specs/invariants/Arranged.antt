-- The parts of a model as the objects that are kept, ascending.
use Rattle.std.specs.Prelude.{◌≡◌, List, true}
use Rattle.std.specs.List.{AllZip}
use Rattle.std.specs.List.Sorted.{IsPermutation, IsNonDecreasingBy}
use Rattle.wb_store.specs.declared.records.Record.{Record}
use Rattle.wb_store.specs.declared.records.Slot.{Slot}
use Rattle.wb_store.specs.Places.{rises}
use Rattle.wb_store.specs.Records.{id_of, feature_of}

-- the same slots, ascending
pub record AreArranged (slots arranged : List Slot) : Type 0 where
  pub same : IsPermutation slots arranged
  pub rise : rises feature_of arranged ≡ true

-- the same object, its slots ascending
pub record IsArranged (r arranged : Record) : Type 0 where
  pub id : arranged.id ≡ r.id
  pub class : arranged.class ≡ r.class
  pub slots : AreArranged r.slots arranged.slots

-- the same objects, each arranged, ascending by number
pub record AreSorted (objects sorted : List Record) : Type 0 where
  pub arranged : List Record
  pub each : AllZip IsArranged objects arranged
  pub same : IsPermutation arranged sorted
  pub ascend : IsNonDecreasingBy id_of sorted
