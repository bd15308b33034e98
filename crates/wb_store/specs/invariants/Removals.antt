-- What is left of objects and slots where some objects are deleted.
use Rattle.std.specs.Prelude.{ℕ, Bool, not, List, map, filter}
use Rattle.wb_store.specs.declared.scalars.Scalar.{Scalar}
use Rattle.wb_store.specs.declared.records.Record.{Record}
use Rattle.wb_store.specs.declared.records.Slot.{Slot}
use Rattle.wb_store.specs.Relinking.{is_among, is_value_among}

-- the values that are none of these objects
abbrev pub values_left : List ℕ → List Scalar → List Scalar
values_left dead values = filter (λ v. not (is_value_among dead v)) values

abbrev pub slot_left : List ℕ → Slot → Slot
slot_left dead s = record { feature = s.feature; values = values_left dead s.values }

abbrev pub record_left : List ℕ → Record → Record
record_left dead r = record { id = r.id; class = r.class; slots = map (slot_left dead) r.slots }

abbrev pub stays : List ℕ → Record → Bool
stays dead r = not (is_among dead r.id)
