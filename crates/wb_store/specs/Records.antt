-- Objects with their slots as a list, and the contents that such a list shows.
use Rattle.std.specs.Prelude.{ℕ, List, [], ◌∷◌, map, length, Bool, ◌&&◌, nat_lt}
use Rattle.std.specs.Option.{option_map_or}
use Rattle.std.specs.List.{list_all, flat_map}
use Rattle.std.specs.FinMap.{from_entries}
use Rattle.wb_metamodel.specs.Metamodel.{Metamodel}
use Rattle.wb_store.specs.declared.scalars.Scalar.{Scalar}
use Rattle.wb_store.specs.declared.records.Record.{Record}
use Rattle.wb_store.specs.declared.records.Slot.{Slot}
use Rattle.wb_store.specs.Places.{numbered}
use Rattle.wb_store.specs.Contents.{Contents, Filled}

-- an object with its class
abbrev pub kind_entry : Record → ℕ × ℕ
kind_entry r = (r.id, r.class)

-- the values of a slot, unless there are none
abbrev pub filled : ℕ × ℕ → List Scalar → List ((ℕ × ℕ) × Filled)
filled k [] = []
filled k (value ∷ values) = (k, record { first = value; more = values }) ∷ []

abbrev pub slot_entry : ℕ → Slot → List ((ℕ × ℕ) × Filled)
slot_entry o s = filled (o, s.feature) s.values

-- the slots of an object that are not empty
abbrev pub slot_entries : Record → List ((ℕ × ℕ) × Filled)
slot_entries r = flat_map (slot_entry r.id) r.slots

-- the contents of a list of objects
abbrev pub contents_of : Metamodel → ℕ → List Record → List ℕ → Contents
contents_of metamodel next records roots = record {
  metamodel = metamodel;
  next = next;
  kinds = from_entries (map kind_entry records);
  slots = from_entries (flat_map slot_entries records);
  roots = roots;
}

-- objects by number, and the slots of each by feature
abbrev pub id_of : Record → ℕ
id_of r = r.id

abbrev pub feature_of : Slot → ℕ
feature_of s = s.feature

-- the values of a feature among the slots of an object
abbrev pub values_in : ℕ → List Slot → List Scalar
values_in f slots = option_map_or (λ (s : Slot). s.values) (numbered feature_of f slots) []

-- is the feature of a slot, or are the class and the features of an object, those of the metamodel?
abbrev pub is_known_slot : Metamodel → Slot → Bool
is_known_slot metamodel s = nat_lt s.feature (length metamodel.features)

abbrev pub is_known : Metamodel → Record → Bool
is_known metamodel r = nat_lt r.class (length metamodel.classes) && list_all (is_known_slot metamodel) r.slots
