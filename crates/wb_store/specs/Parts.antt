-- A model that is given by its parts.
use Rattle.std.specs.Prelude.{◌≡◌, ℕ, ◌≤◌, List, map, length, Bool, true, ◌&&◌, nat_lt}
use Rattle.std.specs.Bool.{beq}
use Rattle.std.specs.List.{list_all}
use Rattle.wb_metamodel.specs.Metamodel.{Metamodel}
use Rattle.wb_store.specs.declared.parts.Part.{Part}
use Rattle.wb_store.specs.declared.parts.SlotPart.{SlotPart}
use Rattle.wb_store.specs.declared.records.Record.{Record}
use Rattle.wb_store.specs.declared.records.Slot.{Slot}
use Rattle.wb_store.specs.Contents.{Contents}
use Rattle.wb_store.specs.Records.{contents_of, is_known, id_of, feature_of}
use Rattle.wb_store.specs.Features.{is_many}
use Rattle.wb_store.specs.Places.{once}

abbrev pub slot_of : SlotPart → Slot
slot_of s = record { feature = s.feature; values = s.values }

abbrev pub record_of : Part → Record
record_of p = record { id = p.id; class = p.class; slots = map slot_of p.slots }

-- the contents that the parts of a model make
abbrev pub made_of : Metamodel → ℕ → List Part → List ℕ → Contents
made_of metamodel next parts roots = contents_of metamodel next (map record_of parts) roots

-- what parts have to be before they can be looked at: classes and features of the metamodel,
-- objects with numbers of their own, each feature once in an object, and at most 20,000 objects
pub record AreParts (metamodel : Metamodel) (parts : List Part) : Type 0 where
  pub known : list_all (is_known metamodel) (map record_of parts) ≡ true
  pub objects_once : once (map id_of (map record_of parts)) ≡ true
  pub features_once : list_all (λ (r : Record). once (map feature_of r.slots)) (map record_of parts) ≡ true
  pub few : length parts ≤ 20000

-- are the classes and features of parts those of the metamodel?
abbrev pub are_known : Metamodel → List Part → Bool
are_known metamodel parts = list_all (λ (p : Part). is_known metamodel (record_of p)) parts

-- is a slot not empty, and written as a list exactly where its feature has many values?
abbrev pub is_listed_slot : Metamodel → SlotPart → Bool
is_listed_slot metamodel s = beq s.listed (is_many metamodel s.feature) && nat_lt 0 (length s.values)

abbrev pub is_listed : Metamodel → Part → Bool
is_listed metamodel p = list_all (is_listed_slot metamodel) p.slots
