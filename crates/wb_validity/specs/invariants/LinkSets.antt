-- The links by features that have opposites.
use Rattle.std.specs.Prelude.{◌≡◌, ℕ, Bool, true, ◌&&◌, nat_eq, is_some, List}
use Rattle.std.specs.List.{list_any}
use Rattle.wb_metamodel.specs.Metamodel.{Metamodel}
use Rattle.wb_store.specs.declared.records.Record.{Record}
use Rattle.wb_store.specs.declared.records.Slot.{Slot}
use Rattle.wb_store.specs.Contents.{Contents, has_object, slot}
use Rattle.wb_store.specs.Features.{opposite}

abbrev pub has_opposite : Metamodel → ℕ → Bool
has_opposite metamodel f = is_some (opposite metamodel f)

-- is there a link from an object, by a feature, to another?
abbrev pub has_link : List (ℕ × ℕ × ℕ) → ℕ → ℕ → ℕ → Bool
has_link links p g o = list_any (λ (l : ℕ × ℕ × ℕ). nat_eq p l.0 && nat_eq g l.1 && nat_eq o l.2) links

-- do the slot, or the slots of the object, have such a link?
abbrev pub slot_has : Metamodel → ℕ → ℕ → Slot → Bool
slot_has metamodel g o s = nat_eq g s.feature && (has_opposite metamodel s.feature && has_object s.values o)

abbrev pub record_has : Metamodel → ℕ → ℕ → ℕ → Record → Bool
record_has metamodel p g o r = nat_eq p r.id && list_any (slot_has metamodel g o) r.slots

-- a link by a feature that has an opposite is among these exactly where the slot has the object
pub record KnowsLinks (m : Contents) (links : List (ℕ × ℕ × ℕ)) : Type 0 where
  pub exact : (p g o : ℕ) → has_opposite m.metamodel g ≡ true → has_link links p g o ≡ has_object (slot m p g) o
