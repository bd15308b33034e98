-- What a change of one slot leaves of the slots of an object, and of a list of objects.
use Rattle.std.specs.Prelude.{◌≡◌, ℕ, ◌≤◌, ◌<◌, nat_eq, ◌&&◌, if◌then◌else◌, List, [], map, length, true, Result, Ok, Err, slice_index_or, Some}
use Rattle.std.specs.Option.{option_map_or}
use Rattle.std.specs.List.{list_all}
use Rattle.wb_metamodel.specs.Metamodel.{Metamodel}
use Rattle.wb_store.specs.declared.scalars.Scalar.{Scalar}
use Rattle.wb_store.specs.declared.records.Record.{Record}
use Rattle.wb_store.specs.declared.records.Slot.{Slot}
use Rattle.wb_store.specs.Places.{rises, numbered, IsPlaceOf}
use Rattle.wb_store.specs.Records.{id_of, feature_of, values_in, is_known_slot, kind_entry}
use Rattle.wb_store.specs.invariants.Plain.{IsPlain}

-- a number that none of the list has stands between those before the place and those from it on
pub record IsGapFor {A : Type 0} (number : A → ℕ) (xs : List A) (n place : ℕ) : Type 0 where
  pub within : place ≤ length xs
  pub below : (k : ℕ) (d : A) → k < place → number (slice_index_or xs k d) < n
  pub above : (k : ℕ) (d : A) → place ≤ k → k < length xs → n < number (slice_index_or xs k d)

-- the place of the one that has the number, or else the gap where it belongs
abbrev pub IsPlaceOrGap : {A : Type 0} → (A → ℕ) → List A → ℕ → Result ℕ ℕ → Type 0
IsPlaceOrGap number xs n (Ok place) = IsPlaceOf number xs n (Some place)
IsPlaceOrGap number xs n (Err place) = IsGapFor number xs n place

-- the slots of an object have these values at a feature, and are the same elsewhere
pub record SlotsChange (f : ℕ) (values : List Scalar) (old new : List Slot) : Type 0 where
  pub rise : rises feature_of new ≡ true
  pub known : (metamodel : Metamodel) → f < length metamodel.features → list_all (is_known_slot metamodel) old ≡ true → list_all (is_known_slot metamodel) new ≡ true
  pub at : (g : ℕ) → values_in g new ≡ (if nat_eq g f then values else values_in g old)

-- the values of an object and a feature in a list of objects
abbrev pub held_at : ℕ → ℕ → List Record → List Scalar
held_at o f records = option_map_or (λ (r : Record). values_in f r.slots) (numbered id_of o records) []

-- the objects have these values at an object and a feature, and are the same elsewhere
pub record RecordsChange (o f : ℕ) (values : List Scalar) (old new : List Record) : Type 0 where
  pub kinds : map kind_entry new ≡ map kind_entry old
  pub plain : (metamodel : Metamodel) → f < length metamodel.features → IsPlain metamodel old → IsPlain metamodel new
  pub at : (p g : ℕ) → held_at p g new ≡ (if nat_eq p o && nat_eq g f then values else held_at p g old)
