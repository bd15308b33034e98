-- The links from containers to what they contain.
use Rattle.std.specs.Prelude.{◌≡◌, ◌≢◌, ℕ, Bool, List, [], ◌∷◌, length, Contains, slice_set, slice_get, Option, Some, None, if◌then◌else◌, true, false}
use Rattle.std.specs.List.{flat_map}
use Rattle.wb_metamodel.specs.Metamodel.{Metamodel}
use Rattle.wb_store.specs.declared.scalars.Scalar.{Scalar}
use Rattle.wb_store.specs.declared.scalars.Scalar.TheVariants.{Object}
use Rattle.wb_store.specs.declared.records.Record.{Record}
use Rattle.wb_store.specs.declared.records.Slot.{Slot}
use Rattle.wb_store.specs.declared.containment.Link.{Link}
use Rattle.wb_store.specs.Contents.{Contents, is_containment, contains}
use Rattle.wb_store.specs.Places.{IsPlaceOf}
use Rattle.wb_store.specs.Records.{id_of, contents_of}
use Rattle.wb_store.specs.invariants.Plain.{IsPlain}

abbrev pub link : ℕ → ℕ → Scalar → List Link
link p f (Object o) = record { container = p; feature = f; object = o } ∷ []
link p f _ = []

abbrev pub slot_links : Metamodel → ℕ → Slot → List Link
slot_links metamodel p s = if is_containment metamodel s.feature then flat_map (link p s.feature) s.values else []

abbrev pub record_links : Metamodel → Record → List Link
record_links metamodel r = flat_map (slot_links metamodel r.id) r.slots

abbrev pub links_of : Metamodel → List Record → List Link
links_of metamodel records = flat_map (record_links metamodel) records

-- the objects that are kept for these contents
pub record Kept (m : Contents) (records : List Record) : Type 0 where
  pub shown : m ≡ contents_of m.metamodel m.next records m.roots
  pub plain : IsPlain m.metamodel records

-- a further link is taken up in the first links by which objects are held, and in the marks of those that more than one holds
pub data Notes (records : List Record) (l : Link) (first : List (Option Link)) (twice : List Bool) : List (Option Link) → List Bool → Type 0 where
  dead : IsPlaceOf id_of records l.object None → Notes records l first twice first twice
  fresh : (i : ℕ) → IsPlaceOf id_of records l.object (Some i) → slice_get first i ≡ Some None → Notes records l first twice (slice_set first i (Some l)) twice
  again : (i : ℕ) → IsPlaceOf id_of records l.object (Some i) → slice_get first i ≡ Some (Some l) → Notes records l first twice first twice
  clash : (i : ℕ) (held : Link) → IsPlaceOf id_of records l.object (Some i) → slice_get first i ≡ Some (Some held) → held ≢ l → Notes records l first twice first (slice_set twice i true)

-- two different links lead to the object at a place
pub record IsHeldTwice (records : List Record) (links : List Link) (place : ℕ) : Type 0 where
  pub first : Link
  pub second : Link
  pub has_first : Contains links first
  pub has_second : Contains links second
  pub to_first : IsPlaceOf id_of records first.object (Some place)
  pub to_second : IsPlaceOf id_of records second.object (Some place)
  pub differ : first ≢ second

-- a link by which each object is held, none where none of these links holds it, and which of them others hold too
pub record AreHolders (records : List Record) (links : List Link) (first : List (Option Link)) (twice : List Bool) : Type 0 where
  pub each : length first ≡ length records
  pub each_twice : length twice ≡ length records
  pub all : (l : Link) (i : ℕ) → Contains links l → IsPlaceOf id_of records l.object (Some i) → slice_get twice i ≡ Some false → slice_get first i ≡ Some (Some l)
  pub only : (l : Link) (i : ℕ) → slice_get first i ≡ Some (Some l) → Contains links l × IsPlaceOf id_of records l.object (Some i)
  pub others : (i : ℕ) → slice_get twice i ≡ Some true → IsHeldTwice records links i

-- the link by which each object is held in the model, none where none holds it
pub record KnowsHolders (m : Contents) (records : List Record) (holders : List (Option Link)) : Type 0 where
  pub each : length holders ≡ length records
  pub held : (i : ℕ) (r : Record) (l : Link) → slice_get records i ≡ Some r → slice_get holders i ≡ Some (Some l) → contains m l.container l.feature r.id ≡ true
  pub only : (i : ℕ) (r : Record) (l : Link) → slice_get records i ≡ Some r → slice_get holders i ≡ Some (Some l) → (p f : ℕ) → contains m p f r.id ≡ true → (p ≡ l.container) × (f ≡ l.feature)
  pub free : (i : ℕ) (r : Record) → slice_get records i ≡ Some r → slice_get holders i ≡ Some None → (p f : ℕ) → contains m p f r.id ≡ false
