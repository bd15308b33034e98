-- Following containers upwards.
use Rattle.std.specs.Prelude.{◌≡◌, ℕ, zero, suc, ◌≤◌, Bool, true, false, nat_eq, List, length, slice_get, slice_set, Option, Some, None}
use Rattle.std.specs.Option.{option_map_or}
use Rattle.std.specs.List.{list_any}
use Rattle.wb_store.specs.declared.records.Record.{Record}
use Rattle.wb_store.specs.Contents.{Contents, contains}

-- the place of the container of an object, none where it has no container
pub record IsContainer (m : Contents) (records : List Record) (o i : ℕ) : Type 0 where
  pub container : Record
  pub feature : ℕ
  pub is_at : slice_get records i ≡ Some container
  pub holds : contains m container.id feature o ≡ true

abbrev pub IsContainerPlace : Contents → List Record → ℕ → Option ℕ → Type 0
IsContainerPlace m records o None = (p f : ℕ) → contains m p f o ≡ false
IsContainerPlace m records o (Some i) = IsContainer m records o i

-- so many containers above an object stands another
pub data Above (m : Contents) : ℕ → ℕ → ℕ → Type 0 where
  itself : {o : ℕ} → Above m zero o o
  upwards : {n o q p : ℕ} (f : ℕ) → contains m q f o ≡ true → Above m n q p → Above m (suc n) o p

-- the place of what stands so many containers above each object, none where nothing stands there
pub record IsAbove (m : Contents) (records : List Record) (n : ℕ) (places : List (Option ℕ)) : Type 0 where
  pub each : length places ≡ length records
  pub some : (i j : ℕ) (r : Record) → slice_get records i ≡ Some r → slice_get places i ≡ Some (Some j) → (q : Record) × (slice_get records j ≡ Some q) × Above m n r.id q.id
  pub none : (i : ℕ) (r : Record) → slice_get records i ≡ Some r → slice_get places i ≡ Some None → (p : ℕ) → ¬ (Above m n r.id p)

-- the same for at least so many containers
pub record IsFarAbove (m : Contents) (records : List Record) (least : ℕ) (places : List (Option ℕ)) : Type 0 where
  pub steps : ℕ
  pub far : least ≤ steps
  pub is_above : IsAbove m records steps places

-- from a place on, again as far as the list says
abbrev pub beyond : List (Option ℕ) → Option ℕ → Option ℕ
beyond places None = None
beyond places (Some i) = option_map_or (λ place. place) (slice_get places i) None

abbrev pub is_place : ℕ → Option ℕ → Bool
is_place j None = false
is_place j (Some i) = nat_eq i j

-- the marks with one more
abbrev pub with_met : List Bool → Option ℕ → List Bool
with_met met None = met
with_met met (Some i) = slice_set met i true

-- a place is marked exactly where it is one of these
pub record AreMet (places : List (Option ℕ)) (met : List Bool) : Type 0 where
  pub each : length met ≡ length places
  pub marked : (j : ℕ) (mark : Bool) → slice_get met j ≡ Some mark → mark ≡ list_any (is_place j) places
