-- The roots taken up one by one.
use Rattle.std.specs.Prelude.{◌≡◌, ℕ, Bool, true, false, List, slice_get, slice_set, Option, Some, None}
use Rattle.wb_store.specs.declared.containment.Link.{Link}
use Rattle.wb_store.specs.declared.records.Record.{Record}
use Rattle.wb_store.specs.Places.{IsPlaceOf}
use Rattle.wb_store.specs.Records.{id_of}

-- a root that is live, in no containment slot, and not yet seen is seen then
pub record TakesRoot (records : List Record) (holders : List (Option Link)) (o : ℕ) (old new : List Bool) : Type 0 where
  pub place : ℕ
  pub is_place : IsPlaceOf id_of records o (Some place)
  pub free : slice_get holders place ≡ Some None
  pub unseen : slice_get old place ≡ Some false
  pub after : new ≡ slice_set old place true

-- why a root is not taken up: it is not live, it is contained, or it was seen
pub data IsNoRoot (records : List Record) (holders : List (Option Link)) (o : ℕ) (seen : List Bool) : Type 0 where
  dead : IsPlaceOf id_of records o None → IsNoRoot records holders o seen
  contained : (i : ℕ) (l : Link) → IsPlaceOf id_of records o (Some i) → slice_get holders i ≡ Some (Some l) → IsNoRoot records holders o seen
  again : (i : ℕ) → IsPlaceOf id_of records o (Some i) → slice_get seen i ≡ Some true → IsNoRoot records holders o seen

-- each object in no containment slot was seen
abbrev pub AllSeen : List (Option Link) → List Bool → Type 0
AllSeen holders seen = (i : ℕ) → slice_get holders i ≡ Some None → slice_get seen i ≡ Some true

-- one of them was not
pub record IsUnseen (holders : List (Option Link)) (seen : List Bool) : Type 0 where
  pub place : ℕ
  pub free : slice_get holders place ≡ Some None
  pub unseen : slice_get seen place ≡ Some false
