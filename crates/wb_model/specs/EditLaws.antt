-- What is true of every edit that is accepted.
use Rattle.std.specs.Prelude.{◌≡◌, ◌≢◌, ℕ, suc, ◌≤◌, ◌⊎◌, Bool, false, List, [], ◌++◌, filter, length, IsSome, Some, None, Ok}
use Rattle.wb_store.specs.declared.scalars.Scalar.{Scalar}
use Rattle.wb_store.specs.declared.scalars.Place.{Place}
use Rattle.wb_store.specs.Contents.{Contents, kind, slot, has_object}
use Rattle.wb_store.specs.Features.{opposite}
use Rattle.wb_validity.specs.Valid.{is_root, Within}
use Rattle.wb_model.specs.Edits.{set, add, take_out, unset, move_to, remove, create}

-- the second model is what an accepted edit makes of the first
pub data IsEdited (m n : Contents) : Type 0 where
  by_set : (o f : ℕ) (v : Scalar) → set m o f v ≡ Ok n → IsEdited m n
  by_add : (o f : ℕ) (v : Scalar) → add m o f v ≡ Ok n → IsEdited m n
  by_take : (o f : ℕ) (v : Scalar) → take_out m o f v ≡ Ok n → IsEdited m n
  by_unset : (o f : ℕ) → unset m o f ≡ Ok n → IsEdited m n
  by_move : (o p f : ℕ) → move_to m o p f ≡ Ok n → IsEdited m n
  by_remove : (o : ℕ) → remove m o ≡ Ok n → IsEdited m n
  by_create : (class : ℕ) (place : Place) → create m class place ≡ Ok n → IsEdited m n

-- the second model is what accepted edits, one after another, make of the first
pub data AreEdited (m : Contents) : Contents → Type 0 where
  by_none : AreEdited m m
  by_more : {k n : Contents} → AreEdited m k → IsEdited k n → AreEdited m n

-- some of the values stay, in their order, and one value at most comes after them
pub record KeepsOrder (old new : List Scalar) : Type 0 where
  pub stays : Scalar → Bool
  pub last : List Scalar
  pub one : length last ≤ 1
  pub is : new ≡ filter stays old ++ last

-- of all slots only those of a feature and its opposite change, and of the rest nothing
pub record ChangesOnly (m n : Contents) (f : ℕ) : Type 0 where
  pub slots : (o h : ℕ) → h ≢ f → opposite m.metamodel f ≢ Some h → slot n o h ≡ slot m o h
  pub classes : (o : ℕ) → kind n o ≡ kind m o
  pub roots : n.roots ≡ m.roots

-- a number that an edit gives to an object was given to none before
pub record NumbersAreFresh (m n : Contents) : Type 0 where
  pub never_falls : m.next ≤ n.next
  pub fresh : (o : ℕ) → IsSome (kind n o) → kind m o ≡ None → (o ≡ m.next) × (n.next ≡ suc m.next)

-- the second object goes where the first is removed: it is that object, or stands within it
abbrev pub GoesWith : Contents → ℕ → ℕ → Type 0
GoesWith m o x = (x ≡ o) ⊎ Within m o x

-- an object is not live, has no values, is no value, and is no root
pub record IsNowhere (m : Contents) (o : ℕ) : Type 0 where
  pub dead : kind m o ≡ None
  pub has_no_value : (f : ℕ) → slot m o f ≡ []
  pub is_no_value : (p f : ℕ) → has_object (slot m p f) o ≡ false
  pub is_no_root : is_root m o ≡ false
