-- The JSON value of a value of ours. What is written never has a float, so its text is fixed.
use Rattle.std.specs.Prelude.{ℕ, List, [], ◌∷◌, map, Option, Some, None}
use Rattle.serde_json.specs.Data.{Data, null, array, object, Members, no_members, put}
use Rattle.serde_json.specs.View.{items_of}

-- the list of the items' values
unfoldable pub list_json : {A : Type 0} → (A → Data) → List A → Data
list_json json xs = array (items_of (map json xs))

-- the value, or `null` for none
abbrev pub option_json : {A : Type 0} → (A → Data) → Option A → Data
option_json json (Some v) = json v
option_json json None = null

-- the members, each put at its name, among those that are there
abbrev pub put_all : {A : Type 0} → (A → Data) → List (List ℕ × A) → Members → Members
put_all json [] there = there
put_all json (m ∷ ms) there = put_all json ms (put m.0 (json m.1) there)

-- the object of these members, which ascend there by the bytes of their names
unfoldable pub members_json : {A : Type 0} → (A → Data) → List (List ℕ × A) → Data
members_json json ms = object (put_all json ms no_members)
