-- Names with their numbers.
use Rattle.std.specs.Prelude.{◌≡◌, ⊤, ◌||◌, if◌then◌else◌, ℕ, List, [], Option, is_some, Result, Ok, Err}
use Rattle.std.specs.Ordering.{nat_cmp}
use Rattle.std.specs.Cmp.Lexicographic.{slice_cmp}
use Rattle.std.specs.BTreeMap.{get_by}
use Rattle.std.specs.List.{list_any}
use Rattle.wb_json.specs.Place.{Place}
use Rattle.wb_ecore.specs.declared.numbered_names.NumberedNames.{NumberedNames}
use Rattle.wb_ecore.specs.Naming.{same_name}

-- the number that a name has
abbrev pub number_of : NumberedNames → List ℕ → Option ℕ
number_of names name = get_by (λ key. slice_cmp nat_cmp name key.items) names.numbers

-- is the name none of these?
abbrev pub fresh_in : NumberedNames → List ℕ → Result ⊤ Place
fresh_in taken name = if is_some (number_of taken name) then Err [] else Ok tt

-- the name is one of these now, beside those that were
abbrev pub GainsName : NumberedNames → List ℕ → NumberedNames → Type 0
GainsName old name new = (other : List ℕ) → is_some (number_of new other) ≡ (is_some (number_of old other) || same_name name other)

-- the names are these
abbrev pub Holds : NumberedNames → List (List ℕ) → Type 0
Holds names all = (name : List ℕ) → is_some (number_of names name) ≡ list_any (same_name name) all
