-- The names that stand in the lists that were walked.
use Rattle.std.specs.Prelude.{◌≡◌, ◌||◌, ℕ, List, is_some}
use Rattle.std.specs.List.{flat_map, list_any}
use Rattle.wb_ecore.specs.invariants.NumberedNames.{number_of, Holds}
use Rattle.wb_viewpoint.specs.declared.content.Content.{Content}
use Rattle.wb_base.specs.Names.{same_name}
use Rattle.wb_spec_check.specs.ChildLists.{ChildList, names_elsewhere}
use Rattle.wb_spec_check.specs.declared.child_lists.Taken.{Taken}

-- exactly the names of these lists are taken, but that of a mapping among its own children
abbrev pub TakenBy : Content → List ChildList → Taken → Type 0
TakenBy content earlier taken = Holds taken.names (flat_map (names_elsewhere content) earlier)

-- the names of one more list are taken, beside those that were
abbrev pub Takes : List (List ℕ) → Taken → Taken → Type 0
Takes names old new = (other : List ℕ) → is_some (number_of new.names other) ≡ (is_some (number_of old.names other) || list_any (same_name other) names)
