-- Whether an element would be declared if its key were marked shown.
use Rattle.std.specs.Prelude.{ℕ, Bool, true, false, not, nat_eq, ◌&&◌, List, [], ◌∷◌, ◌++◌, if◌then◌else◌}
use Rattle.std.specs.Option.{option_map_or}
use Rattle.std.specs.List.{list_any}
use Rattle.wb_store.specs.Contents.{Contents}
use Rattle.wb_validity.specs.Valid.{conforms_to}
use Rattle.wb_diagram.specs.declared.keys.Key.{Key}
use Rattle.wb_diagram.specs.declared.keys.Pair.{Pair}
use Rattle.wb_diagram.specs.declared.units.Unit.{Unit}
use Rattle.wb_diagram.specs.declared.units.Unit.TheVariants.{Precondition}
use Rattle.wb_aql_values.specs.declared.values.Answer.{Answer}
use Rattle.wb_spec_check.specs.Checked.{Specification}
use Rattle.wb_spec_check.specs.declared.checked_mappings.CheckedNode.{CheckedNode}
use Rattle.wb_answers.specs.Meanings.{is_true, objects_of}
use Rattle.wb_answers.specs.SameKeys.{among}
use Rattle.wb_nodes.specs.Nodes.{candidates_at, child_mappings, is_conditional, is_cut, node_mapping, parent_of}
use Rattle.wb_refresh.specs.Openings.{Kept, answer_in}

-- the key of a path and a pair under it
abbrev pub key_under : List Pair → Pair → Key
key_under path own = record { pairs = path ++ own ∷ [] }

-- a path leads to an element that is one of these, or to the diagram
abbrev pub leads_to : List Key → List Pair → Bool
leads_to nodes path = option_map_or (among nodes) (parent_of path) true

-- may elements of the mapping of this number stand directly under a path?
abbrev pub may_stand : Specification → List Pair → ℕ → Bool
may_stand spec path n = list_any (nat_eq n) (child_mappings spec path)

-- the object is live, of the mapping's class, and not cut
abbrev pub fits_under : Contents → List Pair → CheckedNode → Pair → Bool
fits_under m path node own = conforms_to m node.objects.domain own.object && not (is_cut path own)

-- ---- by the answers that are recorded of a diagram

-- the object is one of those of the unit's answer
abbrev pub gives_object : Kept → Unit → ℕ → Bool
gives_object kept unit o = option_map_or (λ (it : Answer). list_any (nat_eq o) (objects_of it)) (answer_in kept unit) false

-- the unit's answer is true
abbrev pub gives_true : Kept → Unit → Bool
gives_true kept unit = option_map_or is_true (answer_in kept unit) false

-- the precondition is true, if there is one
abbrev pub meets : Specification → Kept → ℕ → Key → Bool
meets spec kept n key = if is_conditional spec n then gives_true kept (Precondition key) else true

-- the object can stand under the path, is a candidate there, and meets the precondition
abbrev pub is_admitted : Specification → Contents → Kept → List Pair → Pair → CheckedNode → Bool
is_admitted spec m kept path own node =
    fits_under m path node own
    && (gives_object kept (candidates_at path own.mapping) own.object && meets spec kept own.mapping (key_under path own))

-- what the path leads to is declared, a child mapping of it is the pair's, and that admits the object
abbrev pub would_stand : Specification → Contents → Kept → List Pair → Pair → Bool
would_stand spec m kept path own =
    leads_to kept.nodes path
    && (may_stand spec path own.mapping && option_map_or (is_admitted spec m kept path own) (node_mapping spec own.mapping) false)
