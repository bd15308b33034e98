-- The lists of mappings whose elements stand in the diagram, in an element, or on its border: which mapping may stand in which.
use Rattle.std.specs.Prelude.{ℕ, Bool, true, false, not, ◌&&◌, ◌||◌, nat_eq, List, [], ◌∷◌, filter, take, slice_get, Result, Ok}
use Rattle.std.specs.Option.{option_map_or}
use Rattle.std.specs.List.{list_any, flat_map, enumerate_from}
use Rattle.wb_base.specs.Names.{same_name}
use Rattle.wb_base.specs.Results.{◌>>=◌}
use Rattle.wb_expressions.specs.declared.problem.ProblemCode.TheVariants as c
use Rattle.wb_viewpoint.specs.declared.content.Content.{Content}
use Rattle.wb_viewpoint.specs.declared.mappings.Mapping.{Mapping}
use Rattle.wb_viewpoint.specs.declared.mappings.MappingForm.{MappingForm}
use Rattle.wb_viewpoint.specs.declared.mappings.MappingForm.TheVariants.{Node as NodeForm, Edge as EdgeForm}
use Rattle.wb_viewpoint.specs.declared.nodes.NodeKind.{NodeKind}
use Rattle.wb_viewpoint.specs.declared.nodes.NodeKind.TheVariants as kind
use Rattle.wb_viewpoint.specs.declared.nodes.NodeMapping.{NodeMapping}
use Rattle.wb_spec_check.specs.Findings.{mapping_found, mapping_named, problem_if}
use Rattle.wb_spec_check.specs.Validated.{Finding}
use Rattle.wb_spec_check.specs.declared.roles.Role.{Role}
use Rattle.wb_spec_check.specs.declared.roles.Role.TheVariants as role

-- ---- the lists, in the order of the walk

-- a list of names, and where the elements of these mappings stand
pub record ChildList : Type 0 where
  pub role : Role
  pub names : List (List ℕ)

abbrev pub top_list : Content → ChildList
top_list content = record { role = role.Top; names = content.top }

-- the children and the borders of the mapping of this number
abbrev pub children_list : ℕ → NodeMapping → ChildList
children_list n node = record { role = role.Children n node.kind; names = node.children }

abbrev pub borders_list : NodeMapping → ChildList
borders_list node = record { role = role.Borders; names = node.borders }

-- the lists of a mapping, which has this number: children and then borders
abbrev pub lists_of_form : ℕ → MappingForm → List ChildList
lists_of_form n (NodeForm node) = children_list n node ∷ borders_list node ∷ []
lists_of_form n (EdgeForm edge) = []

-- the lists that the walk meets before it comes to the mapping of this number
abbrev pub lists_before : Content → ℕ → List ChildList
lists_before content n = top_list content ∷ flat_map (λ (i : ℕ × Mapping). lists_of_form i.0 i.1.form) (enumerate_from 0 (take n content.mappings))

-- ---- names that stand in two lists

-- are these the children of the mapping itself?
abbrev pub is_own : Role → ℕ → Bool
is_own role.Top k = false
is_own (role.Children n kind) k = nat_eq n k
is_own role.Borders k = false

abbrev pub is_own_name : Content → Role → List ℕ → Bool
is_own_name content role name = option_map_or (is_own role) (mapping_named content name) false

-- the names of a list but that of the mapping whose children they are
abbrev pub names_elsewhere : Content → ChildList → List (List ℕ)
names_elsewhere content list = filter (λ name. not (is_own_name content list.role name)) list.names

-- The name, which names mapping k, stands earlier in its list, or in an earlier list; but a mapping may stand among its own
-- children and in other lists too.
abbrev pub is_reused : Content → List ChildList → ChildList → (i : ℕ) → (k : ℕ) → List ℕ → Bool
is_reused content earlier list i k name =
    list_any (same_name name) (take i list.names)
    || (not (is_own list.role k) && list_any (same_name name) (flat_map (names_elsewhere content) earlier))

-- ---- kinds that fit

-- is the mapping a node, container or list, which can stand by itself?
abbrev pub stands_free : MappingForm → Bool
stands_free (NodeForm node) = stands node.kind
  where
    stands : NodeKind → Bool
    stands kind.Node = true
    stands kind.Container = true
    stands kind.List = true
    stands kind.Border = false
stands_free (EdgeForm edge) = false

abbrev pub is_empty : {A : Type 0} → List A → Bool
is_empty [] = true
is_empty (x ∷ xs) = false

-- a node without children and borders, which can be an item of a list
abbrev pub is_item : MappingForm → Bool
is_item (NodeForm node) = is_node node.kind && is_empty node.children && is_empty node.borders
  where
    is_node : NodeKind → Bool
    is_node kind.Node = true
    is_node kind.Container = false
    is_node kind.List = false
    is_node kind.Border = false
is_item (EdgeForm edge) = false

abbrev pub is_border : MappingForm → Bool
is_border (NodeForm node) = on_border node.kind
  where
    on_border : NodeKind → Bool
    on_border kind.Node = false
    on_border kind.Container = false
    on_border kind.List = false
    on_border kind.Border = true
is_border (EdgeForm edge) = false

-- may a mapping of this form stand inside elements of this kind?
abbrev pub fits_inside : NodeKind → MappingForm → Bool
fits_inside kind.Node form = false
fits_inside kind.Container form = stands_free form
fits_inside kind.List form = is_item form
fits_inside kind.Border form = false

-- may it stand here?
abbrev pub fits : Role → MappingForm → Bool
fits role.Top form = stands_free form
fits (role.Children n kind) form = fits_inside kind form
fits role.Borders form = is_border form

abbrev pub fits_mapping : Content → Role → ℕ → Bool
fits_mapping content role k = option_map_or (λ (mapping : Mapping). fits role mapping.form) (slice_get content.mappings k) false

-- ---- one name of a list

-- the mapping that the i-th name of a list names, after these lists
unfoldable pub child_found : Content → List ChildList → ChildList → ℕ → List ℕ → Result ℕ Finding
child_found content earlier list i name = do
  k ← mapping_found content name
  _ ← problem_if (is_reused content earlier list i k name) c.MappingReused name
  _ ← problem_if (not (fits_mapping content list.role k)) c.BadChild name
  Ok k
