-- The checks of a mapping's parts, in the order of the walk.
use Rattle.std.specs.Prelude.{ℕ, List, [], ◌∷◌, ◌++◌, Option, Some, None, unwrap_or, map, take, codes}
use Rattle.wb_json.specs.Place.{Place}
use Rattle.wb_metamodel.specs.Metamodel.{Metamodel}
use Rattle.wb_aql_check.specs.declared.checked.Origin.{Origin}
use Rattle.wb_aql_check.specs.declared.checked.Origin.TheVariants.{Extent}
use Rattle.wb_expressions.specs.Expressions.{expression}
use Rattle.wb_viewpoint.specs.declared.content.Content.{Content}
use Rattle.wb_viewpoint.specs.declared.edges.EdgeMapping.{EdgeMapping}
use Rattle.wb_viewpoint.specs.declared.edges.ObjectEdge.{ObjectEdge}
use Rattle.wb_viewpoint.specs.declared.mappings.Mapping.{Mapping}
use Rattle.wb_viewpoint.specs.declared.mappings.MappingForm.{MappingForm}
use Rattle.wb_viewpoint.specs.declared.mappings.MappingForm.TheVariants.{Node as NodeForm, Edge as EdgeForm}
use Rattle.wb_viewpoint.specs.declared.nodes.NodeMapping.{NodeMapping}
use Rattle.wb_viewpoint.specs.declared.objects.Objects.{Objects}
use Rattle.wb_viewpoint.specs.declared.styles.ConditionalStyle.{ConditionalStyle}
use Rattle.wb_viewpoint.specs.declared.styles.Looks.{Looks}
use Rattle.wb_viewpoint.specs.declared.styles.Style.{Style}
use Rattle.wb_spec_check.specs.ChildLists.{ChildList, children_list, borders_list, lists_before, child_found}
use Rattle.wb_spec_check.specs.Findings.{class_found, layer_found, end_found, own_name}
use Rattle.wb_spec_check.specs.Places.{◌▸◌, ◌!◌}
use Rattle.wb_spec_check.specs.Scopes.{own_scope, container_scope}
use Rattle.wb_spec_check.specs.Validated.{Validated, good, ◌<*>◌, at, optional, each}
use Rattle.wb_spec_check.specs.declared.checked_looks.CheckedStyle.{CheckedStyle}
use Rattle.wb_spec_check.specs.declared.checked_looks.CheckedLooks.{CheckedLooks}
use Rattle.wb_spec_check.specs.declared.checked_mappings.CheckedObjects.{CheckedObjects}
use Rattle.wb_spec_check.specs.declared.checked_mappings.CheckedMapping.{CheckedMapping}
use Rattle.wb_spec_check.specs.declared.checked_mappings.CheckedForm.TheVariants.{Node as CheckedNodeForm, Edge as CheckedEdgeForm}
use Rattle.wb_spec_check.specs.declared.groups.Shown.{Shown}
use Rattle.wb_spec_check.specs.declared.groups.Nested.{Nested}
use Rattle.wb_spec_check.specs.declared.groups.Ends.{Ends}
use Rattle.wb_spec_check.specs.declared.checked_mappings.CheckedSource.{CheckedSource}

-- ---- expressions, and lists of names

-- the expression at a place, where these variables are in scope
abbrev pub expression_at : Metamodel → List (List ℕ) → Place → List ℕ → Validated (Origin × List (List ℕ))
expression_at mm scope place text = at place (expression mm scope text)

abbrev pub ends_at : Content → Place → List (List ℕ) → Validated (List ℕ)
ends_at content place names = each (λ i name. at (place ! i) (end_found content name)) names

-- the mappings of a child list, which stands after these
abbrev pub children_at : Content → List ChildList → Place → ChildList → Validated (List ℕ)
children_at content earlier place list = each (λ i name. at (place ! i) (child_found content earlier list i name)) list.names

-- ---- looks

-- a style has at most one expression: its label
unfoldable pub label_at : Metamodel → Place → Style → Validated (Option (Origin × List (List ℕ)))
label_at mm place style = optional (expression_at mm own_scope (place ▸ codes "label")) style.label

unfoldable pub style_at : Metamodel → Place → ConditionalStyle → Validated CheckedStyle
style_at mm place style =
    good (λ when label. record { when = when; label = label })
    <*> expression_at mm own_scope (place ▸ codes "when") style.when
    <*> label_at mm (place ▸ codes "style") style.style

unfoldable pub looks_at : Metamodel → Place → Looks → Validated CheckedLooks
looks_at mm place looks =
    good (λ label styles. record { label = label; styles = styles })
    <*> label_at mm (place ▸ codes "style") looks.style
    <*> each (λ i style. style_at mm (place ▸ codes "styles" ! i) style) looks.styles

-- ---- members that several kinds of mappings have

-- without candidates these are all objects of the class
abbrev pub objects_with : ℕ → Option (Origin × List (List ℕ)) → CheckedObjects
objects_with class candidates = record { domain = class; candidates = unwrap_or candidates (Extent class, []) }

unfoldable pub objects_at : Metamodel → Place → Objects → Validated CheckedObjects
objects_at mm place objects =
    good objects_with
    <*> at (place ▸ codes "domain") (class_found mm objects.domain)
    <*> optional (expression_at mm own_scope (place ▸ codes "candidates")) objects.candidates

-- a mapping that names no layer is on the first
abbrev pub shown_with : Option (Origin × List (List ℕ)) → Option ℕ → Shown
shown_with precondition layer = record { precondition = precondition; layer = unwrap_or layer 0 }

unfoldable pub shown_at : Metamodel → Content → List (List ℕ) → Place → Mapping → Validated Shown
shown_at mm content scope place mapping =
    good shown_with
    <*> optional (expression_at mm scope (place ▸ codes "precondition")) mapping.precondition
    <*> optional (λ name. at (place ▸ codes "layer") (layer_found content name)) mapping.layer

abbrev pub nested_with : List ℕ → List ℕ → Nested
nested_with children borders = record { children = children; borders = borders }

-- the children and the borders of the mapping of this number
unfoldable pub nested_at : Content → ℕ → Place → NodeMapping → Validated Nested
nested_at content n place node =
    good nested_with
    <*> children_at content (lists_before content n) (place ▸ codes "children") (children_list n node)
    <*> children_at content (lists_before content n ++ (children_list n node ∷ [])) (place ▸ codes "borders") (borders_list node)

abbrev pub ends_with : List ℕ → List ℕ → Ends
ends_with sources targets = record { sources = sources; targets = targets }

unfoldable pub both_ends_at : Content → Place → EdgeMapping → Validated Ends
both_ends_at content place edge =
    good ends_with
    <*> ends_at content (place ▸ codes "sources") edge.ends.sources
    <*> ends_at content (place ▸ codes "targets") edge.ends.targets

-- ---- mappings, by their forms

abbrev pub node_with : NodeMapping → CheckedObjects → Shown → Nested → CheckedLooks → CheckedMapping
node_with node objects shown nested looks = record {
  form = CheckedNodeForm (record { kind = node.kind; objects = objects; synchronised = node.synchronised; children = nested.children; borders = nested.borders });
  precondition = shown.precondition;
  layer = shown.layer;
  looks = looks;
}

unfoldable pub node_at : Metamodel → Content → ℕ → Place → Mapping → NodeMapping → Validated CheckedMapping
node_at mm content n place mapping node =
    good (node_with node)
    <*> objects_at mm place node.objects
    <*> shown_at mm content container_scope place mapping
    <*> nested_at content n place node
    <*> looks_at mm place mapping.looks

abbrev pub source_with : Option CheckedObjects → Option (Origin × List (List ℕ)) → Option CheckedSource
source_with (Some objects) (Some finder) = Some (record { objects = objects; source_finder = finder })
source_with _ _ = None

abbrev pub edge_with : Option CheckedObjects → Shown → Ends → Option (Origin × List (List ℕ)) → Origin × List (List ℕ) → CheckedLooks → CheckedMapping
edge_with objects shown ends source_finder target_finder looks = record {
  form = CheckedEdgeForm (record { object_edge = source_with objects source_finder; sources = ends.sources; targets = ends.targets; target_finder = target_finder });
  precondition = shown.precondition;
  layer = shown.layer;
  looks = looks;
}

-- an edge that stands for objects has their class, candidates and source finder too
unfoldable pub edge_at : Metamodel → Content → Place → Mapping → EdgeMapping → Validated CheckedMapping
edge_at mm content place mapping edge =
    good edge_with
    <*> optional (λ (it : ObjectEdge). objects_at mm place it.objects) edge.object_edge
    <*> shown_at mm content own_scope place mapping
    <*> both_ends_at content place edge
    <*> optional (λ (it : ObjectEdge). expression_at mm own_scope (place ▸ codes "sourceFinder") it.source_finder) edge.object_edge
    <*> expression_at mm own_scope (place ▸ codes "targetFinder") edge.target_finder
    <*> looks_at mm place mapping.looks

abbrev pub form_at : Metamodel → Content → ℕ → Place → Mapping → MappingForm → Validated CheckedMapping
form_at mm content n place mapping (NodeForm node) = node_at mm content n place mapping node
form_at mm content n place mapping (EdgeForm edge) = edge_at mm content place mapping edge

-- the mapping of this number: its name, and then what its form has
unfoldable pub mapping_at : Metamodel → Content → ℕ → Place → Mapping → Validated CheckedMapping
mapping_at mm content n place mapping =
    good (λ _ checked. checked)
    <*> at (place ▸ codes "name") (own_name (map (λ (it : Mapping). it.name) (take n content.mappings)) mapping.name)
    <*> form_at mm content n place mapping mapping.form
