-- The check of a viewpoint over a metamodel: what later steps ask of it, or all its problems in the order of the walk.
use Rattle.std.specs.Prelude.{◌≡◌, ⊤, ℕ, List, [], map, take, codes}
use Rattle.wb_json.specs.Place.{Place}
use Rattle.wb_metamodel.specs.Metamodel.{Metamodel}
use Rattle.wb_viewpoint.specs.declared.content.Content.{Content}
use Rattle.wb_viewpoint.specs.declared.filters.Filter.{Filter}
use Rattle.wb_viewpoint.specs.declared.layers.Layer.{Layer}
use Rattle.wb_spec_check.specs.ChildLists.{top_list}
use Rattle.wb_spec_check.specs.Findings.{class_found, mapping_found, own_name}
use Rattle.wb_spec_check.specs.Mappings.{children_at, expression_at, mapping_at}
use Rattle.wb_spec_check.specs.Places.{◌▸◌, ◌!◌, diagram}
use Rattle.wb_spec_check.specs.Scopes.{own_scope}
use Rattle.wb_spec_check.specs.Tools.{tool_at}
use Rattle.wb_spec_check.specs.Validated.{Validated, good, ◌<*>◌, at, each, problems_of}
use Rattle.wb_spec_check.specs.declared.checked_filters.CheckedFilter.{CheckedFilter}
use Rattle.wb_spec_check.specs.declared.checked_mappings.CheckedMapping.{CheckedMapping}
use Rattle.wb_spec_check.specs.declared.checked_tools.CheckedTool.{CheckedTool}
use Rattle.wb_spec_check.specs.declared.parts.Parts.{Parts}
use Rattle.wb_spec_check.specs.declared.problem.Problem.{Problem}

-- the names of the layers are different
abbrev pub layer_at : Content → ℕ → Layer → Validated ⊤
layer_at content i layer = at (diagram ▸ codes "layers" ! i ▸ codes "name") (own_name (map (λ (it : Layer). it.name) (take i content.layers)) layer.name)

abbrev pub none_needed : List ⊤ → ⊤
none_needed values = tt

unfoldable pub layers_at : Content → Validated ⊤
layers_at content = good none_needed <*> each (layer_at content) content.layers

-- the filter of this number
unfoldable pub filter_at : Metamodel → Content → ℕ → Place → Filter → Validated CheckedFilter
filter_at mm content n place filter =
    good (λ _ mappings hides. record { mappings = mappings; hides = hides })
    <*> at (place ▸ codes "name") (own_name (map (λ (it : Filter). it.name) (take n content.filters)) filter.name)
    <*> each (λ i name. at (place ▸ codes "mappings" ! i) (mapping_found content name)) filter.mappings
    <*> expression_at mm own_scope (place ▸ codes "hides") filter.hides

-- the layers have no parts of their own
abbrev pub all_parts : ℕ → ⊤ → List ℕ → List CheckedMapping → List CheckedFilter → List CheckedTool → Parts
all_parts domain layers top mappings filters tools = record { domain = domain; top = top; mappings = mappings; filters = filters; tools = tools }

-- all parts of a viewpoint
unfoldable pub checked : Metamodel → Content → Validated Parts
checked mm content =
    good all_parts
    <*> at (diagram ▸ codes "domain") (class_found mm content.domain)
    <*> layers_at content
    <*> children_at content [] (diagram ▸ codes "top") (top_list content)
    <*> each (λ i mapping. mapping_at mm content i (diagram ▸ codes "mappings" ! i) mapping) content.mappings
    <*> each (λ i filter. filter_at mm content i (diagram ▸ codes "filters" ! i) filter) content.filters
    <*> each (λ i tool. tool_at mm content i (diagram ▸ codes "tools" ! i) tool) content.tools

-- the problems of a viewpoint over a metamodel
abbrev pub problems : Metamodel → Content → List Problem
problems mm content = problems_of (checked mm content)

-- a checked viewpoint: what its text says, and what its names name
abbrev pub Specification : Type 0
Specification = Content × Parts

-- it was checked against this metamodel, and has no problem
abbrev pub IsCheckedBy : Metamodel → Specification → Type 0
IsCheckedBy mm spec = checked mm spec.0 ≡ good spec.1

-- it was checked against some metamodel
abbrev pub IsGood : Specification → Type 0
IsGood spec = (mm : Metamodel) × IsCheckedBy mm spec
