-- What a name of a viewpoint names, or what is wrong with it first.
use Rattle.std.specs.Prelude.{⊤, ℕ, Bool, true, false, not, ◌&&◌, List, position, slice_get, Option, Some, None, Result, Ok, Err}
use Rattle.std.specs.Option.{option_map_or}
use Rattle.std.specs.List.{list_any}
use Rattle.wb_base.specs.Names.{same_name}
use Rattle.wb_base.specs.Results.{◌>>=◌}
use Rattle.wb_ecore.specs.declared.classes.Class.{Class}
use Rattle.wb_ecore.specs.declared.features.Feature.{Feature}
use Rattle.wb_metamodel.specs.Metamodel.{Metamodel, class_named, class_at}
use Rattle.wb_aql_check.specs.Names.{is_feature}
use Rattle.wb_expressions.specs.declared.problem.ProblemCode.{ProblemCode}
use Rattle.wb_expressions.specs.declared.problem.ProblemCode.TheVariants as c
use Rattle.wb_viewpoint.specs.declared.content.Content.{Content}
use Rattle.wb_viewpoint.specs.declared.layers.Layer.{Layer}
use Rattle.wb_viewpoint.specs.declared.mappings.Mapping.{Mapping}
use Rattle.wb_viewpoint.specs.declared.mappings.MappingForm.{MappingForm}
use Rattle.wb_viewpoint.specs.declared.mappings.MappingForm.TheVariants.{Node as NodeForm, Edge as EdgeForm}
use Rattle.wb_spec_check.specs.Validated.{Finding}

-- ---- findings

-- what is found, or else the problem of this name
abbrev pub or_problem : {A : Type 0} → ProblemCode → List ℕ → Option A → Result A Finding
or_problem code name (Some x) = Ok x
or_problem code name None = Err (code, name)

-- the problem of this name, where the test holds
abbrev pub problem_if : Bool → ProblemCode → List ℕ → Result ⊤ Finding
problem_if true code name = Err (code, name)
problem_if false code name = Ok tt

-- ---- names of their own

-- the name of an item of a list, after those of the items before it
abbrev pub own_name : (earlier : List (List ℕ)) → List ℕ → Result ⊤ Finding
own_name earlier name = problem_if (list_any (same_name name) earlier) c.DuplicateName name

-- ---- classes and features

abbrev pub class_found : Metamodel → List ℕ → Result ℕ Finding
class_found mm name = or_problem c.UnknownClass name (class_named mm name)

abbrev pub is_abstract_class : Metamodel → ℕ → Bool
is_abstract_class mm class = option_map_or (λ (it : Class). it.is_abstract) (class_at mm class) false

-- a class of which objects can be made
unfoldable pub made_class : Metamodel → List ℕ → Result ℕ Finding
made_class mm name = do
  class ← class_found mm name
  _ ← problem_if (is_abstract_class mm class) c.BadOperation name
  Ok class

-- a feature that some class has
abbrev pub feature_found : Metamodel → List ℕ → Result ⊤ Finding
feature_found mm name = problem_if (not (is_feature mm name)) c.BadOperation name

-- is some class's containment reference of that name?
abbrev pub is_containment_name : Metamodel → List ℕ → Bool
is_containment_name mm name = list_any (λ (feature : Feature). feature.containment && same_name feature.name name) mm.features

abbrev pub reference_found : Metamodel → List ℕ → Result ⊤ Finding
reference_found mm name = problem_if (not (is_containment_name mm name)) c.BadOperation name

-- ---- layers

abbrev pub layer_named : Content → List ℕ → Option ℕ
layer_named content name = position (λ (layer : Layer). same_name layer.name name) content.layers

abbrev pub layer_found : Content → List ℕ → Result ℕ Finding
layer_found content name = or_problem c.UnknownLayer name (layer_named content name)

-- ---- mappings

-- the first mapping of that name
abbrev pub mapping_named : Content → List ℕ → Option ℕ
mapping_named content name = position (λ (mapping : Mapping). same_name mapping.name name) content.mappings

abbrev pub mapping_found : Content → List ℕ → Result ℕ Finding
mapping_found content name = or_problem c.UnknownMapping name (mapping_named content name)

abbrev pub is_edge_form : MappingForm → Bool
is_edge_form (NodeForm node) = false
is_edge_form (EdgeForm edge) = true

-- does the mapping make edges?
abbrev pub is_edge : Content → ℕ → Bool
is_edge content k = option_map_or (λ (mapping : Mapping). is_edge_form mapping.form) (slice_get content.mappings k) false

-- a mapping at whose elements an edge may end
unfoldable pub end_found : Content → List ℕ → Result ℕ Finding
end_found content name = do
  k ← mapping_found content name
  _ ← problem_if (is_edge content k) c.BadEnds name
  Ok k
