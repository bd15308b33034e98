-- The expression that a unit's name fixes, and that of an operation of a tool.
use Rattle.std.specs.Prelude.{ℕ, zero, suc, ◌-◌, List, length, slice_get, Option, Some, None, option_map}
use Rattle.wb_base.specs.Options.{◌>>=◌}
use Rattle.wb_aql_check.specs.declared.checked.Origin.{Origin}
use Rattle.wb_diagram.specs.declared.keys.AnyKey.{AnyKey}
use Rattle.wb_diagram.specs.declared.keys.AnyKey.TheVariants as key
use Rattle.wb_diagram.specs.declared.keys.Pair.{Pair}
use Rattle.wb_diagram.specs.declared.units.Unit.{Unit}
use Rattle.wb_diagram.specs.declared.units.Unit.TheVariants as u
use Rattle.wb_spec_check.specs.Checked.{Specification}
use Rattle.wb_spec_check.specs.declared.checked_filters.CheckedFilter.{CheckedFilter}
use Rattle.wb_spec_check.specs.declared.checked_looks.CheckedLooks.{CheckedLooks}
use Rattle.wb_spec_check.specs.declared.checked_looks.CheckedStyle.{CheckedStyle}
use Rattle.wb_spec_check.specs.declared.checked_mappings.CheckedForm.{CheckedForm}
use Rattle.wb_spec_check.specs.declared.checked_mappings.CheckedForm.TheVariants.{Node, Edge}
use Rattle.wb_spec_check.specs.declared.checked_mappings.CheckedMapping.{CheckedMapping}
use Rattle.wb_spec_check.specs.declared.checked_mappings.CheckedSource.{CheckedSource}
use Rattle.wb_spec_check.specs.declared.checked_tools.CheckedOperation.{CheckedOperation}
use Rattle.wb_spec_check.specs.declared.checked_tools.CheckedTool.{CheckedTool}

-- an expression that was checked, with the variables in its scope
abbrev pub Expression : Type 0
Expression = Origin × List (List ℕ)

-- ---- what a mapping declares

abbrev pub mapping_of : Specification → ℕ → Option CheckedMapping
mapping_of spec m = slice_get spec.1.mappings m

-- what an edge has that stands for objects
abbrev pub source_of_form : CheckedForm → Option CheckedSource
source_of_form (Node node) = None
source_of_form (Edge edge) = edge.object_edge

abbrev pub candidates_of_form : CheckedForm → Option Expression
candidates_of_form (Node node) = Some node.objects.candidates
candidates_of_form (Edge edge) = option_map (λ (it : CheckedSource). it.objects.candidates) edge.object_edge

abbrev pub target_of_form : CheckedForm → Option Expression
target_of_form (Node node) = None
target_of_form (Edge edge) = Some edge.target_finder

abbrev pub candidates_of : Specification → ℕ → Option Expression
candidates_of spec m = mapping_of spec m >>= (λ mapping. candidates_of_form mapping.form)

abbrev pub precondition_of : Specification → ℕ → Option Expression
precondition_of spec m = mapping_of spec m >>= (λ mapping. mapping.precondition)

abbrev pub source_of : Specification → ℕ → Option Expression
source_of spec m = mapping_of spec m >>= (λ mapping. option_map (λ (it : CheckedSource). it.source_finder) (source_of_form mapping.form))

abbrev pub target_of : Specification → ℕ → Option Expression
target_of spec m = mapping_of spec m >>= (λ mapping. target_of_form mapping.form)

-- the conditional style of a number, counted from 1
abbrev pub style_of : CheckedLooks → ℕ → Option CheckedStyle
style_of looks zero = None
style_of looks (suc i) = slice_get looks.styles i

-- the label of a style: 0 is the default style
abbrev pub label_of_looks : CheckedLooks → ℕ → Option Expression
label_of_looks looks zero = looks.label
label_of_looks looks (suc i) = slice_get looks.styles i >>= (λ style. style.label)

abbrev pub when_of : Specification → ℕ → ℕ → Option Expression
when_of spec style m = mapping_of spec m >>= (λ mapping. option_map (λ (it : CheckedStyle). it.when) (style_of mapping.looks style))

abbrev pub label_of : Specification → ℕ → ℕ → Option Expression
label_of spec style m = mapping_of spec m >>= (λ mapping. label_of_looks mapping.looks style)

abbrev pub hides_of : Specification → ℕ → Option Expression
hides_of spec f = option_map (λ (it : CheckedFilter). it.hides) (slice_get spec.1.filters f)

-- ---- the mapping of a key

-- the last pair of a node's key
abbrev pub last_pair : List Pair → Option Pair
last_pair pairs = slice_get pairs (length pairs - 1)

abbrev pub mapping_of_key : AnyKey → Option ℕ
mapping_of_key (key.Node it) = option_map (λ (pair : Pair). pair.mapping) (last_pair it.pairs)
mapping_of_key (key.Edge it) = Some it.mapping

-- ---- units

-- the expression of a unit; none where the viewpoint has no such mapping, style or filter, or that one declares none
unfoldable pub expression_of : Specification → Unit → Option Expression
expression_of spec (u.Candidates m parent) = candidates_of spec m
expression_of spec (u.Precondition it) = mapping_of_key (key.Node it) >>= precondition_of spec
expression_of spec (u.EdgeCandidates m) = candidates_of spec m
expression_of spec (u.EdgePrecondition pair) = precondition_of spec pair.mapping
expression_of spec (u.Source pair) = source_of spec pair.mapping
expression_of spec (u.Target pair) = target_of spec pair.mapping
expression_of spec (u.Style style it) = mapping_of_key it >>= when_of spec style
expression_of spec (u.Label style it) = mapping_of_key it >>= label_of spec style
expression_of spec (u.Filter f it) = hides_of spec f

-- ---- operations

-- a tool's operations have their numbers from 1 on, each before those inside it
abbrev pub operation_at_place : CheckedTool → ℕ → Option CheckedOperation
operation_at_place tool zero = None
operation_at_place tool (suc i) = slice_get tool.operations i

-- place 0 is the precondition
abbrev pub expression_at_place : CheckedTool → ℕ → Option Expression
expression_at_place tool zero = tool.precondition
expression_at_place tool (suc i) = operation_at_place tool (suc i) >>= (λ operation. operation.expression)

unfoldable pub tool_expression : Specification → (tool : ℕ) → (place : ℕ) → Option Expression
tool_expression spec tool place = slice_get spec.1.tools tool >>= (λ it. expression_at_place it place)

-- the class of the objects that an operation makes
unfoldable pub class_of_operation : Specification → (tool : ℕ) → (place : ℕ) → Option ℕ
class_of_operation spec tool place = slice_get spec.1.tools tool >>= (λ it. operation_at_place it place >>= (λ operation. operation.class))
