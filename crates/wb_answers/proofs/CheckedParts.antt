-- What is true of the parts of a viewpoint that was checked against a metamodel: classes are of the metamodel, and expressions are those of units.
use Rattle.std.proofs.Common.{◌≡◌, ◌<◌, ℕ, zero, suc, List, length, Option, Some, None, Ok, refl, sym, subst, inl, inr, codes, slice_get}
use Rattle.std.specs.Prelude.{option_map}
use Rattle.std.proofs.lemmas.Option.{slice_get_within}
use Rattle.wb_base.proofs.Positions.{position-Some}
use Rattle.wb_base.specs.Options.{◌>>=◌}
use Rattle.wb_ecore.specs.declared.classes.Class.{Class}
use Rattle.wb_expressions.specs.Expressions.{expression}
use Rattle.wb_expressions.specs.declared.problem.ProblemCode.{ProblemCode}
use Rattle.wb_expressions.specs.declared.problem.ProblemCode.TheVariants as c
use Rattle.wb_json.specs.Place.{Place}
use Rattle.wb_metamodel.specs.Metamodel.{Metamodel, class_named, same_name}
use Rattle.wb_diagram.specs.declared.keys.AnyKey.TheVariants as key
use Rattle.wb_diagram.specs.declared.units.Unit.{Unit as Place_of_unit}
use Rattle.wb_diagram.specs.declared.units.Unit.TheVariants as u
use Rattle.wb_viewpoint.specs.declared.content.Content.{Content}
use Rattle.wb_viewpoint.specs.declared.edges.EdgeMapping.{EdgeMapping}
use Rattle.wb_viewpoint.specs.declared.edges.ObjectEdge.{ObjectEdge}
use Rattle.wb_viewpoint.specs.declared.filters.Filter.{Filter}
use Rattle.wb_viewpoint.specs.declared.mappings.Mapping.{Mapping}
use Rattle.wb_viewpoint.specs.declared.mappings.MappingForm.{MappingForm}
use Rattle.wb_viewpoint.specs.declared.mappings.MappingForm.TheVariants.{Node as NodeForm, Edge as EdgeForm}
use Rattle.wb_viewpoint.specs.declared.nodes.NodeMapping.{NodeMapping}
use Rattle.wb_viewpoint.specs.declared.objects.Objects.{Objects}
use Rattle.wb_viewpoint.specs.declared.styles.ConditionalStyle.{ConditionalStyle}
use Rattle.wb_viewpoint.specs.declared.styles.Looks.{Looks}
use Rattle.wb_viewpoint.specs.declared.styles.Style.{Style}
use Rattle.wb_spec_check.specs.Checked.{Specification, IsCheckedBy, checked, filter_at}
use Rattle.wb_spec_check.specs.Findings.{class_found, or_problem}
use Rattle.wb_spec_check.specs.Mappings.{edge_at, edge_with, expression_at, form_at, label_at, looks_at, mapping_at, node_at, node_with, objects_at, objects_with, shown_at, source_with, style_at}
use Rattle.wb_spec_check.specs.Places.{◌▸◌, ◌!◌, diagram}
use Rattle.wb_spec_check.specs.Scopes.{own_scope, container_scope}
use Rattle.wb_spec_check.specs.Units.{Expression, candidates_of, candidates_of_form, expression_of, label_of, label_of_looks, mapping_of, mapping_of_key, precondition_of, source_of_form, style_of, target_of_form, when_of}
use Rattle.wb_spec_check.specs.declared.checked_filters.CheckedFilter.{CheckedFilter}
use Rattle.wb_spec_check.specs.declared.checked_looks.CheckedLooks.{CheckedLooks}
use Rattle.wb_spec_check.specs.declared.checked_looks.CheckedStyle.{CheckedStyle}
use Rattle.wb_spec_check.specs.declared.checked_mappings.CheckedForm.{CheckedForm}
use Rattle.wb_spec_check.specs.declared.checked_mappings.CheckedForm.TheVariants.{Node, Edge}
use Rattle.wb_spec_check.specs.declared.checked_mappings.CheckedMapping.{CheckedMapping}
use Rattle.wb_spec_check.specs.declared.checked_mappings.CheckedObjects.{CheckedObjects}
use Rattle.wb_spec_check.specs.declared.checked_mappings.CheckedSource.{CheckedSource}
use Rattle.wb_spec_check.specs.declared.groups.Shown.{Shown}
use Rattle.wb_spec_check.specs.declared.parts.Parts.{Parts}
use Rattle.wb_answers.specs.UnitExpressions.{IsUnitExpression, IsUnitScope}
use Rattle.wb_answers.proofs.CheckedExpressions.{expression_checked}
use Rattle.wb_answers.proofs.Yields.{any, OfEach, OfSome, Yields, at_number, yields_at, yields_both, yields_each, yields_good, yields_optional}

-- ---- what is true of each part

-- the class is one of the metamodel
abbrev pub IsClass : Metamodel → ℕ → Type 0
IsClass mm class = class < length mm.classes

abbrev pub FitObjects : Metamodel → CheckedObjects → Type 0
FitObjects mm objects = IsClass mm objects.domain × IsUnitExpression mm objects.candidates

abbrev pub FitStyle : Metamodel → CheckedStyle → Type 0
FitStyle mm style = IsUnitExpression mm style.when × OfSome (IsUnitExpression mm) style.label

abbrev pub FitLooks : Metamodel → CheckedLooks → Type 0
FitLooks mm looks = OfSome (IsUnitExpression mm) looks.label × OfEach (FitStyle mm) looks.styles

abbrev pub FitSource : Metamodel → CheckedSource → Type 0
FitSource mm source = FitObjects mm source.objects × IsUnitExpression mm source.source_finder

abbrev pub FitForm : Metamodel → CheckedForm → Type 0
FitForm mm (Node node) = FitObjects mm node.objects
FitForm mm (Edge edge) = OfSome (FitSource mm) edge.object_edge × IsUnitExpression mm edge.target_finder

abbrev pub FitMapping : Metamodel → CheckedMapping → Type 0
FitMapping mm mapping = FitForm mm mapping.form × OfSome (IsUnitExpression mm) mapping.precondition × FitLooks mm mapping.looks

abbrev pub FitFilter : Metamodel → CheckedFilter → Type 0
FitFilter mm filter = IsUnitExpression mm filter.hides

abbrev pub FitParts : Metamodel → Parts → Type 0
FitParts mm parts = IsClass mm parts.domain × OfEach (FitMapping mm) parts.mappings × OfEach (FitFilter mm) parts.filters

-- ---- classes and expressions

found_some : {A : Type 0} (code : ProblemCode) (name : List ℕ) (found : Option A) (x : A) → or_problem code name found ≡ Ok x → found ≡ Some x
found_some code name None x is = cc
found_some code name (Some y) x is = cc

found_class : (mm : Metamodel) (name : List ℕ) (class : ℕ) → class_found mm name ≡ Ok class → IsClass mm class
found_class mm name class is =
    let found = position-Some (λ (it : Class). same_name it.name name) mm.classes class (found_some c.UnknownClass name (class_named mm name) class is) in
    slice_get_within mm.classes class found.0 found.1

expression_fits : (mm : Metamodel) (scope : List (List ℕ)) (place : Place) (text : List ℕ) → IsUnitScope scope → Yields (IsUnitExpression mm) (expression_at mm scope place text)
expression_fits mm scope place text scoped =
    yields_at place (expression mm scope text)
    (λ e is.
    let known = expression_checked mm scope text e is in
    (subst IsUnitScope (sym known.0) scoped, known.1))

own : IsUnitScope own_scope
own = inr (inl refl)

with_container : IsUnitScope container_scope
with_container = inr (inr refl)

own_fits : (mm : Metamodel) (place : Place) (text : List ℕ) → Yields (IsUnitExpression mm) (expression_at mm own_scope place text)
own_fits mm place text = expression_fits mm own_scope place text own

-- ---- looks

label_fits : (mm : Metamodel) (place : Place) (style : Style) → Yields (OfSome (IsUnitExpression mm)) (label_at mm place style)
unfolding label_at
label_fits mm place style = yields_optional (expression_at mm own_scope (place ▸ codes "label")) style.label (own_fits mm (place ▸ codes "label"))

style_fits : (mm : Metamodel) (place : Place) (style : ConditionalStyle) → Yields (FitStyle mm) (style_at mm place style)
unfolding style_at
style_fits mm place style =
    yields_both (yields_both (yields_good _ (λ when known label labelled. (known, labelled))) (own_fits mm (place ▸ codes "when") style.when)) (label_fits mm (place ▸ codes "style") style.style)

looks_fit : (mm : Metamodel) (place : Place) (looks : Looks) → Yields (FitLooks mm) (looks_at mm place looks)
unfolding looks_at
looks_fit mm place looks =
    yields_both (yields_both (yields_good _ (λ label known styles are. (known, are))) (label_fits mm (place ▸ codes "style") looks.style))
    (yields_each (λ i style. style_at mm (place ▸ codes "styles" ! i) style) 0 looks.styles (λ i style. style_fits mm (place ▸ codes "styles" ! i) style))

-- ---- mappings

candidates_fit : (mm : Metamodel) (class : ℕ) (candidates : Option Expression) → IsClass mm class → OfSome (IsUnitExpression mm) candidates → FitObjects mm (objects_with class candidates)
candidates_fit mm class None known are = (known, (inl refl, known))
candidates_fit mm class (Some e) known are = (known, are)

objects_fit : (mm : Metamodel) (place : Place) (objects : Objects) → Yields (FitObjects mm) (objects_at mm place objects)
unfolding objects_at
objects_fit mm place objects =
    yields_both
    (yields_both (yields_good objects_with (λ class known candidates are. candidates_fit mm class candidates known are)) (yields_at (place ▸ codes "domain") (class_found mm objects.domain) (found_class mm objects.domain)))
    (yields_optional (expression_at mm own_scope (place ▸ codes "candidates")) objects.candidates (own_fits mm (place ▸ codes "candidates")))

shown_fits : (mm : Metamodel) (content : Content) (scope : List (List ℕ)) (place : Place) (mapping : Mapping) → IsUnitScope scope → Yields (λ (shown : Shown). OfSome (IsUnitExpression mm) shown.precondition) (shown_at mm content scope place mapping)
unfolding shown_at
shown_fits mm content scope place mapping scoped =
    yields_both
    (yields_both (yields_good _ (λ precondition known layer _. known))
    (yields_optional (expression_at mm scope (place ▸ codes "precondition")) mapping.precondition (λ text. expression_fits mm scope (place ▸ codes "precondition") text scoped)))
    any

node_fits : (mm : Metamodel) (content : Content) (n : ℕ) (place : Place) (mapping : Mapping) (node : NodeMapping) → Yields (FitMapping mm) (node_at mm content n place mapping node)
unfolding node_at
node_fits mm content n place mapping node =
    yields_both (yields_both (yields_both (yields_both
    (yields_good (node_with node) (λ objects fit shown known nested _ looks are. (fit, known, are)))
    (objects_fit mm place node.objects))
    (shown_fits mm content container_scope place mapping with_container))
    any)
    (looks_fit mm place mapping.looks)

source_fits : (mm : Metamodel) (objects : Option CheckedObjects) (finder : Option Expression) → OfSome (FitObjects mm) objects → OfSome (IsUnitExpression mm) finder → OfSome (FitSource mm) (source_with objects finder)
source_fits mm None finder fit known = tt
source_fits mm (Some objects) None fit known = tt
source_fits mm (Some objects) (Some finder) fit known = (fit, known)

edge_fits : (mm : Metamodel) (content : Content) (place : Place) (mapping : Mapping) (edge : EdgeMapping) → Yields (FitMapping mm) (edge_at mm content place mapping edge)
unfolding edge_at
edge_fits mm content place mapping edge =
    yields_both (yields_both (yields_both (yields_both (yields_both (yields_both
    (yields_good edge_with (λ objects fit shown known ends _ source first target second looks are. ((source_fits mm objects source fit first, second), known, are)))
    (yields_optional (λ (it : ObjectEdge). objects_at mm place it.objects) edge.object_edge (λ it. objects_fit mm place it.objects)))
    (shown_fits mm content own_scope place mapping own))
    any)
    (yields_optional (λ (it : ObjectEdge). expression_at mm own_scope (place ▸ codes "sourceFinder") it.source_finder) edge.object_edge (λ it. own_fits mm (place ▸ codes "sourceFinder") it.source_finder)))
    (own_fits mm (place ▸ codes "targetFinder") edge.target_finder))
    (looks_fit mm place mapping.looks)

form_fits : (mm : Metamodel) (content : Content) (n : ℕ) (place : Place) (mapping : Mapping) (form : MappingForm) → Yields (FitMapping mm) (form_at mm content n place mapping form)
form_fits mm content n place mapping (NodeForm node) = node_fits mm content n place mapping node
form_fits mm content n place mapping (EdgeForm edge) = edge_fits mm content place mapping edge

mapping_fits : (mm : Metamodel) (content : Content) (n : ℕ) (place : Place) (mapping : Mapping) → Yields (FitMapping mm) (mapping_at mm content n place mapping)
unfolding mapping_at
mapping_fits mm content n place mapping =
    yields_both (yields_both (yields_good _ (λ _ _ checked fit. fit)) any) (form_fits mm content n place mapping mapping.form)

-- ---- the whole

filter_fits : (mm : Metamodel) (content : Content) (n : ℕ) (place : Place) (filter : Filter) → Yields (FitFilter mm) (filter_at mm content n place filter)
unfolding filter_at
filter_fits mm content n place filter =
    yields_both (yields_both (yields_both (yields_good _ (λ _ _ mappings _ hides known. known)) any) any) (own_fits mm (place ▸ codes "hides") filter.hides)

parts_fit : (mm : Metamodel) (content : Content) → Yields (FitParts mm) (checked mm content)
unfolding checked
parts_fit mm content =
    yields_both (yields_both (yields_both (yields_both (yields_both (yields_both
    (yields_good _ (λ domain known layers _ top _ mappings fit filters are tools _. (known, fit, are)))
    (yields_at (diagram ▸ codes "domain") (class_found mm content.domain) (found_class mm content.domain))) any) any)
    (yields_each (λ i mapping. mapping_at mm content i (diagram ▸ codes "mappings" ! i) mapping) 0 content.mappings (λ i mapping. mapping_fits mm content i (diagram ▸ codes "mappings" ! i) mapping)))
    (yields_each (λ i filter. filter_at mm content i (diagram ▸ codes "filters" ! i) filter) 0 content.filters (λ i filter. filter_fits mm content i (diagram ▸ codes "filters" ! i) filter)))
    any

pub domain_fits : (mm : Metamodel) (spec : Specification) → IsCheckedBy mm spec → IsClass mm spec.1.domain
domain_fits mm spec is = ((parts_fit mm spec.0).value spec.1 is).0

pub mapping_of_fits : (mm : Metamodel) (spec : Specification) (n : ℕ) → IsCheckedBy mm spec → OfSome (FitMapping mm) (mapping_of spec n)
mapping_of_fits mm spec n is = at_number (FitMapping mm) spec.1.mappings n ((parts_fit mm spec.0).value spec.1 is).1

pub filter_of_fits : (mm : Metamodel) (spec : Specification) (n : ℕ) → IsCheckedBy mm spec → OfSome (FitFilter mm) (slice_get spec.1.filters n)
filter_of_fits mm spec n is = at_number (FitFilter mm) spec.1.filters n ((parts_fit mm spec.0).value spec.1 is).2

-- ---- the expression of a unit

on_found : {A B : Type 0} {P : A → Type 0} (Q : B → Type 0) (found : Option A) (next : A → Option B) → OfSome P found → ((x : A) → P x → OfSome Q (next x)) → OfSome Q (found >>= next)
on_found Q None next h on = tt
on_found Q (Some x) next h on = on x h

whatever_found : {A B : Type 0} (Q : B → Type 0) (found : Option A) (next : A → Option B) → ((x : A) → OfSome Q (next x)) → OfSome Q (found >>= next)
whatever_found Q None next on = tt
whatever_found Q (Some x) next on = on x

of_found : {A B : Type 0} {P : A → Type 0} (Q : B → Type 0) (found : Option A) (f : A → B) → OfSome P found → ((x : A) → P x → Q (f x)) → OfSome Q (option_map f found)
of_found Q None f h on = tt
of_found Q (Some x) f h on = on x h

abbrev Fits : Metamodel → Option Expression → Type 0
Fits mm = OfSome (IsUnitExpression mm)

module _ (mm : Metamodel) (spec : Specification) (is : IsCheckedBy mm spec) where
  by_mapping : (n : ℕ) (next : CheckedMapping → Option Expression) → ((mapping : CheckedMapping) → FitMapping mm mapping → Fits mm (next mapping)) → Fits mm (mapping_of spec n >>= next)
  by_mapping n next on = on_found (IsUnitExpression mm) (mapping_of spec n) next (mapping_of_fits mm spec n is) on

  in_candidates : (form : CheckedForm) → FitForm mm form → Fits mm (candidates_of_form form)
  in_candidates (Node node) fit = fit.1
  in_candidates (Edge edge) fit = of_found (IsUnitExpression mm) edge.object_edge (λ (it : CheckedSource). it.objects.candidates) fit.0 (λ it known. known.0.1)

  in_source : (form : CheckedForm) → FitForm mm form → Fits mm (option_map (λ (it : CheckedSource). it.source_finder) (source_of_form form))
  in_source (Node node) fit = tt
  in_source (Edge edge) fit = of_found (IsUnitExpression mm) edge.object_edge (λ (it : CheckedSource). it.source_finder) fit.0 (λ it known. known.1)

  in_target : (form : CheckedForm) → FitForm mm form → Fits mm (target_of_form form)
  in_target (Node node) fit = tt
  in_target (Edge edge) fit = fit.1

  in_when : (looks : CheckedLooks) (style : ℕ) → FitLooks mm looks → Fits mm (option_map (λ (it : CheckedStyle). it.when) (style_of looks style))
  in_when looks zero fit = tt
  in_when looks (suc i) fit = of_found (IsUnitExpression mm) (slice_get looks.styles i) (λ (it : CheckedStyle). it.when) (at_number (FitStyle mm) looks.styles i fit.1) (λ it known. known.0)

  in_label : (looks : CheckedLooks) (style : ℕ) → FitLooks mm looks → Fits mm (label_of_looks looks style)
  in_label looks zero fit = fit.0
  in_label looks (suc i) fit = on_found (IsUnitExpression mm) (slice_get looks.styles i) (λ (it : CheckedStyle). it.label) (at_number (FitStyle mm) looks.styles i fit.1) (λ it known. known.1)

  fits_candidates : (n : ℕ) → Fits mm (candidates_of spec n)
  fits_candidates n = by_mapping n (λ mapping. candidates_of_form mapping.form) (λ mapping fit. in_candidates mapping.form fit.0)

  fits_precondition : (n : ℕ) → Fits mm (precondition_of spec n)
  fits_precondition n = by_mapping n (λ mapping. mapping.precondition) (λ mapping fit. fit.1)

  fits_when : (style n : ℕ) → Fits mm (when_of spec style n)
  fits_when style n = by_mapping n (λ mapping. option_map (λ (it : CheckedStyle). it.when) (style_of mapping.looks style)) (λ mapping fit. in_when mapping.looks style fit.2)

  fits_label : (style n : ℕ) → Fits mm (label_of spec style n)
  fits_label style n = by_mapping n (λ mapping. label_of_looks mapping.looks style) (λ mapping fit. in_label mapping.looks style fit.2)

  pub unit_expression : (unit : Place_of_unit) → OfSome (IsUnitExpression mm) (expression_of spec unit)
  unfolding expression_of
  unit_expression (u.Candidates m parent) = fits_candidates m
  unit_expression (u.Precondition it) = whatever_found (IsUnitExpression mm) (mapping_of_key (key.Node it)) (precondition_of spec) fits_precondition
  unit_expression (u.EdgeCandidates m) = fits_candidates m
  unit_expression (u.EdgePrecondition pair) = fits_precondition pair.mapping
  unit_expression (u.Source pair) = by_mapping pair.mapping (λ mapping. option_map (λ (it : CheckedSource). it.source_finder) (source_of_form mapping.form)) (λ mapping fit. in_source mapping.form fit.0)
  unit_expression (u.Target pair) = by_mapping pair.mapping (λ mapping. target_of_form mapping.form) (λ mapping fit. in_target mapping.form fit.0)
  unit_expression (u.Style style it) = whatever_found (IsUnitExpression mm) (mapping_of_key it) (when_of spec style) (fits_when style)
  unit_expression (u.Label style it) = whatever_found (IsUnitExpression mm) (mapping_of_key it) (label_of spec style) (fits_label style)
  unit_expression (u.Filter f it) = of_found (IsUnitExpression mm) (slice_get spec.1.filters f) (λ (filter : CheckedFilter). filter.hides) (filter_of_fits mm spec f is) (λ filter known. known)
