-- What is checked of a viewpoint has the conditional styles, the labels and the filters that its text declares.
use Rattle.std.proofs.Common.{◌≡◌, ◌<◌, ℕ, zero, suc, List, [], ◌∷◌, length, Option, Some, None, refl, ap, arith, codes}
use Rattle.std.specs.Prelude.{⊤, is_some, slice_get}
use Rattle.wb_json.specs.Place.{Place}
use Rattle.wb_metamodel.specs.Metamodel.{Metamodel}
use Rattle.wb_viewpoint.specs.declared.content.Content.{Content}
use Rattle.wb_viewpoint.specs.declared.edges.EdgeMapping.{EdgeMapping}
use Rattle.wb_viewpoint.specs.declared.filters.Filter.{Filter}
use Rattle.wb_viewpoint.specs.declared.mappings.Mapping.{Mapping}
use Rattle.wb_viewpoint.specs.declared.mappings.MappingForm.{MappingForm}
use Rattle.wb_viewpoint.specs.declared.mappings.MappingForm.TheVariants.{Node as NodeForm, Edge as EdgeForm}
use Rattle.wb_viewpoint.specs.declared.nodes.NodeMapping.{NodeMapping}
use Rattle.wb_viewpoint.specs.declared.styles.ConditionalStyle.{ConditionalStyle}
use Rattle.wb_viewpoint.specs.declared.styles.Looks.{Looks}
use Rattle.wb_viewpoint.specs.declared.styles.Style.{Style}
use Rattle.wb_spec_check.specs.Checked.{checked, filter_at}
use Rattle.wb_spec_check.specs.Mappings.{edge_at, edge_with, expression_at, form_at, label_at, looks_at, mapping_at, node_at, node_with, style_at as checked_style_at}
use Rattle.wb_spec_check.specs.Places.{◌▸◌, ◌!◌, diagram}
use Rattle.wb_spec_check.specs.Scopes.{own_scope}
use Rattle.wb_spec_check.specs.Units.{Expression}
use Rattle.wb_spec_check.specs.Validated.{Validated, each_from, optional}
use Rattle.wb_spec_check.specs.declared.checked_filters.CheckedFilter.{CheckedFilter}
use Rattle.wb_spec_check.specs.declared.checked_looks.CheckedLooks.{CheckedLooks}
use Rattle.wb_spec_check.specs.declared.checked_looks.CheckedStyle.{CheckedStyle}
use Rattle.wb_spec_check.specs.declared.checked_mappings.CheckedMapping.{CheckedMapping}
use Rattle.wb_spec_check.specs.declared.parts.Parts.{Parts}
use Rattle.wb_answers.proofs.Yields.{Yields, any, yields_good, yields_both}

-- ---- two lists, item by item

abbrev pub Pairs : {A B : Type 0} → (A → B → Type 0) → List A → List B → Type 0
Pairs P [] [] = ⊤
Pairs P [] (y ∷ ys) = ⊥
Pairs P (x ∷ xs) [] = ⊥
Pairs P (x ∷ xs) (y ∷ ys) = P x y × Pairs P xs ys

-- the items at a place
pub record Pair {A B : Type 0} (P : A → B → Type 0) (xs : List A) (ys : List B) (n : ℕ) : Type 0 where
  pub first : A
  pub second : B
  pub first_is : slice_get xs n ≡ Some first
  pub second_is : slice_get ys n ≡ Some second
  pub known : P first second

pub pair_at : {A B : Type 0} (P : A → B → Type 0) (xs : List A) (ys : List B) (n : ℕ) → Pairs P xs ys → n < length xs → Pair P xs ys n
pair_at P [] [] n are within = absurd (omega (arith, within))
pair_at P [] (y ∷ ys) n are within = absurd are
pair_at P (x ∷ xs) [] n are within = absurd are
pair_at P (x ∷ xs) (y ∷ ys) zero are within = record { first = x; second = y; first_is = refl; second_is = refl; known = are.0 }
pair_at P (x ∷ xs) (y ∷ ys) (suc n) are within =
    let later = pair_at P xs ys n are.1 (omega (arith, within)) in
    record { first = later.first; second = later.second; first_is = later.first_is; second_is = later.second_is; known = later.known }

pub same_length : {A B : Type 0} (P : A → B → Type 0) (xs : List A) (ys : List B) → Pairs P xs ys → length xs ≡ length ys
same_length P [] [] are = refl
same_length P [] (y ∷ ys) are = absurd are
same_length P (x ∷ xs) [] are = absurd are
same_length P (x ∷ xs) (y ∷ ys) are = ap suc (same_length P xs ys are.1)

pairs_each : {A B : Type 0} {P : A → B → Type 0} (check : ℕ → A → Validated B) (i : ℕ) (xs : List A) → ((i : ℕ) (x : A) → Yields (P x) (check i x)) → Yields (Pairs P xs) (each_from check i xs)
pairs_each check i [] h = yields_good [] tt
pairs_each check i (x ∷ xs) h = yields_both (yields_both (yields_good (λ y ys. y ∷ ys) (λ y is ys are. (is, are))) (h i x)) (pairs_each check (suc i) xs h)

-- ---- what is checked has the labels and the styles of the text

abbrev pub AgreeStyle : ConditionalStyle → CheckedStyle → Type 0
AgreeStyle style checked_style = is_some style.style.label ≡ is_some checked_style.label

abbrev pub AgreeLooks : Looks → CheckedLooks → Type 0
AgreeLooks looks checked_looks = (is_some looks.style.label ≡ is_some checked_looks.label) × Pairs AgreeStyle looks.styles checked_looks.styles

abbrev pub AgreeMapping : Mapping → CheckedMapping → Type 0
AgreeMapping mapping checked_mapping = AgreeLooks mapping.looks checked_mapping.looks

label_agrees : (mm : Metamodel) (place : Place) (style : Style) → Yields (λ (label : Option Expression). is_some style.label ≡ is_some label) (label_at mm place style)
unfolding label_at
label_agrees mm place style = by style.label
  where
    by : (text : Option (List ℕ)) → Yields (λ (label : Option Expression). is_some text ≡ is_some label) (optional (expression_at mm own_scope (place ▸ codes "label")) text)
    by None = yields_good None refl
    by (Some text) = yields_both (yields_good Some (λ y _. refl)) any

style_agrees : (mm : Metamodel) (place : Place) (style : ConditionalStyle) → Yields (AgreeStyle style) (checked_style_at mm place style)
unfolding checked_style_at
style_agrees mm place style = yields_both (yields_both (yields_good _ (λ when _ label same. same)) any) (label_agrees mm (place ▸ codes "style") style.style)

looks_agree : (mm : Metamodel) (place : Place) (looks : Looks) → Yields (AgreeLooks looks) (looks_at mm place looks)
unfolding looks_at
looks_agree mm place looks =
    yields_both (yields_both (yields_good _ (λ label same styles are. (same, are))) (label_agrees mm (place ▸ codes "style") looks.style))
    (pairs_each (λ i style. checked_style_at mm (place ▸ codes "styles" ! i) style) 0 looks.styles (λ i style. style_agrees mm (place ▸ codes "styles" ! i) style))

node_agrees : (mm : Metamodel) (content : Content) (n : ℕ) (place : Place) (mapping : Mapping) (node : NodeMapping) → Yields (AgreeMapping mapping) (node_at mm content n place mapping node)
unfolding node_at
node_agrees mm content n place mapping node =
    yields_both (yields_both (yields_both (yields_both
    (yields_good (node_with node) (λ objects _ shown _ nested _ looks are. are))
    any) any) any)
    (looks_agree mm place mapping.looks)

edge_agrees : (mm : Metamodel) (content : Content) (place : Place) (mapping : Mapping) (edge : EdgeMapping) → Yields (AgreeMapping mapping) (edge_at mm content place mapping edge)
unfolding edge_at
edge_agrees mm content place mapping edge =
    yields_both (yields_both (yields_both (yields_both (yields_both (yields_both
    (yields_good edge_with (λ objects _ shown _ ends _ source _ target _ looks are. are))
    any) any) any) any) any)
    (looks_agree mm place mapping.looks)

form_agrees : (mm : Metamodel) (content : Content) (n : ℕ) (place : Place) (mapping : Mapping) (form : MappingForm) → Yields (AgreeMapping mapping) (form_at mm content n place mapping form)
form_agrees mm content n place mapping (NodeForm node) = node_agrees mm content n place mapping node
form_agrees mm content n place mapping (EdgeForm edge) = edge_agrees mm content place mapping edge

mapping_agrees : (mm : Metamodel) (content : Content) (n : ℕ) (place : Place) (mapping : Mapping) → Yields (AgreeMapping mapping) (mapping_at mm content n place mapping)
unfolding mapping_at
mapping_agrees mm content n place mapping = yields_both (yields_both (yields_good _ (λ _ _ of_form agrees. agrees)) any) (form_agrees mm content n place mapping mapping.form)

pub parts_agree : (mm : Metamodel) (content : Content) → Yields (λ (parts : Parts). Pairs AgreeMapping content.mappings parts.mappings) (checked mm content)
unfolding checked
parts_agree mm content =
    yields_both (yields_both (yields_both (yields_both (yields_both (yields_both
    (yields_good _ (λ domain _ layers _ top _ mappings are filters _ tools _. are))
    any) any) any)
    (pairs_each (λ i mapping. mapping_at mm content i (diagram ▸ codes "mappings" ! i) mapping) 0 content.mappings (λ i mapping. mapping_agrees mm content i (diagram ▸ codes "mappings" ! i) mapping)))
    any)
    any

abbrev pub AgreeFilter : Filter → CheckedFilter → Type 0
AgreeFilter filter checked_filter = ⊤

-- there are as many filters
pub filters_agree : (mm : Metamodel) (content : Content) → Yields (λ (parts : Parts). Pairs AgreeFilter content.filters parts.filters) (checked mm content)
unfolding checked
filters_agree mm content =
    yields_both (yields_both (yields_both (yields_both (yields_both (yields_both
    (yields_good _ (λ domain _ layers _ top _ mappings _ filters are tools _. are))
    any) any) any)
    any)
    (pairs_each (λ i filter. filter_at mm content i (diagram ▸ codes "filters" ! i) filter) 0 content.filters (λ i filter. record { value = λ it is. tt })))
    any
