-- How elements and edges look over answers, and the units that are asked for it.
use Rattle.std.specs.Prelude.{ℕ, zero, suc, is_some, IsSome, List, [], ◌∷◌, ◌++◌, length, slice_get, None, unwrap_or, if◌then◌else◌}
use Rattle.std.specs.Option.{option_map_or}
use Rattle.wb_base.specs.Options.{◌>>=◌}
use Rattle.wb_metamodel.specs.Metamodel.{Metamodel}
use Rattle.wb_aql_values.specs.TextForms.{text_form}
use Rattle.wb_aql_values.specs.declared.values.Answer.{Answer}
use Rattle.wb_aql_values.specs.declared.values.Answer.TheVariants as a
use Rattle.wb_diagram.specs.declared.diagrams.Look.{Look}
use Rattle.wb_diagram.specs.declared.keys.AnyKey.{AnyKey}
use Rattle.wb_diagram.specs.declared.units.Unit.{Unit}
use Rattle.wb_diagram.specs.declared.units.Unit.TheVariants.{Style as StyleUnit, Label as LabelUnit}
use Rattle.wb_viewpoint.specs.declared.mappings.Mapping.{Mapping}
use Rattle.wb_viewpoint.specs.declared.styles.ConditionalStyle.{ConditionalStyle}
use Rattle.wb_viewpoint.specs.declared.styles.Looks.{Looks}
use Rattle.wb_viewpoint.specs.declared.styles.Style.{Style}
use Rattle.wb_spec_check.specs.Checked.{Specification}
use Rattle.wb_spec_check.specs.Units.{expression_of, mapping_of, mapping_of_key}
use Rattle.wb_answers.specs.Meanings.{is_true}
use Rattle.wb_answers.specs.Seen.{Told}

-- ---- the looks of a mapping, as the viewpoint's text has them

-- the key's mapping is one of the viewpoint's
abbrev pub HasMapping : Specification → AnyKey → Type 0
HasMapping spec key = IsSome (mapping_of_key key >>= mapping_of spec)

-- a mapping that does not stand in the viewpoint has an empty style alone
abbrev pub no_looks : Looks
no_looks = record { style = record { shape = []; color = []; label = None }; styles = [] }

-- the looks of a key's mapping
unfoldable pub looks_of : Specification → AnyKey → Looks
looks_of spec key = option_map_or (λ (it : Mapping). it.looks) (mapping_of_key key >>= slice_get spec.0.mappings) no_looks

-- the style of a number: 0 is the default style, conditional ones count from 1
abbrev pub style_at : Looks → ℕ → Style
style_at looks zero = looks.style
style_at looks (suc i) = option_map_or (λ (it : ConditionalStyle). it.style) (slice_get looks.styles i) looks.style

-- ---- the style that is used

-- of so many conditional styles from this one on, the first whose predicate is true, or else the default style
unfoldable pub chosen : Told → AnyKey → (style : ℕ) → (count : ℕ) → ℕ
chosen told key style zero = 0
chosen told key style (suc n) = if is_true (told (StyleUnit style key)) then style else chosen told key (suc style) n

-- the predicates of these styles in order, up to the first that is true
unfoldable pub style_units : Told → AnyKey → (style : ℕ) → (count : ℕ) → List Unit
style_units told key style zero = []
style_units told key style (suc n) = StyleUnit style key ∷ (if is_true (told (StyleUnit style key)) then [] else style_units told key (suc style) n)

-- ---- its label

-- the text form of an answer, which is empty on a fault, or where it is too long
abbrev pub form_of : Metamodel → Answer → List ℕ
form_of mm (a.Value value) = unwrap_or (text_form mm value) []
form_of mm (a.Fault fault) = []

-- the label of a style of this number, which is empty where the style declares none
abbrev pub label_of : Metamodel → Told → AnyKey → ℕ → Style → List ℕ
label_of mm told key n style = if is_some style.label then form_of mm (told (LabelUnit n key)) else []

-- the unit of that label, if the style declares one
abbrev pub label_units : AnyKey → ℕ → Style → List Unit
label_units key n style = if is_some style.label then LabelUnit n key ∷ [] else []

-- ---- the look

-- the look in a style of this number
abbrev pub look_in : Metamodel → Told → AnyKey → ℕ → Style → Look
look_in mm told key n style = record { style = n; shape = style.shape; color = style.color; label = label_of mm told key n style }

-- the style that is used: the first conditional one whose predicate is true, or else the default one
abbrev pub style_used : Looks → Told → AnyKey → ℕ
style_used looks told key = chosen told key 1 (length looks.styles)

unfoldable pub look_by : Looks → Metamodel → Told → AnyKey → Look
look_by looks mm told key = look_in mm told key (style_used looks told key) (style_at looks (style_used looks told key))

unfoldable pub units_by : Looks → Told → AnyKey → List Unit
units_by looks told key = style_units told key 1 (length looks.styles) ++ label_units key (style_used looks told key) (style_at looks (style_used looks told key))

-- the look of the element or edge of a key
abbrev pub look : Specification → Metamodel → Told → AnyKey → Look
look spec mm told key = look_by (looks_of spec key) mm told key

-- the units of that look: the predicates of conditional styles that are tried, and then the label of the style that is used
abbrev pub look_units : Specification → Told → AnyKey → List Unit
look_units spec told key = units_by (looks_of spec key) told key

-- ---- a law

-- the viewpoint has an expression for the unit
abbrev pub HasExpression : Specification → Unit → Type 0
HasExpression spec unit = IsSome (expression_of spec unit)
