-- The look in the style that is used, and its units.
use Rattle.std.proofs.Common.{◌≡◌, ℕ, List, [], ◌++◌, length, refl, ap, ◌∙◌, append-nil}
use Rattle.wb_metamodel.specs.Metamodel.{Metamodel}
use Rattle.wb_diagram.specs.declared.diagrams.Look.{Look}
use Rattle.wb_diagram.specs.declared.keys.AnyKey.{AnyKey}
use Rattle.wb_diagram.specs.declared.units.Unit.{Unit}
use Rattle.wb_viewpoint.specs.declared.styles.Looks.{Looks}
use Rattle.wb_viewpoint.specs.declared.styles.Style.{Style}
use Rattle.wb_answers.specs.Seen.{Told}
use Rattle.wb_looks.specs.Looks.{label_of, label_units, look_by, look_in, style_at, style_units, style_used, units_by}

module _ (looks : Looks) (told : Told) (key : AnyKey) where
  abbrev pub predicates : List Unit
  predicates = style_units told key 1 (length looks.styles)

  pub all_units : predicates ++ label_units key (style_used looks told key) (style_at looks (style_used looks told key)) ≡ units_by looks told key
  unfolding units_by
  all_units = refl

  module _ (n : ℕ) (style : Style) (used : n ≡ style_used looks told key) (at : style ≡ style_at looks n) where
    pub units_in_style : predicates ++ label_units key n style ≡ units_by looks told key
    units_in_style =
        ap (λ us. predicates ++ us) (ap (label_units key n) at ∙ ap (λ (k : ℕ). label_units key k (style_at looks k)) used)
        ∙ all_units

    pub units_split : predicates ++ (label_units key n style ++ []) ≡ units_by looks told key
    units_split = ap (λ us. predicates ++ us) (append-nil (label_units key n style)) ∙ units_in_style

    abbrev with_label : Style → List ℕ → Look
    with_label s label = record { style = n; shape = s.shape; color = s.color; label = label }

    pub look_in_style : (mm : Metamodel) (later : Told) (label : List ℕ) (it : Look) → later ≡ told → label ≡ label_of mm later key n style → it ≡ record { style = n; shape = style.shape; color = style.color; label = label } → it ≡ look_by looks mm told key
    unfolding look_by
    look_in_style mm later label it same is made =
        made
        ∙ (ap (with_label style) (is ∙ ap (λ (t : Told). label_of mm t key n style) same)
        ∙ (ap (look_in mm told key n) at ∙ ap (λ (k : ℕ). look_in mm told key k (style_at looks k)) used))
