-- Each unit of a look has an expression.
use Rattle.std.proofs.Common.{◌≡◌, ◌<◌, ◌≤◌, ◌+◌, ℕ, zero, suc, Bool, true, false, [], ◌∷◌, length, Option, Some, None, refl, sym, ap, subst, ◌∙◌, arith, if◌then◌else◌}
use Rattle.std.specs.Option.{option_map_or}
use Rattle.std.specs.Prelude.{All, IsSome, is_some, option_map, slice_get}
use Rattle.std.proofs.lemmas.List.Elements.{All-append, All-cons, All-nil}
use Rattle.wb_base.specs.Options.{◌>>=◌}
use Rattle.wb_diagram.specs.declared.keys.AnyKey.{AnyKey}
use Rattle.wb_diagram.specs.declared.units.Unit.{Unit}
use Rattle.wb_diagram.specs.declared.units.Unit.TheVariants.{Style as StyleUnit, Label as LabelUnit}
use Rattle.wb_viewpoint.specs.declared.mappings.Mapping.{Mapping}
use Rattle.wb_viewpoint.specs.declared.styles.ConditionalStyle.{ConditionalStyle}
use Rattle.wb_viewpoint.specs.declared.styles.Looks.{Looks}
use Rattle.wb_viewpoint.specs.declared.styles.Style.{Style}
use Rattle.wb_spec_check.specs.Checked.{Specification, IsGood}
use Rattle.wb_spec_check.specs.Units.{expression_of, label_of_looks, mapping_of, mapping_of_key, style_of, when_of, label_of as label_expression_of}
use Rattle.wb_spec_check.specs.declared.checked_looks.CheckedLooks.{CheckedLooks}
use Rattle.wb_spec_check.specs.declared.checked_looks.CheckedStyle.{CheckedStyle}
use Rattle.wb_spec_check.specs.declared.checked_mappings.CheckedMapping.{CheckedMapping}
use Rattle.wb_answers.specs.Meanings.{is_true}
use Rattle.wb_answers.specs.Seen.{Told}
use Rattle.wb_looks.specs.Looks.{HasExpression, HasMapping, chosen, label_units, look_units, looks_of, no_looks, style_at, style_units, style_used, units_by}
use Rattle.wb_looks.proofs.AsInText.{AgreeLooks, AgreeMapping, AgreeStyle, pair_at, parts_agree}
use Rattle.wb_looks.proofs.OwnMapping.{in_text, is_numbered}

-- ---- the styles of one mapping

module _ (looks : Looks) (checked_looks : CheckedLooks) (agree : AgreeLooks looks checked_looks) where
  when_known : (i : ℕ) → i < length looks.styles → IsSome (option_map (λ (it : CheckedStyle). it.when) (style_of checked_looks (suc i)))
  when_known i within =
      let at = pair_at AgreeStyle looks.styles checked_looks.styles i agree.1 within in
      subst (λ (found : Option CheckedStyle). IsSome (option_map (λ (it : CheckedStyle). it.when) found)) (sym at.second_is) refl

  label_known : (n : ℕ) → n ≤ length looks.styles → is_some (style_at looks n).label ≡ true → IsSome (label_of_looks checked_looks n)
  label_known zero within has = sym agree.0 ∙ has
  label_known (suc i) within has =
      let at = pair_at AgreeStyle looks.styles checked_looks.styles i agree.1 (omega (arith, within)) in
      let text = ap (λ (found : Option ConditionalStyle). is_some (option_map_or (λ (it : ConditionalStyle). it.style) found looks.style).label) at.first_is in
      subst (λ (found : Option CheckedStyle). IsSome (found >>= (λ (it : CheckedStyle). it.label))) (sym at.second_is) (sym at.known ∙ (sym text ∙ has))

-- ---- the units of a look

predicates_all : (Q : Unit → Type 0) (told : Told) (key : AnyKey) (i k : ℕ) → ((j : ℕ) → j < i + k → Q (StyleUnit (suc j) key)) → All Q (style_units told key (suc i) k)
unfolding style_units
predicates_all Q told key i zero h = All-nil Q
predicates_all Q told key i (suc k) h = All-cons Q (StyleUnit (suc i) key) _ (h i (omega arith))
    (rest (is_true (told (StyleUnit (suc i) key))) (predicates_all Q told key (suc i) k (λ j before. h j (omega (arith, before)))))
  where
    rest : (b : Bool) → All Q (style_units told key (suc (suc i)) k) → All Q (if b then [] else style_units told key (suc (suc i)) k)
    rest true later = All-nil Q
    rest false later = later

chosen_within : (told : Told) (key : AnyKey) (i k : ℕ) → chosen told key (suc i) k ≤ i + k
unfolding chosen
chosen_within told key i zero = omega arith
chosen_within told key i (suc k) = by (is_true (told (StyleUnit (suc i) key))) (chosen_within told key (suc i) k)
  where
    by : (b : Bool) → chosen told key (suc (suc i)) k ≤ suc i + k → (if b then suc i else chosen told key (suc (suc i)) k) ≤ i + suc k
    by true later = omega arith
    by false later = omega (arith, later)

label_all : (Q : Unit → Type 0) (key : AnyKey) (n : ℕ) (style : Style) → (is_some style.label ≡ true → Q (LabelUnit n key)) → All Q (label_units key n style)
label_all Q key n style h = by (is_some style.label) h
  where
    by : (b : Bool) → (b ≡ true → Q (LabelUnit n key)) → All Q (if b then LabelUnit n key ∷ [] else [])
    by true h = All-cons Q (LabelUnit n key) [] (h refl) (All-nil Q)
    by false h = All-nil Q

pub units_all : (Q : Unit → Type 0) (looks : Looks) (told : Told) (key : AnyKey) → ((i : ℕ) → i < length looks.styles → Q (StyleUnit (suc i) key)) → ((n : ℕ) → n ≤ length looks.styles → is_some (style_at looks n).label ≡ true → Q (LabelUnit n key)) → All Q (units_by looks told key)
unfolding units_by
units_all Q looks told key of_style of_label =
    All-append Q (style_units told key 1 (length looks.styles)) (label_units key (style_used looks told key) (style_at looks (style_used looks told key)))
    (predicates_all Q told key 0 (length looks.styles) (λ j before. of_style j (omega (arith, before))))
    (label_all Q key (style_used looks told key) (style_at looks (style_used looks told key)) (of_label (style_used looks told key) few))
  where
    few : style_used looks told key ≤ length looks.styles
    few = let most = chosen_within told key 0 (length looks.styles) in omega (arith, most)

-- ---- their expressions

module _ (spec : Specification) (key : AnyKey) (n : ℕ) (mapping : CheckedMapping) (of_key : mapping_of_key key ≡ Some n) (of_spec : mapping_of spec n ≡ Some mapping) where
  style_expressed : (s : ℕ) → IsSome (option_map (λ (it : CheckedStyle). it.when) (style_of mapping.looks s)) → HasExpression spec (StyleUnit s key)
  unfolding expression_of
  style_expressed s known =
      subst (λ (o : Option ℕ). IsSome (o >>= when_of spec s)) (sym of_key)
      (subst (λ (o : Option CheckedMapping). IsSome (o >>= (λ (it : CheckedMapping). option_map (λ (style : CheckedStyle). style.when) (style_of it.looks s)))) (sym of_spec) known)

  label_expressed : (s : ℕ) → IsSome (label_of_looks mapping.looks s) → HasExpression spec (LabelUnit s key)
  unfolding expression_of
  label_expressed s known =
      subst (λ (o : Option ℕ). IsSome (o >>= label_expression_of spec s)) (sym of_key)
      (subst (λ (o : Option CheckedMapping). IsSome (o >>= (λ (it : CheckedMapping). label_of_looks it.looks s))) (sym of_spec) known)

  pub units_expressed : (looks : Looks) → AgreeLooks looks mapping.looks → (told : Told) → All (HasExpression spec) (units_by looks told key)
  units_expressed looks agree told =
      units_all (HasExpression spec) looks told key
      (λ i within. style_expressed (suc i) (when_known looks mapping.looks agree i within))
      (λ s within has. label_expressed s (label_known looks mapping.looks agree s within has))

look_expressed : (spec : Specification) (key : AnyKey) (n : ℕ) → IsGood spec → mapping_of_key key ≡ Some n → n < length spec.0.mappings → (told : Told) → All (HasExpression spec) (look_units spec told key)
unfolding looks_of
look_expressed spec key n good of_key within told =
    let at = pair_at AgreeMapping spec.0.mappings spec.1.mappings n ((parts_agree good.0 spec.0).value spec.1 good.1) within in
    let looks_are = ap (λ (o : Option ℕ). option_map_or (λ (it : Mapping). it.looks) (o >>= slice_get spec.0.mappings) no_looks) of_key ∙ ap (λ (o : Option Mapping). option_map_or (λ (it : Mapping). it.looks) o no_looks) at.first_is in
    subst (λ (looks : Looks). All (HasExpression spec) (units_by looks told key)) (sym looks_are) (units_expressed spec key n at.second of_key at.second_is at.first.looks at.known told)

pub all_expressed : (spec : Specification) (key : AnyKey) → IsGood spec → HasMapping spec key → (told : Told) → All (HasExpression spec) (look_units spec told key)
all_expressed spec key good has told = by (mapping_of_key key) refl
  where
    by : (found : Option ℕ) → mapping_of_key key ≡ found → All (HasExpression spec) (look_units spec told key)
    by None is = absurd (let none : IsSome {T = ℕ} None = subst (λ (o : Option ℕ). IsSome o) is (is_numbered spec key has) in cc)
    by (Some n) is = look_expressed spec key n good is (in_text spec key n good has is) told
