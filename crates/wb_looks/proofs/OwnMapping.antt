-- The mapping of a key, where it is one of a checked viewpoint's: it stands in the viewpoint's text too.
use Rattle.std.proofs.Common.{◌≡◌, ◌<◌, ◌≤◌, ℕ, true, List, length, get_or, Option, Some, None, refl, sym, ap, subst, ◌∙◌}
use Rattle.std.specs.Prelude.{IsSome, slice_get}
use Rattle.std.specs.Option.{option_map_or}
use Rattle.std.specs.List.{list_all}
use Rattle.std.proofs.lemmas.Bool.{and_parts, leb-true}
use Rattle.std.proofs.lemmas.List.Elements.{All-get_or}
use Rattle.std.proofs.lemmas.List.Sums.{AllPass-from_list_all}
use Rattle.std.proofs.lemmas.Option.{slice_get_within, slice_get-get_or}
use Rattle.wb_base.specs.Options.{◌>>=◌}
use Rattle.wb_diagram.specs.declared.keys.AnyKey.{AnyKey}
use Rattle.wb_viewpoint.specs.Limits.{has_few_styles, is_small}
use Rattle.wb_viewpoint.specs.declared.content.Content.{Content}
use Rattle.wb_viewpoint.specs.declared.mappings.Mapping.{Mapping}
use Rattle.wb_viewpoint.specs.declared.styles.Looks.{Looks}
use Rattle.wb_spec_check.specs.Checked.{Specification, IsGood}
use Rattle.wb_spec_check.specs.Units.{mapping_of, mapping_of_key}
use Rattle.wb_looks.specs.Looks.{HasMapping, looks_of, no_looks}
use Rattle.wb_looks.proofs.AsInText.{AgreeMapping, parts_agree, same_length}

-- ---- a step after another

pub first_found : {A B : Type 0} (found : Option A) (next : A → Option B) → IsSome (found >>= next) → IsSome found
first_found None next some = some
first_found (Some x) next some = refl

second_found : {A B : Type 0} (found : Option A) (next : A → Option B) (x : A) → found ≡ Some x → IsSome (found >>= next) → IsSome (next x)
second_found {A} {B} found next x is some = subst (λ (o : Option A). IsSome (o >>= next)) is some

is_within : {A : Type 0} (xs : List A) (n : ℕ) → IsSome (slice_get xs n) → n < length xs
is_within {A} xs n some = by (slice_get xs n) refl some
  where
    by : (found : Option A) → slice_get xs n ≡ found → IsSome found → n < length xs
    by None is some = cc
    by (Some x) is some = slice_get_within xs n x is

-- ---- the mapping of a key

pub is_numbered : (spec : Specification) (key : AnyKey) → HasMapping spec key → IsSome (mapping_of_key key)
is_numbered spec key has = first_found (mapping_of_key key) (mapping_of spec) has

pub in_text : (spec : Specification) (key : AnyKey) (n : ℕ) → IsGood spec → HasMapping spec key → mapping_of_key key ≡ Some n → n < length spec.0.mappings
in_text spec key n good has is =
    let same = same_length AgreeMapping spec.0.mappings spec.1.mappings ((parts_agree good.0 spec.0).value spec.1 good.1) in
    subst (λ (k : ℕ). n < k) (sym same) (is_within spec.1.mappings n (second_found (mapping_of_key key) (mapping_of spec) n is has))

pub own_looks : (spec : Specification) (key : AnyKey) (n : ℕ) (d : Mapping) → mapping_of_key key ≡ Some n → n < length spec.0.mappings → (get_or spec.0.mappings n d).looks ≡ looks_of spec key
unfolding looks_of
own_looks spec key n d is within =
    sym (ap (λ (o : Option ℕ). looks_in (o >>= slice_get spec.0.mappings)) is ∙ ap looks_in (slice_get-get_or spec.0.mappings n d within))
  where
    looks_in : Option Mapping → Looks
    looks_in found = option_map_or (λ (it : Mapping). it.looks) found no_looks

pub few_styles : (ms : List Mapping) (n : ℕ) (d : Mapping) → n < length ms → list_all has_few_styles ms ≡ true → length (get_or ms n d).looks.styles ≤ 32
few_styles ms n d within all = leb-true _ _ (All-get_or (λ (m : Mapping). has_few_styles m ≡ true) ms n d within (AllPass-from_list_all has_few_styles ms all))

pub small_styles : (content : Content) (ms : List Mapping) → ms ≡ content.mappings → is_small content ≡ true → list_all has_few_styles ms ≡ true
unfolding is_small
small_styles content ms is small = ap (list_all has_few_styles) is ∙ (and_parts _ _ (and_parts _ _ small).0).1
