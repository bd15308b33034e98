-- The conditions tell which keys are clear.
use Rattle.std.proofs.Common.{◌≡◌, ◌<◌, ◌≤◌, ℕ, Bool, false, not, ◌&&◌, List, [], length, map, Option, Some, None, refl, sym, ap, ◌∙◌, ⊎_elim, arith}
use Rattle.std.specs.Prelude.{nat_eq, option_map, slice_get, unwrap_or}
use Rattle.std.specs.Option.{option_map_or}
use Rattle.std.specs.List.{list_any}
use Rattle.std.proofs.lemmas.Bool.{cases_lt}
use Rattle.std.proofs.lemmas.List.FromFn.{length-map-range_with_len}
use Rattle.std.proofs.lemmas.Option.{slice_get-map, slice_get_past}
use Rattle.wb_base.specs.Options.{◌>>=◌}
use Rattle.wb_base.proofs.ListLemmas.{number-at}
use Rattle.wb_diagram.specs.declared.keys.AnyKey.{AnyKey}
use Rattle.wb_diagram.specs.declared.units.Unit.TheVariants.{Filter as FilterUnit}
use Rattle.wb_spec_check.specs.Checked.{Specification}
use Rattle.wb_spec_check.specs.Units.{mapping_of_key}
use Rattle.wb_spec_check.specs.declared.checked_filters.CheckedFilter.{CheckedFilter}
use Rattle.wb_spec_check.specs.declared.checked_mappings.CheckedMapping.{CheckedMapping}
use Rattle.wb_answers.specs.Meanings.{is_true}
use Rattle.wb_answers.specs.Seen.{Told}
use Rattle.wb_looks.specs.Conditions.{SameMarks, Tell, active_mappings, is_clear_at, is_flagged, is_on_active}
use Rattle.wb_looks.specs.Filters.{filter_numbers, filtered, hides, is_filtered}
use Rattle.wb_looks.specs.Visible.{Switches, is_active, is_clear, is_on_active_layer}
use Rattle.wb_answers.specs.SameKeys.{same_any}
use Rattle.wb_looks.specs.declared.conditions.Conditions.{Conditions}

-- ---- filters

-- what a filter that the viewpoint does not have hides
pub none_filtered : (spec : Specification) (f : ℕ) (key : AnyKey) → slice_get spec.1.filters f ≡ None → is_filtered spec f key ≡ false
unfolding is_filtered
none_filtered spec f key is =
    ap (λ (found : Option CheckedFilter). option_map_or (λ (m : ℕ). list_any (nat_eq m) (option_map_or (λ (it : CheckedFilter). it.mappings) found [])) (mapping_of_key key) false) is
    ∙ by (mapping_of_key key)
  where
    by : (number : Option ℕ) → option_map_or (λ (m : ℕ). list_any (nat_eq m) []) number false ≡ false
    by None = refl
    by (Some m) = refl

-- the flag that was found for a filter at a key's place
flagged : (spec : Specification) (told : Told) (keys : List AnyKey) (place : ℕ) (key : AnyKey) (f : ℕ) → slice_get keys place ≡ Some key → is_flagged (filtered spec told keys) place f ≡ hides spec told f key
unfolding filtered
flagged spec told keys place key f at = ⊎_elim known unknown (cases_lt f (length spec.1.filters))
  where
    flags_at : Option (List Bool) → Bool
    flags_at found = option_map_or (λ (flags : List Bool). unwrap_or (slice_get flags place) false) found false

    known : f < length spec.1.filters → is_flagged (filtered spec told keys) place f ≡ hides spec told f key
    known within =
        ap flags_at (slice_get-map (λ (g : ℕ). map (hides spec told g) keys) (filter_numbers spec) f ∙ ap (option_map (λ (g : ℕ). map (hides spec told g) keys)) (number-at (length spec.1.filters) f within))
        ∙ ap (λ (found : Option Bool). unwrap_or found false) (slice_get-map (hides spec told f) keys place ∙ ap (option_map (hides spec told f)) at)

    unknown : length spec.1.filters ≤ f → is_flagged (filtered spec told keys) place f ≡ hides spec told f key
    unknown past =
        let count = length-map-range_with_len (λ (g : ℕ). map (hides spec told g) keys) 0 (length spec.1.filters) in
        ap flags_at (slice_get_past (filtered spec told keys) f (omega (arith, count, past)))
        ∙ sym (ap (λ (b : Bool). b && is_true (told (FilterUnit f key))) (none_filtered spec f key (slice_get_past spec.1.filters f past)))

-- ---- layers

on_active : (spec : Specification) (s : Switches) (key : AnyKey) → is_on_active (active_mappings spec.1.mappings s.layers) key ≡ is_on_active_layer spec s key
unfolding is_on_active_layer
on_active spec s key = by (mapping_of_key key)
  where
    test : CheckedMapping → Bool
    test it = is_active s.layers it.layer

    found : (mapping : Option CheckedMapping) → unwrap_or (option_map test mapping) false ≡ option_map_or test mapping false
    found None = refl
    found (Some it) = refl

    by : (number : Option ℕ) → option_map_or (λ (m : ℕ). unwrap_or (slice_get (map test spec.1.mappings) m) false) number false ≡ option_map_or test (number >>= slice_get spec.1.mappings) false
    by None = refl
    by (Some m) = ap (λ (o : Option Bool). unwrap_or o false) (slice_get-map test spec.1.mappings m) ∙ found (slice_get spec.1.mappings m)

-- ---- all of it

-- these conditions were made of these switches
pub record Made (spec : Specification) (told : Told) (keys : List AnyKey) (s : Switches) (c : Conditions) : Type 0 where
  pub active : c.active.now ≡ active_mappings spec.1.mappings s.layers
  pub filters : c.filters.now ≡ s.filters
  pub hides : c.hides.now ≡ filtered spec told keys
  pub hidden : SameMarks s.hidden c.hidden.now.keys

pub made_tell : (spec : Specification) (told : Told) (keys : List AnyKey) (s : Switches) (c : Conditions) → Made spec told keys s c → Tell c keys (is_clear spec told s)
unfolding is_clear_at is_clear
made_tell spec told keys s c made = λ place key at.
    let layer = ap (λ (active : List Bool). is_on_active active key) made.active ∙ on_active spec s key in
    let filter =
    ap (λ (flags : List (List Bool)). list_any (is_flagged flags place) c.filters.now) made.hides
    ∙ (ap (list_any (is_flagged (filtered spec told keys) place)) made.filters
    ∙ ap (λ (test : ℕ → Bool). list_any test s.filters) (λ i f. flagged spec told keys place key f at i)) in
    let mark = made.hidden key in
    ap (λ (b : Bool). b && not (list_any (is_flagged c.hides.now place) c.filters.now) && not (list_any (same_any key) c.hidden.now.keys)) layer
    ∙ (ap (λ (b : Bool). is_on_active_layer spec s key && not b && not (list_any (same_any key) c.hidden.now.keys)) filter
    ∙ ap (λ (b : Bool). is_on_active_layer spec s key && not (list_any (λ (f : ℕ). hides spec told f key) s.filters) && not b) mark)
