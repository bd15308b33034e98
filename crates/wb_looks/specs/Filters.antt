-- Filters over answers, and the units that are asked for them.
use Rattle.std.specs.Prelude.{ℕ, Bool, false, ◌&&◌, nat_eq, List, [], ◌∷◌, length, map, flat_map, slice_get, if◌then◌else◌}
use Rattle.std.specs.Option.{option_map_or}
use Rattle.std.specs.List.{list_any}
use Rattle.wb_base.specs.Lists.{numbers}
use Rattle.wb_diagram.specs.declared.keys.AnyKey.{AnyKey}
use Rattle.wb_diagram.specs.declared.units.Unit.{Unit}
use Rattle.wb_diagram.specs.declared.units.Unit.TheVariants.{Filter as FilterUnit}
use Rattle.wb_spec_check.specs.Checked.{Specification}
use Rattle.wb_spec_check.specs.Units.{mapping_of_key}
use Rattle.wb_spec_check.specs.declared.checked_filters.CheckedFilter.{CheckedFilter}
use Rattle.wb_answers.specs.Meanings.{is_true}
use Rattle.wb_answers.specs.Seen.{Told}

-- the mappings of the filter of this number, which are none where the viewpoint has no such filter
abbrev pub mappings_of_filter : Specification → ℕ → List ℕ
mappings_of_filter spec f = option_map_or (λ (it : CheckedFilter). it.mappings) (slice_get spec.1.filters f) []

-- is the key's mapping one of the filter's?
unfoldable pub is_filtered : Specification → ℕ → AnyKey → Bool
is_filtered spec f key = option_map_or (λ (m : ℕ). list_any (nat_eq m) (mappings_of_filter spec f)) (mapping_of_key key) false

-- does the filter hide the key, where it is active? Its predicate is true of one of its mappings
abbrev pub hides : Specification → Told → ℕ → AnyKey → Bool
hides spec told f key = is_filtered spec f key && is_true (told (FilterUnit f key))

-- the unit of the filter at a key, if its mapping is one of the filter's
abbrev pub filter_unit : Specification → ℕ → AnyKey → List Unit
filter_unit spec f key = if is_filtered spec f key then FilterUnit f key ∷ [] else []

-- the numbers of the viewpoint's filters
abbrev pub filter_numbers : Specification → List ℕ
filter_numbers spec = numbers (length spec.1.filters)

-- ---- all filters, whatever is active

-- by filter in order, and then by key in order: does the filter hide the key?
unfoldable pub filtered : Specification → Told → List AnyKey → List (List Bool)
filtered spec told keys = map (λ (f : ℕ). map (hides spec told f) keys) (filter_numbers spec)

-- the units of all filters, by filter in order, and then by key in order
unfoldable pub filter_units : Specification → List AnyKey → List Unit
filter_units spec keys = flat_map (λ (f : ℕ). flat_map (filter_unit spec f) keys) (filter_numbers spec)
