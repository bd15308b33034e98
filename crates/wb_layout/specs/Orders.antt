-- The order of keys: by the list of their pairs, and of pairs by the mapping and then the object.
use Rattle.std.specs.Prelude.{Bool, List}
use Rattle.std.specs.List.{list_any}
use Rattle.std.specs.declared.cmp.Ordering.{Ordering}
use Rattle.std.specs.Ordering.{nat_cmp, then_cmp, on, eq_by_cmp}
use Rattle.std.specs.Cmp.Lexicographic.{slice_cmp}
use Rattle.wb_diagram.specs.declared.keys.Pair.{Pair}
use Rattle.wb_diagram.specs.declared.keys.Key.{Key}

abbrev pub pair_cmp : Pair → Pair → Ordering
pair_cmp = then_cmp (on (λ (p : Pair). p.mapping) nat_cmp) (on (λ (p : Pair). p.object) nat_cmp)

abbrev pub key_cmp : Key → Key → Ordering
key_cmp = on (λ (k : Key). k.pairs) (slice_cmp pair_cmp)

-- do they name one element?
abbrev pub same_key : Key → Key → Bool
same_key = eq_by_cmp key_cmp

-- is the key one of these?
abbrev pub is_key : List Key → Key → Bool
is_key keys key = list_any (same_key key) keys
