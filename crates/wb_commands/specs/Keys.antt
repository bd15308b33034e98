-- The key that a text spells. Cut at its colons, dashes and dots, a text has numbers between them; it spells the key of these
-- numbers where it is written as that key is. `what_is_spelled` says the same without cutting.
use Rattle.std.specs.Prelude.{ℕ, ◌&&◌, ◌==◌, ◌^◌, nat_eq, nat_le, nat_lt, Bool, if◌then◌else◌, List, [], ◌∷◌, length, map, Option, Some, None, option_and_then}
use Rattle.std.specs.List.{list_all, slice_split}
use Rattle.std.specs.Cmp.Lexicographic.{pointwise}
use Rattle.std.specs.Str.Parse.{digits_value}
use Rattle.wb_diagram.specs.Keys.{any_key_text, semantic_pair}
use Rattle.wb_diagram.specs.declared.keys.Pair.{Pair}
use Rattle.wb_diagram.specs.declared.keys.Key.{Key}
use Rattle.wb_diagram.specs.declared.keys.EdgeKey.{EdgeKey}
use Rattle.wb_diagram.specs.declared.keys.AnyKey.{AnyKey}
use Rattle.wb_diagram.specs.declared.keys.AnyKey.TheVariants.{Node, Edge}

-- ---- what the numbers of a text make

abbrev pub pair_of : List (List ℕ) → Pair
pair_of (mapping ∷ object ∷ []) = record { mapping = digits_value 10 mapping; object = digits_value 10 object }
pair_of _ = record { mapping = 0; object = 0 }

-- the two numbers round a dot; where there are others, it is a pair that is not written so
abbrev pub pair_in : List ℕ → Pair
pair_in text = pair_of (slice_split (λ b. b == 46) text)

-- the pairs between the dashes
abbrev pub path_in : List ℕ → Key
path_in text = record { pairs = map pair_in (slice_split (λ b. b == 45) text) }

abbrev pub edge_with : Pair → Key → Key → EdgeKey
edge_with own source target = record { mapping = own.mapping; object = own.object; source = source; target = target }

-- a path alone, or a pair with the paths of both ends
abbrev pub key_with : List (List ℕ) → Option AnyKey
key_with (path ∷ []) = Some (Node (path_in path))
key_with (own ∷ source ∷ target ∷ []) = Some (Edge (edge_with (pair_in own) (path_in source) (path_in target)))
key_with _ = None

-- the parts between the colons
abbrev pub key_made : List ℕ → Option AnyKey
key_made text = key_with (slice_split (λ b. b == 58) text)

-- ---- is it written so?

-- numbers of mappings and of objects have 32 bits
abbrev pub is_numbered : Pair → Bool
is_numbered pair = nat_lt pair.mapping (2 ^ 32) && nat_lt pair.object (2 ^ 32)

-- a path has 1 to 32 pairs
abbrev pub is_path : Key → Bool
is_path key = nat_le 1 (length key.pairs) && nat_le (length key.pairs) 32 && list_all is_numbered key.pairs

abbrev pub has_form : AnyKey → Bool
has_form (Node key) = is_path key
has_form (Edge key) = is_numbered (semantic_pair key) && is_path key.source && is_path key.target

abbrev pub is_written_so : List ℕ → AnyKey → Bool
is_written_so text key = has_form key && pointwise nat_eq text (any_key_text key)

-- the key that the text spells, if it spells one
unfoldable pub key_in : List ℕ → Option AnyKey
key_in text = option_and_then (λ key. if is_written_so text key then Some key else None) (key_made text)
