-- Keys, and how they are written. Two keys that are written alike are one key.
use Rattle.std.specs.Prelude.{◌≡◌, ℕ, ◌-◌, ◌^◌, ◌<◌, ◌≤◌, All, List, ◌++◌, length, map, take, codes, decimal}
use Rattle.std.specs.List.{join_with_byte, slice_index_or}
use Rattle.wb_diagram.specs.declared.keys.Pair.{Pair}
use Rattle.wb_diagram.specs.declared.keys.Key.{Key}
use Rattle.wb_diagram.specs.declared.keys.EdgeKey.{EdgeKey}
use Rattle.wb_diagram.specs.declared.keys.AnyKey.{AnyKey}
use Rattle.wb_diagram.specs.declared.keys.AnyKey.TheVariants.{Node, Edge}

-- a path from the diagram down to an element has 1 to 32 pairs
pub record IsPath (key : Key) : Type 0 where
  pub not_empty : 1 ≤ length key.pairs
  pub within_limit : length key.pairs ≤ 32

-- both ends of an edge are elements
pub record JoinsPaths (key : EdgeKey) : Type 0 where
  pub source : IsPath key.source
  pub target : IsPath key.target

abbrev pub IsWritable : AnyKey → Type 0
IsWritable (Node key) = IsPath key
IsWritable (Edge key) = JoinsPaths key

-- the pair of the element itself, which is the last one
unfoldable pub own_pair : Key → Pair
own_pair key = slice_index_or key.pairs (length key.pairs - 1) (record { mapping = 0; object = 0 })

-- the path to what the element stands in, which is empty for the diagram itself
unfoldable pub parent_pairs : Key → List Pair
parent_pairs key = take (length key.pairs - 1) key.pairs

-- the number of the mapping, a dot, and the number of the object, in decimal
unfoldable pub pair_text : Pair → List ℕ
pair_text pair = decimal pair.mapping ++ codes "." ++ decimal pair.object

-- the pairs in order, with `-` between them
unfoldable pub path_text : List Pair → List ℕ
path_text pairs = join_with_byte 45 (map pair_text pairs)

abbrev pub key_text : Key → List ℕ
key_text key = path_text key.pairs

-- what an edge stands for: its mapping and the semantic object
abbrev pub semantic_pair : EdgeKey → Pair
semantic_pair key = record { mapping = key.mapping; object = key.object }

-- the mapping with the semantic object, the source and the target, with `:` between them
unfoldable pub edge_key_text : EdgeKey → List ℕ
edge_key_text key = pair_text (semantic_pair key) ++ codes ":" ++ key_text key.source ++ codes ":" ++ key_text key.target

abbrev pub any_key_text : AnyKey → List ℕ
any_key_text (Node key) = key_text key
any_key_text (Edge key) = edge_key_text key

-- ---- reading

-- numbers of mappings and of objects have 32 bits
abbrev pub IsNumbered : Pair → Type 0
IsNumbered pair = (pair.mapping < 2 ^ 32) × (pair.object < 2 ^ 32)

abbrev pub HasNumbers : AnyKey → Type 0
HasNumbers (Node key) = All IsNumbered key.pairs
HasNumbers (Edge key) = IsNumbered (semantic_pair key) × All IsNumbered key.source.pairs × All IsNumbered key.target.pairs

-- the text is the written form of the key, which can be written
pub record Spells (text : List ℕ) (key : AnyKey) : Type 0 where
  pub writable : IsWritable key
  pub numbered : HasNumbers key
  pub written : text ≡ any_key_text key
