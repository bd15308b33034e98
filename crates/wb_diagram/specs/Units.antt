-- How a unit is written: what is evaluated, with its number, and where.
use Rattle.std.specs.Prelude.{ℕ, List, ◌++◌, Option, None, Some, codes, decimal}
use Rattle.wb_diagram.specs.Keys.{IsPath, IsWritable, pair_text, key_text, any_key_text}
use Rattle.wb_diagram.specs.declared.keys.Key.{Key}
use Rattle.wb_diagram.specs.declared.units.Unit.{Unit as Place}
use Rattle.wb_diagram.specs.declared.units.Unit.TheVariants.{Candidates, Precondition, EdgeCandidates, EdgePrecondition, Source, Target, Style, Label, Filter}

-- the element of this key, or `-` for the diagram
unfoldable pub parent_text : Option Key → List ℕ
parent_text None = codes "-"
parent_text (Some key) = key_text key

-- a word, a number and a key, with a blank between them
unfoldable pub numbered_text : List ℕ → ℕ → List ℕ → List ℕ
numbered_text word number key = word ++ codes " " ++ decimal number ++ codes " " ++ key

unfoldable pub unit_text : Place → List ℕ
unit_text (Candidates mapping parent) = numbered_text (codes "candidates") mapping (parent_text parent)
unit_text (Precondition key) = codes "precondition " ++ key_text key
unit_text (EdgeCandidates mapping) = codes "edge-candidates " ++ decimal mapping
unit_text (EdgePrecondition pair) = codes "edge-precondition " ++ pair_text pair
unit_text (Source pair) = codes "source " ++ pair_text pair
unit_text (Target pair) = codes "target " ++ pair_text pair
unit_text (Style style key) = numbered_text (codes "style") style (any_key_text key)
unit_text (Label style key) = numbered_text (codes "label") style (any_key_text key)
unit_text (Filter filter key) = numbered_text (codes "filter") filter (any_key_text key)

-- each node key in it has 1 to 32 pairs
abbrev pub NamesPaths : Place → Type 0
NamesPaths (Candidates mapping None) = Unit {0}
NamesPaths (Candidates mapping (Some key)) = IsPath key
NamesPaths (Precondition key) = IsPath key
NamesPaths (EdgeCandidates mapping) = Unit {0}
NamesPaths (EdgePrecondition pair) = Unit {0}
NamesPaths (Source pair) = Unit {0}
NamesPaths (Target pair) = Unit {0}
NamesPaths (Style style key) = IsWritable key
NamesPaths (Label style key) = IsWritable key
NamesPaths (Filter filter key) = IsWritable key
