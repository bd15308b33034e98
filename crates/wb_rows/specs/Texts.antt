-- Rows as a finite map from keys to texts.
use Rattle.std.specs.Prelude.{ℕ, T, List, [], ◌∷◌, map, Option}
use Rattle.std.specs.declared.cmp.Ordering.{Ordering}
use Rattle.std.specs.Ordering.{nat_cmp}
use Rattle.std.specs.Cmp.Lexicographic.{slice_cmp}
use Rattle.std.specs.FinMap as maps
use Rattle.std.specs.FinMap.{FinMap, find, is_sorted}
use Rattle.wb_outer.specs.declared.keeper.Row.{Row}

-- keys go by their bytes
abbrev pub key_cmp : List ℕ → List ℕ → Ordering
key_cmp = slice_cmp nat_cmp

abbrev pub Texts : Type 0
Texts = FinMap key_cmp (List ℕ)

-- ---- rows as entries

abbrev pub row : (key text : List ℕ) → Row
row key text = record { key = key; text = text }

abbrev pub entry_of : Row → List ℕ × List ℕ
entry_of r = (r.key, r.text)

abbrev pub row_of : List ℕ × List ℕ → Row
row_of e = row e.0 e.1

-- the rows of a map, ascending by key
abbrev pub rows_in : Texts → List Row
rows_in texts = map row_of (maps.entries texts)

-- the map with these rows, each in place of an earlier one of its key
abbrev pub with_rows : List Row → Texts → Texts
with_rows [] texts = texts
with_rows (r ∷ rs) texts = with_rows rs (maps.insert texts r.key r.text)

-- ---- lists of rows

-- each key is below those after it, so no key stands twice
abbrev pub Ascend : List Row → Type 0
Ascend rows = T (is_sorted key_cmp (map entry_of rows))

-- the text that a key has among the rows
abbrev pub text_at : List Row → List ℕ → Option (List ℕ)
text_at rows key = find key_cmp key (map entry_of rows)
