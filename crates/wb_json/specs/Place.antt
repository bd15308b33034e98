-- A place in a JSON value: a JSON Pointer (RFC 6901).
-- The empty pointer is the whole value. A place grows at its front, from the part outwards.
use Rattle.std.specs.Prelude.{ℕ, ◌==◌, List, [], ◌∷◌, ◌++◌, Result, Ok, Err, decimal, if◌then◌else◌}
use Rattle.std.specs.List.{flat_map}

abbrev pub Place : Type 0
Place = List ℕ

-- `~0` stands for `~`, and `~1` for `/`
abbrev pub escape : ℕ → List ℕ
escape c = if c == 126 then 126 ∷ 48 ∷ [] else (if c == 47 then 126 ∷ 49 ∷ [] else c ∷ [])

-- the step to a member: `/` and its name
unfoldable pub pointer_segment : List ℕ → Place
pointer_segment name = 47 ∷ flat_map escape name

-- the step to an item: `/` and its number, from 0
unfoldable pub index_segment : ℕ → Place
index_segment n = 47 ∷ decimal n

-- what was found in a part, with its places seen from the whole
abbrev pub within : {A : Type 0} → Place → Result A Place → Result A Place
within step (Ok v) = Ok v
within step (Err place) = Err (step ++ place)

abbrev pub at_member : {A : Type 0} → List ℕ → Result A Place → Result A Place
at_member name found = within (pointer_segment name) found

abbrev pub at_index : {A : Type 0} → ℕ → Result A Place → Result A Place
at_index n found = within (index_segment n) found
