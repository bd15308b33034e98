-- Where the head of a request ends, and how many lines it has.
use Rattle.std.specs.Prelude.{◌≡◌, ℕ, ◌+◌, ◌==◌, ◌||◌, Bool, List, [], ◌∷◌, ◌++◌, length, count_by, Option, None, Some, option_map, if◌then◌else◌}
use Rattle.std.specs.Option.{option_or}
use Rattle.wb_http.specs.declared.ends.Mark.{Mark}
use Rattle.wb_http.specs.declared.ends.Mark.TheVariants.{Blank, Text, Feed, FeedReturn}

-- CR or LF
abbrev pub is_break : ℕ → Bool
is_break b = b == 13 || b == 10

-- one more, where there is one
abbrev pub one_more : Option ℕ → Option ℕ
one_more = option_map (λ n. n + 1)

-- the length of LF, where the bytes begin with it
abbrev pub feed : List ℕ → Option ℕ
feed [] = None
feed (b ∷ bytes) = if b == 10 then Some 1 else None

-- the length of LF or CR LF, where the bytes begin with it
abbrev pub line_end : List ℕ → Option ℕ
line_end [] = None
line_end (b ∷ bytes) = if b == 10 then Some 1 else (if b == 13 then one_more (feed bytes) else None)

-- how many bytes there are up to and with the first empty line: LF, then LF or CR LF
unfoldable pub to_empty_line : List ℕ → Option ℕ
to_empty_line [] = None
to_empty_line (b ∷ bytes) = one_more (option_or (if b == 10 then line_end bytes else None) (to_empty_line bytes))

-- the length of a head: up to and with the first empty line after a byte that is neither CR nor LF
unfoldable pub head_length : List ℕ → Option ℕ
head_length [] = None
head_length (b ∷ bytes) = one_more (if is_break b then head_length bytes else to_empty_line bytes)

-- the lines of a head: its LF from its first byte on that is neither CR nor LF
unfoldable pub lines_of : List ℕ → ℕ
lines_of [] = 0
lines_of (b ∷ bytes) = if is_break b then lines_of bytes else count_by (λ c. c == 10) bytes

-- how many bytes of a head are still to come, behind those that the mark tells of
abbrev pub still_of : Mark → List ℕ → Option ℕ
still_of Blank bytes = head_length bytes
still_of Text bytes = to_empty_line bytes
still_of Feed bytes = option_or (line_end bytes) (to_empty_line bytes)
still_of FeedReturn bytes = option_or (feed bytes) (to_empty_line bytes)

-- none is to come where the head is over
abbrev pub still_after : Option Mark → List ℕ → Option ℕ
still_after None bytes = Some 0
still_after (Some mark) bytes = still_of mark bytes

-- the mark tells of these bytes, whatever bytes follow
abbrev pub Tells : Mark → List ℕ → Type 0
Tells mark bytes = (rest : List ℕ) → head_length (bytes ++ rest) ≡ option_map (λ n. n + length bytes) (still_of mark rest)
