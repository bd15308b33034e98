-- The words of the command line, and what they ask for.
use Rattle.std.specs.Prelude.{ℕ, Bool, true, false, not, ◌&&◌, ◌==◌, nat_le, List, [], ◌∷◌, length, Option, Some, None, option_and_then, codes, if◌then◌else◌}
use Rattle.std.specs.Str.{is_utf8}
use Rattle.std.specs.Str.Parse.{digits_value}
use Rattle.std.specs.List.{list_all, slice_index_or}
use Rattle.wb_base.specs.Names.{same_name}

-- the files of a picture, by their names
pub record Sources : Type 0 where
  pub metamodel : List ℕ
  pub viewpoint : List ℕ
  pub model : List ℕ

-- what the words ask for
pub data Task : Type 0 where
  check : (metamodel viewpoint : List ℕ) → Task
  draw : Sources → Task
  serve : Sources → (connections : ℕ) → Task
  big : ℕ → Task

-- ---- single words

-- a file's name is not empty, and does not begin with `-` (45)
unfoldable pub is_file_name : List ℕ → Bool
is_file_name name = not (length name == 0) && not (slice_index_or name 0 0 == 45)

abbrev pub is_digit : ℕ → Bool
is_digit b = nat_le 48 b && nat_le b 57

-- decimal digits without a leading zero (48)
abbrev pub is_numeral : List ℕ → Bool
is_numeral word = not (length word == 0) && not (slice_index_or word 0 0 == 48) && list_all is_digit word

-- a number from 1 to the most that there may be
unfoldable pub is_number : ℕ → List ℕ → Bool
is_number most word = is_numeral word && nat_le (digits_value 10 word) most

abbrev pub most_connections : ℕ
most_connections = 1000000

-- ---- forms

-- the word of this number, from 0
abbrev pub word : List (List ℕ) → ℕ → List ℕ
word words k = slice_index_or words k []

abbrev pub are_sources : List (List ℕ) → Bool
are_sources words = is_file_name (word words 1) && is_file_name (word words 2) && is_file_name (word words 3)

-- `check META SPEC`
unfoldable pub is_check : List (List ℕ) → Bool
is_check words = (length words == 3) && same_name (word words 0) (codes "check") && is_file_name (word words 1) && is_file_name (word words 2)

-- `draw META SPEC MODEL`
unfoldable pub is_draw : List (List ℕ) → Bool
is_draw words = (length words == 4) && same_name (word words 0) (codes "draw") && are_sources words

-- `serve META SPEC MODEL`
unfoldable pub is_serve : List (List ℕ) → Bool
is_serve words = (length words == 4) && same_name (word words 0) (codes "serve") && are_sources words

-- `serve META SPEC MODEL --connections N`
unfoldable pub is_limited_serve : List (List ℕ) → Bool
is_limited_serve words =
    (length words == 6) && same_name (word words 0) (codes "serve") && are_sources words
    && same_name (word words 4) (codes "--connections") && is_number most_connections (word words 5)

-- `big N`
unfoldable pub is_big : List (List ℕ) → Bool
is_big words = (length words == 2) && same_name (word words 0) (codes "big") && is_number 2000 (word words 1)

-- ---- tasks

abbrev pub sources_in : List (List ℕ) → Sources
sources_in words = record { metamodel = word words 1; viewpoint = word words 2; model = word words 3 }

abbrev pub number_in : List (List ℕ) → ℕ → ℕ
number_in words k = digits_value 10 (word words k)

unfoldable pub task_in : List (List ℕ) → Option Task
task_in words =
    if is_check words then Some (check (word words 1) (word words 2))
    else (if is_draw words then Some (draw (sources_in words))
    else (if is_serve words then Some (serve (sources_in words) most_connections)
    else (if is_limited_serve words then Some (serve (sources_in words) (number_in words 5))
    else (if is_big words then Some (big (number_in words 1))
    else None))))

abbrev pub text_in : List ℕ → Option (List ℕ)
text_in word = if is_utf8 word then Some word else None

-- the words as texts, where all are UTF-8
abbrev pub texts_of : List (List ℕ) → Option (List (List ℕ))
texts_of words = if list_all is_utf8 words then Some words else None

-- what the words ask for, where they are of a form; words of a form are UTF-8
unfoldable pub task_of : List (List ℕ) → Option Task
task_of words = option_and_then task_in (texts_of words)

-- the names of a picture's files, in the order in which they are taken
abbrev pub names_in : Sources → List (List ℕ)
names_in sources = sources.metamodel ∷ sources.viewpoint ∷ sources.model ∷ []

-- the names of the files that a task takes, in the order in which it takes them
abbrev pub files_of : Option Task → List (List ℕ)
files_of None = []
files_of (Some (check metamodel viewpoint)) = metamodel ∷ viewpoint ∷ []
files_of (Some (draw sources)) = names_in sources
files_of (Some (serve sources connections)) = names_in sources
files_of (Some (big number)) = []

-- does a task take connections, and keep rows?
abbrev pub takes_connections : Option Task → Bool
takes_connections None = false
takes_connections (Some (check metamodel viewpoint)) = false
takes_connections (Some (draw sources)) = false
takes_connections (Some (serve sources connections)) = true
takes_connections (Some (big number)) = false
