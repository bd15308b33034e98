-- Shelves: what stands under a name, what a call for it answers, and what a shelf tells.
use Rattle.std.specs.Prelude.{◌≡◌, ℕ, ◌≤◌, Bool, true, false, ⊤, List, [], ◌∷◌, ◌++◌, length, find, map, Option, None, Some, IfSome, nat_le, nat_eq, unwrap_or, if◌then◌else◌}
use Rattle.std.specs.Option.{option_map}
use Rattle.std.specs.Cmp.Lexicographic.{pointwise}
use Rattle.wb_outer.specs.Faults.{Rose, fails_now, after_call}
use Rattle.wb_outer.specs.declared.faults.FaultPlan.{FaultPlan}
use Rattle.wb_outer.specs.declared.shelf.Call.{Call}
use Rattle.wb_outer.specs.declared.shelf.Taken.{Taken}
use Rattle.wb_outer.specs.declared.shelf.Taken.TheVariants.{Bytes, TooBig, Failed}

-- a shelf gives at most so many bytes at once
abbrev pub file_limit : ℕ
file_limit = 16777216

-- the answer for what stands under a name: its bytes, or `TooBig` exactly above the limit.
-- The call for a missing name fails
abbrev pub taken_of : Option (List ℕ) → Taken
taken_of None = Failed
taken_of (Some bytes) = if nat_le (length bytes) file_limit then Bytes bytes else TooBig

-- the call failed, or answered as it should
abbrev pub IsUnlessFailed : Taken → Taken → Type 0
IsUnlessFailed Failed due = ⊤
IsUnlessFailed (Bytes bytes) due = due ≡ Bytes bytes
IsUnlessFailed TooBig due = due ≡ TooBig

-- no more bytes are given than the limit
abbrev pub IsWithinLimit : Taken → Type 0
IsWithinLimit (Bytes bytes) = length bytes ≤ file_limit
IsWithinLimit TooBig = ⊤
IsWithinLimit Failed = ⊤

abbrev pub has_failed : Taken → Bool
has_failed (Bytes bytes) = false
has_failed TooBig = false
has_failed Failed = true

-- what a shelf tells: each call that it answered, in order; the bytes of each name that is not missing, where it holds
-- them; and its count of faults
pub record ShelfTold : Type 0 where
  pub given : List Call
  pub files : Option (List ℕ → Option (List ℕ))
  pub faults : ℕ

abbrev pub call : List ℕ → Taken → Call
call name answer = record { name = name; answer = answer }

-- a call for a name was answered
pub record Gives (old new : ShelfTold) (name : List ℕ) (answer : Taken) : Type 0 where
  pub noted : new.given ≡ old.given ++ call name answer ∷ []
  pub files_stay : new.files ≡ old.files
  pub as_held : IfSome old.files (λ files. IsUnlessFailed answer (taken_of (files name)))
  pub within : IsWithinLimit answer
  pub later : old.faults ≤ new.faults
  pub failed : answer ≡ Failed → Rose old.faults new.faults

-- the names that were asked
abbrev pub names_of : List Call → List (List ℕ)
names_of calls = map (λ (c : Call). c.name) calls

-- the first of these files that has the name
abbrev pub file_named : List (List ℕ × List ℕ) → List ℕ → Option (List ℕ)
file_named files name = option_map (λ (file : List ℕ × List ℕ). file.1) (find (λ (file : List ℕ × List ℕ). pointwise nat_eq file.0 name) files)

-- a shelf in memory: its files, the calls that it answered, and which calls fail
pub record MemoryShelfState : Type 0 where
  pub files : List (List ℕ × List ℕ)
  pub given : List Call
  pub plan : FaultPlan

abbrev pub memory_told : MemoryShelfState → ShelfTold
memory_told shelf = record { given = shelf.given; files = Some (file_named shelf.files); faults = shelf.plan.faults }

-- the answer to a call that does not want memory
abbrev pub answer_of : MemoryShelfState → List ℕ → Taken
answer_of shelf name = if fails_now shelf.plan then Failed else taken_of (file_named shelf.files name)

-- the shelf after a call for a name that was answered
abbrev pub after_take : MemoryShelfState → List ℕ → MemoryShelfState
after_take shelf name = record { files = shelf.files; given = shelf.given ++ call name (answer_of shelf name) ∷ []; plan = after_call (has_failed (answer_of shelf name)) shelf.plan }

-- a shelf that never fails: its files, and the calls that it answered
pub record SureShelfState : Type 0 where
  pub files : List (List ℕ × List ℕ)
  pub given : List Call

-- such a shelf holds an empty file under every name that it was not given
abbrev pub sure_file : List (List ℕ × List ℕ) → List ℕ → List ℕ
sure_file files name = unwrap_or (file_named files name) []

abbrev pub sure_files : List (List ℕ × List ℕ) → List ℕ → Option (List ℕ)
sure_files files name = Some (sure_file files name)

abbrev pub sure_told : SureShelfState → ShelfTold
sure_told shelf = record { given = shelf.given; files = Some (sure_files shelf.files); faults = 0 }

abbrev pub sure_answer : SureShelfState → List ℕ → Taken
sure_answer shelf name = taken_of (Some (sure_file shelf.files name))

abbrev pub after_sure_take : SureShelfState → List ℕ → SureShelfState
after_sure_take shelf name = record { files = shelf.files; given = shelf.given ++ call name (sure_answer shelf name) ∷ [] }
