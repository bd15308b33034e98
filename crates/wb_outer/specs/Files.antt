-- Files of the system: what they told, and the answer that is due by it.
use Rattle.std.specs.Prelude.{◌≡◌, ℕ, ◌+◌, ◌-◌, ◌^◌, ◌<◌, ◌≤◌, ◌⊎◌, Bool, true, false, List, [], ◌∷◌, ◌++◌, length, take, not, Option, None, IsUtf8}
use Rattle.std.specs.Io.KnownBytes.{Consumes, Keeps, IsAtEnd}
use Rattle.wb_outer.specs.Shelf.{ShelfTold, file_limit}
use Rattle.wb_outer.specs.declared.shelf.Call.{Call}
use Rattle.wb_outer.specs.declared.shelf.Taken.{Taken}
use Rattle.wb_outer.specs.declared.shelf.Taken.TheVariants.{Bytes, TooBig, Failed}
use Rattle.wb_outer.specs.declared.files.FilesTold.{FilesTold}
use Rattle.wb_outer.specs.declared.files.Part.{Part}
use Rattle.wb_outer.specs.declared.files.Part.TheVariants.{Bytes as PartBytes, End, Interrupted, Failed as PartFailed}

-- no file was opened yet
abbrev pub no_file_told : FilesTold
no_file_told = record { opened = []; given = []; reads = 0; has_ended = false; has_failed = false }

-- the file of a path was to be opened, and was or not
abbrev pub after_open : List ℕ → Bool → FilesTold → FilesTold
after_open path is_open told = record { opened = told.opened ++ path ∷ []; given = []; reads = 0; has_ended = false; has_failed = not is_open }

-- a read of the file opened last answered so
abbrev pub after_part : Part → List ℕ → FilesTold → FilesTold
after_part (PartBytes n) room told = record { opened = told.opened; given = told.given ++ take n room; reads = told.reads + 1; has_ended = told.has_ended; has_failed = told.has_failed }
after_part End room told = record { opened = told.opened; given = told.given; reads = told.reads + 1; has_ended = true; has_failed = told.has_failed }
after_part Interrupted room told = record { opened = told.opened; given = told.given; reads = told.reads + 1; has_ended = told.has_ended; has_failed = told.has_failed }
after_part PartFailed room told = record { opened = told.opened; given = told.given; reads = told.reads + 1; has_ended = told.has_ended; has_failed = true }

-- at least one byte was read, and no more than there was room for
abbrev pub FitsPart : Part → List ℕ → Type 0
FitsPart (PartBytes n) room = (0 < n) × (n ≤ length room)
FitsPart End room = Unit {0}
FitsPart Interrupted room = Unit {0}
FitsPart PartFailed room = Unit {0}

-- a read of a reader whose bytes are known: the next ones, and `End` at their end alone
abbrev pub PartOf : Option (List ℕ) → Option (List ℕ) → List ℕ → Part → Type 0
PartOf old new room (PartBytes n) = Consumes old new (take n room)
PartOf old new room End = IsAtEnd new
PartOf old new room Interrupted = Keeps old new
PartOf old new room PartFailed = Keeps old new

-- so many reads are made at most
abbrev pub rounds : ℕ
rounds = 2 ^ 64 - 1

-- the answer that is due for an open file, by all that it told: the bytes that it gave up to its end; `TooBig` where it
-- gave more than the limit; `Failed` only where a read failed otherwise than by an interruption, or none was left to make
abbrev pub IsDue : FilesTold → Taken → Type 0
IsDue told (Bytes bytes) = (told.given ≡ bytes) × (told.has_ended ≡ true) × (told.has_failed ≡ false) × (length bytes ≤ file_limit)
IsDue told TooBig = (file_limit < length told.given) × (told.has_failed ≡ false)
IsDue told Failed = (told.has_failed ≡ true) ⊎ (rounds ≤ told.reads)

-- the answer for a name: its file alone was opened, and the answer is due; or the name is no text, and none was
abbrev pub IsReadOf : List ℕ → FilesTold → FilesTold → Taken → Type 0
IsReadOf name old new taken = ((new.opened ≡ old.opened ++ name ∷ []) × IsDue new taken) ⊎ (¬ (IsUtf8 name) × (taken ≡ Failed) × (new ≡ old))

-- a shelf over files: the files, the calls that it answered, and its count of faults
pub record FileShelfState (F : Type 0) : Type 0 where
  pub files : F
  pub given : List Call
  pub faults : ℕ

abbrev pub files_told : {F : Type 0} → FileShelfState F → ShelfTold
files_told shelf = record { given = shelf.given; files = None; faults = shelf.faults }

-- a file was opened, and nothing of it was read
pub record IsJustOpened (told : FilesTold) : Type 0 where
  pub given : told.given ≡ []
  pub reads : told.reads ≡ 0
  pub has_failed : told.has_failed ≡ false
