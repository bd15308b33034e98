-- Kept rows, and what changes do to them.
use Rattle.std.specs.Prelude.{◌≡◌, ℕ, Bool, false, ⊤, List, [], ◌∷◌, Option, Some, IfSome, ◌≤◌, nat_eq, filter, not, if◌then◌else◌}
use Rattle.std.specs.Ordering.{nat_cmp, is_lt}
use Rattle.std.specs.Option.{option_map}
use Rattle.std.specs.Cmp.Lexicographic.{pointwise, slice_cmp}
use Rattle.wb_outer.specs.Faults.{Rose}
use Rattle.wb_outer.specs.declared.keeper.Row.{Row}
use Rattle.wb_outer.specs.declared.keeper.RowChange.{RowChange}
use Rattle.wb_outer.specs.declared.keeper.RowChange.TheVariants.{Put, Erase}
use Rattle.wb_outer.specs.declared.keeper.Loaded.{Loaded}
use Rattle.wb_outer.specs.declared.keeper.Loaded.TheVariants.{Rows, Failed as LoadFailed}
use Rattle.wb_outer.specs.declared.keeper.Committed.{Committed}
use Rattle.wb_outer.specs.declared.keeper.Committed.TheVariants.{Done, Failed as CommitFailed, NoMemory}

abbrev pub is_below : List ℕ → List ℕ → Bool
is_below key other = is_lt (slice_cmp nat_cmp key other)

-- no row has a key below this one
abbrev pub NoneBelow : List ℕ → List Row → Type 0
NoneBelow key [] = ⊤
NoneBelow key (row ∷ rows) = (is_below row.key key ≡ false) × NoneBelow key rows

-- the rows ascend by key: no row has a key below that of a row before it
abbrev pub IsAscending : List Row → Type 0
IsAscending [] = ⊤
IsAscending (row ∷ rows) = NoneBelow row.key rows × IsAscending rows

-- the rows without those of a key
abbrev pub erased : List ℕ → List Row → List Row
erased key rows = filter (λ (row : Row). not (pointwise nat_eq row.key key)) rows

-- the rows with one more: it goes before the first row with a greater key, else last
abbrev pub inserted : Row → List Row → List Row
inserted row [] = row ∷ []
inserted row (other ∷ rows) = if is_below row.key other.key then row ∷ other ∷ rows else other ∷ inserted row rows

-- the rows without those of the row's key, and with the row
abbrev pub put : Row → List Row → List Row
put row rows = inserted row (erased row.key rows)

abbrev pub changed_by : RowChange → List Row → List Row
changed_by (Put row) rows = put row rows
changed_by (Erase key) rows = erased key rows

-- all changes in their order
abbrev pub changed : List RowChange → List Row → List Row
changed [] rows = rows
changed (change ∷ changes) rows = changed changes (changed_by change rows)

-- what a keeper tells: the rows, where it tells them, and its count of faults
pub record KeeperTold : Type 0 where
  pub rows : Option (List Row)
  pub faults : ℕ

-- the call failed, or gave these rows
abbrev pub AreLoaded : Loaded → List Row → Type 0
AreLoaded (Rows given) rows = given ≡ rows
AreLoaded LoadFailed rows = Unit {0}

-- a call for the rows was answered: they are given ascending, and stay
pub record Loads (old new : KeeperTold) (loaded : Loaded) : Type 0 where
  pub rows_stay : new.rows ≡ old.rows
  pub as_kept : IfSome old.rows (λ rows. AreLoaded loaded rows)
  pub ascending : IfSome old.rows IsAscending
  pub later : old.faults ≤ new.faults
  pub failed : loaded ≡ LoadFailed → Rose old.faults new.faults

-- all changes are made at once, or none
abbrev pub MadeAtOnce : Option (List Row) → Option (List Row) → List RowChange → Committed → Type 0
MadeAtOnce old new changes Done = new ≡ option_map (changed changes) old
MadeAtOnce old new changes CommitFailed = new ≡ old
MadeAtOnce old new changes NoMemory = new ≡ old

-- a commit was answered
pub record Commits (old new : KeeperTold) (changes : List RowChange) (committed : Committed) : Type 0 where
  pub rows : MadeAtOnce old.rows new.rows changes committed
  pub later : old.faults ≤ new.faults
  pub failed : committed ≡ CommitFailed → Rose old.faults new.faults
  pub memory : committed ≡ NoMemory → new.faults ≡ old.faults

-- a keeper in memory whose calls do not fail
abbrev pub sure_told : List Row → KeeperTold
sure_told rows = record { rows = Some rows; faults = 0 }
