-- A keeper that tells no rows: its count of faults alone.
use Rattle.std.specs.Prelude.{ℕ, Bool, true, false, None}
use Rattle.wb_outer.specs.Keeper.{KeeperTold}
use Rattle.wb_outer.specs.declared.keeper.Loaded.{Loaded}
use Rattle.wb_outer.specs.declared.keeper.Loaded.TheVariants.{Rows, Failed as LoadFailed}
use Rattle.wb_outer.specs.declared.keeper.Committed.{Committed}
use Rattle.wb_outer.specs.declared.keeper.Committed.TheVariants.{Done, Failed as CommitFailed, NoMemory}

abbrev pub untold : ℕ → KeeperTold
untold faults = record { rows = None; faults = faults }

abbrev pub load_failed : Loaded → Bool
load_failed (Rows rows) = false
load_failed LoadFailed = true

abbrev pub commit_failed : Committed → Bool
commit_failed Done = false
commit_failed CommitFailed = true
commit_failed NoMemory = false
