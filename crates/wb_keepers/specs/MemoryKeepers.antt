-- A keeper in memory: its rows, and which of its calls fail.
use Rattle.std.specs.Prelude.{◌≡◌, true, false, List, Some, if◌then◌else◌}
use Rattle.wb_outer.specs.Faults.{fails_now, after_call}
use Rattle.wb_outer.specs.Keeper.{KeeperTold, changed}
use Rattle.wb_outer.specs.declared.faults.FaultPlan.{FaultPlan}
use Rattle.wb_outer.specs.declared.keeper.Row.{Row}
use Rattle.wb_outer.specs.declared.keeper.RowChange.{RowChange}
use Rattle.wb_outer.specs.declared.keeper.Loaded.{Loaded}
use Rattle.wb_outer.specs.declared.keeper.Loaded.TheVariants.{Rows, Failed as LoadFailed}
use Rattle.wb_outer.specs.declared.keeper.Committed.{Committed}
use Rattle.wb_outer.specs.declared.keeper.Committed.TheVariants.{Done, Failed as CommitFailed, NoMemory}

pub record MemoryKeeperState : Type 0 where
  pub rows : List Row
  pub plan : FaultPlan

abbrev pub memory_told : MemoryKeeperState → KeeperTold
memory_told keeper = record { rows = Some keeper.rows; faults = keeper.plan.faults }

-- the answer to a call for the rows that does not want memory
abbrev pub answer_of : MemoryKeeperState → Loaded
answer_of keeper = if fails_now keeper.plan then LoadFailed else Rows keeper.rows

-- the keeper after a call for the rows that was answered
abbrev pub after_load : MemoryKeeperState → MemoryKeeperState
after_load keeper = record { rows = keeper.rows; plan = after_call (fails_now keeper.plan) keeper.plan }

-- exactly a call that is to fail fails; want of memory is met only by one that is not
abbrev pub IsPlanned : FaultPlan → Committed → Type 0
IsPlanned plan Done = fails_now plan ≡ false
IsPlanned plan CommitFailed = fails_now plan ≡ true
IsPlanned plan NoMemory = fails_now plan ≡ false

-- the rows after a commit that answered so: all changes are made, or none
abbrev pub changed_where : Committed → List RowChange → List Row → List Row
changed_where Done changes rows = changed changes rows
changed_where CommitFailed changes rows = rows
changed_where NoMemory changes rows = rows

-- the calls after a commit that answered so; one that found no memory does not count
abbrev pub plan_after : Committed → FaultPlan → FaultPlan
plan_after Done plan = after_call false plan
plan_after CommitFailed plan = after_call true plan
plan_after NoMemory plan = plan

-- the keeper after a commit that answered so
abbrev pub after_commit : Committed → List RowChange → MemoryKeeperState → MemoryKeeperState
after_commit committed changes keeper = record { rows = changed_where committed changes keeper.rows; plan = plan_after committed keeper.plan }
