-- Counts of faults. Each object of the outside has one, a number of 64 bits that never falls.
use Rattle.std.specs.Prelude.{ℕ, ◌+◌, ◌-◌, ◌^◌, ◌≤◌, ◌==◌, min, Bool, List, if◌then◌else◌}
use Rattle.std.specs.List.{list_any}
use Rattle.wb_outer.specs.declared.faults.FaultPlan.{FaultPlan}

-- the count rose in a call, or stands at the last value of its type
abbrev pub Rose : ℕ → ℕ → Type 0
Rose before now = min (before + 1) (2 ^ 64 - 1) ≤ now

-- one more, up to the last value of the type
abbrev pub raised : ℕ → ℕ
raised count = min (count + 1) (2 ^ 64 - 1)

-- the count after a call that failed or not
abbrev pub counted : Bool → ℕ → ℕ
counted has_failed count = if has_failed then raised count else count

-- no call was made yet, and these will fail, counted from 0
abbrev pub plan_of : List ℕ → FaultPlan
plan_of failing = record { failing = failing; calls = 0; faults = 0 }

-- is the call at hand one of those that fail?
abbrev pub fails_now : FaultPlan → Bool
fails_now plan = list_any (λ call. call == plan.calls) plan.failing

-- a call was made, and failed or not
abbrev pub after_call : Bool → FaultPlan → FaultPlan
after_call has_failed plan = record { failing = plan.failing; calls = raised plan.calls; faults = counted has_failed plan.faults }
