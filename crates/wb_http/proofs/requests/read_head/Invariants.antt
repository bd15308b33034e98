-- The bytes held grew by those that the door gave, and were looked through.
use Rattle.std.proofs.Common.{◌-◌, None, length}
use Rattle.wb_http.specs.Requests.{head_limit}
use Rattle.wb_http.specs.Fronts.{Fills, IsSeen}
use Rattle.wb_http.proofs.requests.read_head.Given as goal

abbrev pub invariant-reads : goal.invariant-reads
invariant-reads g l = record {
  fills : Fills l.initial.held l.held (g.D.Door.told l.initial.door) (g.D.Door.told l.door) None;
  seen : IsSeen l.progress l.held;
}

abbrev pub decreases-reads : goal.decreases-reads
decreases-reads g l = head_limit - length l.held
