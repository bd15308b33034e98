-- The bytes held grew by those that the door gave.
use Rattle.std.proofs.Common.{◌-◌, None, length}
use Rattle.wb_http.specs.Fronts.{Fills}
use Rattle.wb_http.proofs.requests.read_up_to.Given as goal

abbrev pub invariant-reads : goal.invariant-reads
invariant-reads g l = Fills l.initial.held l.held (g.D.Door.told l.initial.door) (g.D.Door.told l.door) None

abbrev pub decreases-reads : goal.decreases-reads
decreases-reads g l = l.total - length l.held
