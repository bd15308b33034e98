-- The connections so far were served, and none stopped the program.
use Rattle.wb_serving.specs.Runs.{IsServing}
use Rattle.wb_serving.proofs.serving.serve_with.Given as goal

abbrev pub invariant-connections : goal.invariant-connections
invariant-connections g l = IsServing g.M.Machine.law (g.M.Machine.told l.initial.machine) (g.M.Machine.told l.machine) (g.D.Door.told l.initial.door) (g.D.Door.told l.door) l._count
