use Rattle.std.proofs.Common.{sym, subst}
use Rattle.wb_serving.specs.Responses.{Responds}
use Rattle.wb_serving.proofs.Replying.{without}
use Rattle.wb_serving.proofs.turn.respond.Goals as goal

pub returns-in-Err-clause-responds : goal.returns-in-Err-clause-responds
returns-in-Err-clause-responds g c =
    let told = g.M.Machine.told c.args.machine.now in
    subst (λ heard. Responds g.M.Machine.law heard told told c.args.is_last c.respond_without.result) (sym c.in-Err.is) (without g.M.Machine.law told c.args.is_last c.in-Err.end c.respond_without.result c.respond_without.ensures)
