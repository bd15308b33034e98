use Rattle.wb_serving.proofs.Replying.{made_at}
use Rattle.wb_serving.proofs.answering.ask.Goals as goal

pub returns-in-Made-clause-replies : goal.returns-in-Made-clause-replies
returns-in-Made-clause-replies g c =
    made_at g.M.Machine.law (g.M.Machine.told c.args.machine.now) (g.M.Machine.told c.answer.new.self) c.args.body.now _ c.args.closes c.args.route.now c.requires c.in-Made.ensures.answered.0 c.in-Made.ensures.answered.1
