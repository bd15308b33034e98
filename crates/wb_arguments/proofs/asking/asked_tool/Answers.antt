use Rattle.wb_arguments.proofs.Tools.{binds_asked}
use Rattle.wb_arguments.proofs.asking.asked_tool.Goals as goal

pub returns-clause-binds : goal.returns-clause-binds
returns-clause-binds c mm = binds_asked mm c.args.spec.now c.in-Some.tool c.kind_of-kind.result c.in_ok-env.env c.kind_of-kind.ensures (c.in_ok-env.ensures.are_of mm)
