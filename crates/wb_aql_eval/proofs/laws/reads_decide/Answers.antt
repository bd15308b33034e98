use Rattle.wb_aql_eval.specs.ReadLaws.{alike_outcomes}
use Rattle.wb_aql_eval.proofs.laws.reads_decide.Goals as goal

pub returns : goal.returns
returns c = alike_outcomes c.args.e.now c.args.env.now c.args.a.now c.args.b.now
