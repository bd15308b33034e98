use Rattle.wb_aql_eval.specs.ReadLaws.{outcomes_read_once}
use Rattle.wb_aql_eval.proofs.laws.reads_are_without_repeats.Goals as goal

pub returns : goal.returns
returns c = outcomes_read_once
