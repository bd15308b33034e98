use Rattle.wb_aql_eval.specs.Outcomes.{outcome_of}
use Rattle.wb_aql_eval.specs.ReadLaws.{found_reads_once}
use Rattle.wb_aql_eval.proofs.evaluation.eval.Goals as goal

pub returns-in-Ok-clause-outcome : goal.returns-in-Ok-clause-outcome
unfolding outcome_of
returns-in-Ok-clause-outcome g c = rw c.new-reads.ensures at c.in-Ok.ensures.value

pub returns-in-Err-Fault-clause-outcome : goal.returns-in-Err-Fault-clause-outcome
unfolding outcome_of
returns-in-Err-Fault-clause-outcome g c = rw c.new-reads.ensures at (rw c.in-Err-Fault.field-0-is at c.in-Err-Fault.ensures.value)

pub returns-in-Ok-clause-distinct : goal.returns-in-Ok-clause-distinct
returns-in-Ok-clause-distinct g c = found_reads_once c.args.e.now c.args.env.now c.args.model.now _ c.eval_checked.new.reads (returns-in-Ok-clause-outcome g c)

pub returns-in-Err-Fault-clause-distinct : goal.returns-in-Err-Fault-clause-distinct
returns-in-Err-Fault-clause-distinct g c = found_reads_once c.args.e.now c.args.env.now c.args.model.now _ c.eval_checked.new.reads (returns-in-Err-Fault-clause-outcome g c)
