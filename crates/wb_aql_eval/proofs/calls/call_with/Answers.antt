use Rattle.std.proofs.Common.{sym}
use Rattle.wb_aql_values.specs.Readings.{contents}
use Rattle.wb_aql_values.specs.declared.values.Value.TheVariants.{Null}
use Rattle.wb_aql_values.proofs.RunLemmas.{run_done}
use Rattle.wb_aql_eval.proofs.calls.call_with.Goals as goal

pub returns-in-Some-clause-value : goal.returns-in-Some-clause-value
returns-in-Some-clause-value c = rw (c.in-Some.is, sym c.from_ref.ensures.value) c.run_service.ensures.gives

pub returns-in-None-clause-value : goal.returns-in-None-clause-value
returns-in-None-clause-value c = rw c.in-None.is (run_done (contents c.args.model.now) Null c.args.reads.now)
