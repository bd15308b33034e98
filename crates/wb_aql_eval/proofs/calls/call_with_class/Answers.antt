use Rattle.std.proofs.Common.{◌≡◌, Ok, sym, ap, subst, ◌∙◌}
use Rattle.wb_metamodel.specs.Metamodel.{class_named}
use Rattle.wb_aql_values.specs.Runs.{run}
use Rattle.wb_aql_eval.specs.Meaning.{serviced_class}
use Rattle.wb_aql_values.specs.Readings.{contents}
use Rattle.wb_aql_values.specs.declared.values.Value.TheVariants.{Null}
use Rattle.wb_aql_values.proofs.RunLemmas.{run_done}
use Rattle.wb_aql_eval.proofs.calls.call_with_class.Goals as goal

pub returns-in-None-clause-value : goal.returns-in-None-clause-value
returns-in-None-clause-value c =
    subst (λ k. run (serviced_class c.args.model.now.metamodel c.args.service c.args.receiver.now k) (contents c.args.model.now) c.args.reads.now ≡ record { gave = Ok Null; reads = c.args.reads.now })
    (sym (ap (λ mm. class_named mm c.args.class.now) (sym c.metamodel.ensures) ∙ (sym c.known_class.ensures.value ∙ c.in-None.is))) (run_done (contents c.args.model.now) Null c.args.reads.now)
