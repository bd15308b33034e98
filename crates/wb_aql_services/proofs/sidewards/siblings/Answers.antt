use Rattle.std.proofs.Common.{ap, subst, ◌∙◌}
use Rattle.wb_aql_values.specs.Readings.{contents}
use Rattle.wb_aql_values.specs.Runs.{Gives, run}
use Rattle.wb_aql_values.proofs.RunLemmas.{gives_next, returned, stopped}
use Rattle.std.proofs.Common.{None}
use Rattle.std.specs.Prelude.{filter, not, nat_eq}
use Rattle.wb_aql_services.specs.Navigation.{beside, siblings, sequence}
use Rattle.wb_aql_services.proofs.sidewards.siblings.Goals as goal

pub returns-in_err-os : goal.returns-in_err-os
unfolding siblings
returns-in_err-os c =
    returned _ c.from_residual.result c.in_err-os.field-0.0 c.beside.new.reads c.from_residual.ensures.1
    (stopped (λ os. sequence c.args.model.now.metamodel None (filter (λ p. not (nat_eq p c.args.o)) os)) (contents c.args.model.now) (beside c.args.model.now.metamodel c.args.o) c.args.reads.now c.in_err-os.field-0.0 c.beside.new.reads c.in_err-os.ensures)

pub returns : goal.returns
unfolding siblings
returns c =
    gives_next (λ os. sequence c.args.model.now.metamodel None (filter (λ p. not (nat_eq p c.args.o)) os)) (contents c.args.model.now) (beside c.args.model.now.metamodel c.args.o) c.args.reads.now c.in_ok-os.os c.beside.new.reads c.sequence.result c.sequence.new.reads c.in_ok-os.ensures
    (subst (λ os. Gives (run (sequence c.args.model.now.metamodel None os) (contents c.args.model.now) c.beside.new.reads) c.sequence.result c.sequence.new.reads) (c.as_slice-2.ensures ∙ (c.in_ok-others.ensures ∙ ap (λ os. filter (λ p. not (nat_eq p c.args.o)) os) c.as_slice.ensures)) c.sequence.ensures)
