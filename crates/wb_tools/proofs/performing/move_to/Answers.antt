use Rattle.wb_tools.specs.Doings.{look}
use Rattle.wb_tools.specs.FeatureEdits.{edit_by, moving}
use Rattle.wb_tools.specs.Operations.{context_at, move}
use Rattle.wb_tools.specs.Runs.{work}
use Rattle.wb_tools.proofs.RunLemmas.{stopped_first, went_next}
use Rattle.wb_tools.proofs.Sequences.{moved_is}
use Rattle.wb_tools.proofs.performing.move_to.Goals as goal

pub returns-in_err-container-clause-done : goal.returns-in_err-container-clause-done
unfolding move
returns-in_err-container-clause-done g c =
    stopped_first g.E.Evaluator.outcome_by (context_at c.args.spec.now c.args.tool c.args.place c.args.env.now) (λ p. look (λ m. edit_by c.args.place (moving m c.args.context p c.args.reference.now))) (work c.args.model.now c.args.tally.now) c.from_residual.result c.in_err-container.field-0.0 c.args.model.now c.context_at.new.tally c.from_residual.ensures.1 c.in_err-container.ensures.done

pub returns-clause-done : goal.returns-clause-done
unfolding move
returns-clause-done g c =
    went_next g.E.Evaluator.outcome_by (λ p. look (λ m. edit_by c.args.place (moving m c.args.context p c.args.reference.now))) (context_at c.args.spec.now c.args.tool c.args.place c.args.env.now) (work c.args.model.now c.args.tally.now) c.in_ok-container.container (work c.args.model.now c.context_at.new.tally) c.edit_by.result c.edit_by.new.model c.edit_by.new.tally c.in_ok-container.ensures.done
    (moved_is g.E.Evaluator.outcome_by c.args.place c.args.context c.in_ok-container.container c.args.reference.now (work c.args.model.now c.context_at.new.tally) c.moving-change.result c.moving-change.ensures.is c.edit_by.result c.edit_by.new.model c.edit_by.new.tally (c.edit_by.ensures.done g.E.Evaluator.outcome_by))
