use Rattle.std.proofs.Common.{sym, ap, ◌∙◌}
use Rattle.std.specs.Option.{option_copied}
use Rattle.wb_tools.specs.Runs.{work}
use Rattle.wb_tools.proofs.Ready.{ready_fits}
use Rattle.wb_tools.proofs.Asked.{asked_none, asked_some}
use Rattle.wb_tools.proofs.asking.asked_at.Goals as goal

pub evaluate-requires : goal.evaluate-requires
evaluate-requires g c =
    let f = ready_fits c.args.model.now.metamodel c.args.spec.now c.args.tool c.args.place c.args.env.now c.in-Some.e.now (sym c.tool_expression.ensures ∙ ap option_copied c.in-Some.is) c.requires in
    record { binds = f.0; checked = f.1 }

pub returns-in-Some-clause-done : goal.returns-in-Some-clause-done
returns-in-Some-clause-done g c =
    asked_some g.E.Evaluator.outcome_by c.args.spec.now c.args.tool c.args.place c.args.env.now (work c.args.model.now c.args.tally.now) c.in-Some.e.now c.evaluate.result c.args.model.now c.evaluate.new.tally (sym c.tool_expression.ensures ∙ ap option_copied c.in-Some.is) c.evaluate.ensures.done

pub returns-in-None-clause-done : goal.returns-in-None-clause-done
returns-in-None-clause-done g c =
    asked_none g.E.Evaluator.outcome_by c.args.spec.now c.args.tool c.args.place c.args.env.now (work c.args.model.now c.args.tally.now) (sym c.tool_expression.ensures ∙ ap option_copied c.in-None.is)
