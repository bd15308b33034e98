use Rattle.std.proofs.Common.{Option, subst, sym, ap, ◌∙◌}
use Rattle.std.specs.Option.{option_copied}
use Rattle.wb_spec_check.specs.Units.{Expression}
use Rattle.wb_tools.specs.Operations.{unset, unsetting}
use Rattle.wb_tools.specs.Runs.{run, work, Went}
use Rattle.wb_tools.proofs.Ready.{ready_fits}
use Rattle.wb_tools.proofs.performing.unset.Goals as goal

pub take_values-requires : goal.take_values-requires
take_values-requires g c =
    let f = ready_fits c.args.model.now.metamodel c.args.spec.now c.args.tool c.args.place c.args.env.now c.in-Some.e.now (sym c.tool_expression.ensures ∙ ap option_copied c.in-Some.is) c.requires in
    record { binds = f.0; checked = f.1 }

pub returns-in-Some-clause-done : goal.returns-in-Some-clause-done
unfolding unset
returns-in-Some-clause-done g c =
    subst (λ (found : Option Expression). Went (run g.E.Evaluator.outcome_by (unsetting c.args.place found c.args.feature.now c.args.env.now c.args.context) (work c.args.model.now c.args.tally.now)) c.take_values.result c.take_values.new.model c.take_values.new.tally) (sym (sym c.tool_expression.ensures ∙ ap option_copied c.in-Some.is)) c.take_values.ensures.done

pub returns-in-None-clause-done : goal.returns-in-None-clause-done
unfolding unset
returns-in-None-clause-done g c =
    subst (λ (found : Option Expression). Went (run g.E.Evaluator.outcome_by (unsetting c.args.place found c.args.feature.now c.args.env.now c.args.context) (work c.args.model.now c.args.tally.now)) c.unset_all.result c.unset_all.new.model c.unset_all.new.tally) (sym (sym c.tool_expression.ensures ∙ ap option_copied c.in-None.is)) (c.unset_all.ensures.done g.E.Evaluator.outcome_by)
