use Rattle.std.proofs.Common.{Option, subst, sym, ap, ◌∙◌}
use Rattle.std.specs.Option.{option_copied}
use Rattle.wb_spec_check.specs.Units.{Expression}
use Rattle.wb_tools.specs.Runs.{run, work, Went}
use Rattle.wb_tools.specs.Tools.{permission, permission_of}
use Rattle.wb_tools.proofs.Ready.{ready_fits}
use Rattle.wb_tools.proofs.RunLemmas.{run_done}
use Rattle.wb_tools.proofs.tools.permission.Goals as goal

pub permission_of-requires : goal.permission_of-requires
permission_of-requires g c =
    let f = ready_fits c.args.model.now.metamodel c.args.spec.now c.args.tool 0 c.args.env.now c.in-Some.e.now (sym c.tool_expression.ensures ∙ ap option_copied c.in-Some.is) c.requires in
    record { binds = f.0; checked = f.1 }

pub returns-in-Some-clause-done : goal.returns-in-Some-clause-done
unfolding permission
returns-in-Some-clause-done g c =
    subst (λ (found : Option Expression). Went (run g.E.Evaluator.outcome_by (permission_of found c.args.env.now) (work c.args.model.now c.args.tally.now)) c.permission_of.result c.args.model.now c.permission_of.new.tally) (sym (sym c.tool_expression.ensures ∙ ap option_copied c.in-Some.is)) c.permission_of.ensures.done

pub returns-in-None-clause-done : goal.returns-in-None-clause-done
unfolding permission
returns-in-None-clause-done g c =
    ap (λ (found : Option Expression). run g.E.Evaluator.outcome_by (permission_of found c.args.env.now) (work c.args.model.now c.args.tally.now)) (sym c.tool_expression.ensures ∙ ap option_copied c.in-None.is) ∙ run_done g.E.Evaluator.outcome_by (tt {0}) (work c.args.model.now c.args.tally.now)
