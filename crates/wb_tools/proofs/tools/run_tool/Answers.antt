use Rattle.std.proofs.Common.{◌≡◌, subst}
use Rattle.wb_store.specs.Contents.{Contents}
use Rattle.wb_tools.specs.Runs.{IsStop, named, run, went, work}
use Rattle.wb_tools.specs.Tools.{tool_of}
use Rattle.wb_tools.proofs.Whole.{tool_counted, tool_edited, tool_few, tool_next, tool_ran, tool_refused, tool_refused_counted}
use Rattle.wb_tools.proofs.tools.run_tool.Goals as goal

pub returns-in-Err-clause-ran : goal.returns-in-Err-clause-ran
returns-in-Err-clause-ran g c =
    tool_refused g.E.Evaluator.outcome_by c.args.spec.now c.args.tool c.args.env.now c.args.context c.args.model.now c.in-Err.refusal c.plain.result c.run_all.new.tally c.plain.ensures.same
    (subst (λ (m : Contents). IsStop (named c.in-Err.refusal) (run g.E.Evaluator.outcome_by (tool_of c.args.spec.now c.args.tool c.args.env.now c.args.context) (work m (record { edits = 0; expressions = 0 }))) c.run_all.new.tally) c.in_ok-work.ensures c.in-Err.ensures.done)

pub returns-in-Err-clause-counted : goal.returns-in-Err-clause-counted
returns-in-Err-clause-counted g c =
    tool_refused_counted g.E.Evaluator.outcome_by c.args.spec.now c.args.tool c.args.env.now c.args.context c.args.model.now c.in-Err.refusal c.plain.result c.run_all.new.tally (g.E.Evaluator.count c.args.steps.now) (g.E.Evaluator.count c.run_all.new.steps) c.plain.ensures.same c.in-Err.ensures.counted
    (subst (λ (m : Contents). IsStop (named c.in-Err.refusal) (run g.E.Evaluator.outcome_by (tool_of c.args.spec.now c.args.tool c.args.env.now c.args.context) (work m (record { edits = 0; expressions = 0 }))) c.run_all.new.tally) c.in_ok-work.ensures c.in-Err.ensures.done)

pub returns-in-Ok-clause-ran : goal.returns-in-Ok-clause-ran
returns-in-Ok-clause-ran g c =
    tool_ran g.E.Evaluator.outcome_by c.args.spec.now c.args.tool c.args.env.now c.args.context c.args.model.now c.run_all.new.model c.run_all.new.tally
    (subst (λ (m : Contents). run g.E.Evaluator.outcome_by (tool_of c.args.spec.now c.args.tool c.args.env.now c.args.context) (work m (record { edits = 0; expressions = 0 })) ≡ went (tt {0}) (work c.run_all.new.model c.run_all.new.tally)) c.in_ok-work.ensures c.in-Ok.ensures.done)

pub returns-in-Ok-clause-counted : goal.returns-in-Ok-clause-counted
returns-in-Ok-clause-counted g c =
    tool_counted g.E.Evaluator.outcome_by c.args.spec.now c.args.tool c.args.env.now c.args.context c.args.model.now c.run_all.new.model c.run_all.new.tally (g.E.Evaluator.count c.args.steps.now) (g.E.Evaluator.count c.run_all.new.steps) c.in-Ok.ensures.counted
    (subst (λ (m : Contents). run g.E.Evaluator.outcome_by (tool_of c.args.spec.now c.args.tool c.args.env.now c.args.context) (work m (record { edits = 0; expressions = 0 })) ≡ went (tt {0}) (work c.run_all.new.model c.run_all.new.tally)) c.in_ok-work.ensures c.in-Ok.ensures.done)

pub returns-in-Ok-clause-few : goal.returns-in-Ok-clause-few
returns-in-Ok-clause-few g c =
    tool_few g.E.Evaluator.outcome_by c.args.spec.now c.args.tool c.args.env.now c.args.context c.args.model.now c.run_all.new.model c.run_all.new.tally
    (subst (λ (m : Contents). run g.E.Evaluator.outcome_by (tool_of c.args.spec.now c.args.tool c.args.env.now c.args.context) (work m (record { edits = 0; expressions = 0 })) ≡ went (tt {0}) (work c.run_all.new.model c.run_all.new.tally)) c.in_ok-work.ensures c.in-Ok.ensures.done)

pub returns-in-Ok-clause-edited : goal.returns-in-Ok-clause-edited
returns-in-Ok-clause-edited g c =
    tool_edited g.E.Evaluator.outcome_by c.args.spec.now c.args.tool c.args.env.now c.args.context c.args.model.now c.run_all.new.model c.run_all.new.tally
    (subst (λ (m : Contents). run g.E.Evaluator.outcome_by (tool_of c.args.spec.now c.args.tool c.args.env.now c.args.context) (work m (record { edits = 0; expressions = 0 })) ≡ went (tt {0}) (work c.run_all.new.model c.run_all.new.tally)) c.in_ok-work.ensures c.in-Ok.ensures.done)

pub returns-in-Ok-clause-next : goal.returns-in-Ok-clause-next
returns-in-Ok-clause-next g c =
    tool_next g.E.Evaluator.outcome_by c.args.spec.now c.args.tool c.args.env.now c.args.context c.args.model.now c.run_all.new.model c.run_all.new.tally
    (subst (λ (m : Contents). run g.E.Evaluator.outcome_by (tool_of c.args.spec.now c.args.tool c.args.env.now c.args.context) (work m (record { edits = 0; expressions = 0 })) ≡ went (tt {0}) (work c.run_all.new.model c.run_all.new.tally)) c.in_ok-work.ensures c.in-Ok.ensures.done)
