use Rattle.std.proofs.Common.{arith, ◌≡◌, subst, sym, ap}
use Rattle.wb_aql_eval.specs.declared.env.Env.{Env}
use Rattle.wb_viewpoint.specs.OperationTrees.{Trees, count_all}
use Rattle.wb_viewpoint.specs.View.{trees_of}
use Rattle.wb_tools.specs.Doings.{after}
use Rattle.wb_tools.specs.Readiness.{AreReady}
use Rattle.wb_tools.specs.Runs.{run, work, Went}
use Rattle.wb_tools.specs.Tools.{operations_of, perform, permission, tool_of}
use Rattle.wb_tools.proofs.Checked.{ready_operations, ready_precondition}
use Rattle.wb_tools.proofs.RunLemmas.{no_memory, stopped_first, went_next}
use Rattle.wb_tools.proofs.tools.run_all.Goals as goal

pub returns-in_err-nearer-clause-done : goal.returns-in_err-nearer-clause-done
returns-in_err-nearer-clause-done g c =
    let k = c.from_residual in
    no_memory g.E.Evaluator.outcome_by (tool_of c.args.spec.now c.args.tool c.args.env.now c.args.context) (work c.args.model.now c.args.tally.now) k.result c.args.model.now k.ensures.1

pub permission-requires : goal.permission-requires
permission-requires g c = ready_precondition c.args.model.now.metamodel c.args.spec.now c.args.tool c.requires.checked c.requires.tool c.args.env.now c.args.context c.in_ok-nearer.nearer c.in_ok-nearer.ensures c.requires.binds

pub returns-in_err-permission-clause-done : goal.returns-in_err-permission-clause-done
unfolding tool_of
returns-in_err-permission-clause-done g c =
    let k = c.from_residual-in_err-permission in
    subst (λ (env : Env). Went (run g.E.Evaluator.outcome_by (after (permission c.args.spec.now c.args.tool env) (λ _. perform c.args.spec.now c.args.tool 1 (operations_of c.args.spec.now c.args.tool) env c.args.context)) (work c.args.model.now c.args.tally.now)) k.result c.args.model.now c.permission.new.tally) c.in_ok-nearer.ensures
    (stopped_first g.E.Evaluator.outcome_by (permission c.args.spec.now c.args.tool c.in_ok-nearer.nearer) (λ _. perform c.args.spec.now c.args.tool 1 (operations_of c.args.spec.now c.args.tool) c.in_ok-nearer.nearer c.args.context) (work c.args.model.now c.args.tally.now) k.result c.in_err-permission.field-0.0 c.args.model.now c.permission.new.tally k.ensures.1 c.in_err-permission.ensures.done)

pub perform-requires-clause-ready : goal.perform-requires-clause-ready
perform-requires-clause-ready g c =
    subst (λ (xs : Trees). AreReady c.args.model.now.metamodel c.args.spec.now c.args.tool 1 xs c.in_ok-nearer.nearer) (sym c.operations_of-operations.ensures.same) (ready_operations c.args.model.now.metamodel c.args.spec.now c.args.tool c.requires.checked c.requires.tool c.args.env.now c.args.context c.in_ok-nearer.nearer c.in_ok-nearer.ensures c.requires.binds)

pub perform-requires-clause-fits : goal.perform-requires-clause-fits
perform-requires-clause-fits g c =
    (let few = c.operations_of-operations.ensures.few in let same : count_all (trees_of c.operations_of-operations.result.now) ≡ count_all (operations_of c.args.spec.now c.args.tool) = ap count_all c.operations_of-operations.ensures.same in omega (arith, few, same))

pub returns-clause-done : goal.returns-clause-done
unfolding tool_of
returns-clause-done g c =
    subst (λ (env : Env). Went (run g.E.Evaluator.outcome_by (after (permission c.args.spec.now c.args.tool env) (λ _. perform c.args.spec.now c.args.tool 1 (operations_of c.args.spec.now c.args.tool) env c.args.context)) (work c.args.model.now c.args.tally.now)) c.perform.result c.perform.new.model c.perform.new.tally) c.in_ok-nearer.ensures
    (went_next g.E.Evaluator.outcome_by (λ _. perform c.args.spec.now c.args.tool 1 (operations_of c.args.spec.now c.args.tool) c.in_ok-nearer.nearer c.args.context) (permission c.args.spec.now c.args.tool c.in_ok-nearer.nearer) (work c.args.model.now c.args.tally.now) (tt {0}) (work c.args.model.now c.permission.new.tally) c.perform.result c.perform.new.model c.perform.new.tally c.in_ok-permission.ensures.done
    (subst (λ (xs : Trees). Went (run g.E.Evaluator.outcome_by (perform c.args.spec.now c.args.tool 1 xs c.in_ok-nearer.nearer c.args.context) (work c.args.model.now c.permission.new.tally)) c.perform.result c.perform.new.model c.perform.new.tally) c.operations_of-operations.ensures.same c.perform.ensures.done))
