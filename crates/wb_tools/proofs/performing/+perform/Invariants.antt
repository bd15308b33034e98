-- The operations inside an operation are fewer.
use Rattle.std.proofs.Common.{◌≡◌, ◌+◌, ◌*◌, drop}
use Rattle.wb_viewpoint.specs.OperationTrees.{count_all}
use Rattle.wb_viewpoint.specs.View.{trees_of}
use Rattle.wb_tools.specs.Doings.{each}
use Rattle.wb_tools.specs.Operations.{turn}
use Rattle.wb_tools.specs.Runs.{run, work}
use Rattle.wb_tools.specs.Tools.{perform}
use Rattle.wb_tools.proofs.performing.+perform.Given as goal

abbrev pub decreases-perform : goal.decreases-perform
decreases-perform g l = 8 * count_all (trees_of l.operations.now) + 3

abbrev pub decreases-act : goal.decreases-act
decreases-act g l = 8 * count_all (trees_of l.inside.now) + 8

abbrev pub decreases-change_context : goal.decreases-change_context
decreases-change_context g l = 8 * count_all (trees_of l.inside.now) + 4

abbrev pub decreases-create_instance : goal.decreases-create_instance
decreases-create_instance g l = 8 * count_all (trees_of l.inside.now) + 6

abbrev pub decreases-create : goal.decreases-create
decreases-create g l = 8 * count_all (trees_of l.inside.now) + 5

abbrev pub decreases-run_for : goal.decreases-run_for
decreases-run_for g l = 8 * count_all (trees_of l.inside.now) + 6

abbrev pub decreases-run_turns : goal.decreases-run_turns
decreases-run_turns g l = 8 * count_all (trees_of l.inside.now) + 5

abbrev pub decreases-run_turn : goal.decreases-run_turn
decreases-run_turn g l = 8 * count_all (trees_of l.inside.now) + 4

abbrev pub decreases-run_if : goal.decreases-run_if
decreases-run_if g l = 8 * count_all (trees_of l.inside.now) + 4

-- what is left, done on the work so far, ends as all of it does
abbrev pub invariant-run_turns-loop-item : goal.invariant-run_turns-loop-item
invariant-run_turns-loop-item g l = record {
  same : run g.E.Evaluator.outcome_by (each (turn l.variable (perform l.spec l.tool (l.place + 1) (trees_of l.inside)) l.env l.context) (drop l.item-index l.items)) (work l.model l.tally)
      ≡ run g.E.Evaluator.outcome_by (each (turn l.variable (perform l.spec l.tool (l.place + 1) (trees_of l.inside)) l.env l.context) l.items) (work l.fn.model l.fn.tally);
  counted : g.E.Evaluator.count l.steps + l.fn.tally.expressions ≡ g.E.Evaluator.count l.fn.steps + l.tally.expressions;
  metamodel : l.model.metamodel ≡ l.fn.model.metamodel;
}
