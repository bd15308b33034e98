use Rattle.std.proofs.Common.{rules, arith, ◌≡◌, ◌<◌, ◌+◌, ◌-◌, ℕ, take, Bool, true, false, List, ◌∷◌, drop, Option, Ok, Err, sym, ap, subst, ◌∙◌, if◌then◌else◌}
use Rattle.std.proofs.lemmas.List.{drop_more, drop_all}
use Rattle.std.specs.List.{list_all}
use Rattle.std.specs.Prelude.{length}
use Rattle.wb_metamodel.specs.Metamodel.{Metamodel}
use Rattle.wb_store.specs.declared.scalars.Scalar.{Scalar}
use Rattle.wb_aql_values.specs.Bounds.{is_bounded}
use Rattle.wb_aql_values.specs.Values.{members}
use Rattle.wb_aql_eval.specs.declared.env.Env.{Env}
use Rattle.wb_viewpoint.specs.OperationTrees.{count_all}
use Rattle.wb_viewpoint.specs.View.{trees_of}
use Rattle.wb_viewpoint.specs.declared.operations.Operation.{Operation, out-Operation}
use Rattle.wb_spec_check.specs.Scopes.{scope_inside}
use Rattle.wb_tools.specs.Bindings.{in_context, inside_with}
use Rattle.wb_tools.specs.Doings.{done, each}
use Rattle.wb_tools.specs.Operations.{act, asked_at, change_context, condition_at, context_at, create_instance, creating, for_each, if_true, turn}
use Rattle.wb_tools.specs.Readiness.{AreReady, IsReadyAround, one_more}
use Rattle.wb_tools.specs.Runs.{IsStop, named, run, work, Went, went}
use Rattle.wb_tools.specs.Tools.{perform}
use Rattle.wb_tools.proofs.Ready.{rest_bounded, ready_first, ready_in_context, ready_inside, ready_metamodel, ready_rest}
use Rattle.wb_tools.proofs.RunLemmas.{no_memory, no_memory_next, run_done, stopped_first, turn_next, turn_stopped, turns_over, went_next}
use Rattle.wb_tools.proofs.Sequences.{turn_as, count_first, create_next, create_stopped, perform_more, nothing, perform_none, perform_stopped, places, split}
use Rattle.wb_tools.proofs.performing.+perform.Goals as goal

pub change_context-returns-in_err-next-clause-done : goal.change_context-returns-in_err-next-clause-done
unfolding change_context
change_context-returns-in_err-next-clause-done g t c =
    let k = c.from_residual in
    stopped_first g.E.Evaluator.outcome_by (context_at c.args.spec.now c.args.tool c.args.place c.args.env.now) (λ p. (perform c.args.spec.now c.args.tool (c.args.place + 1) (trees_of c.args.inside.now)) (in_context p c.args.env.now) p) (work c.args.model.now c.args.tally.now) k.result c.in_err-next.field-0.0 c.args.model.now c.context_at.new.tally k.ensures.1 c.in_err-next.ensures.done

pub change_context-returns-in_err-nearer-clause-done : goal.change_context-returns-in_err-nearer-clause-done
unfolding change_context
change_context-returns-in_err-nearer-clause-done g t c =
    let k = c.from_residual-in_err-nearer in
    no_memory_next g.E.Evaluator.outcome_by (context_at c.args.spec.now c.args.tool c.args.place c.args.env.now) (λ p. (perform c.args.spec.now c.args.tool (c.args.place + 1) (trees_of c.args.inside.now)) (in_context p c.args.env.now) p) (work c.args.model.now c.args.tally.now) c.in_ok-next.next (work c.args.model.now c.context_at.new.tally) k.result c.args.model.now c.in_ok-next.ensures.done k.ensures.1

pub change_context-perform-requires : goal.change_context-perform-requires
change_context-perform-requires g t c =
    let s : AreReady c.args.model.now.metamodel c.args.spec.now c.args.tool (c.args.place + 1) (trees_of c.args.inside.now) c.in_ok-nearer.nearer = ready_in_context c.args.model.now.metamodel c.args.spec.now c.args.tool c.args.place (trees_of c.args.inside.now) c.args.env.now c.in_ok-next.next c.in_ok-nearer.nearer c.in_ok-nearer.ensures c.requires.ready in
    let f : c.args.place + count_all (trees_of c.args.inside.now) < 4294967295 = c.requires.fits in
    search rules

pub change_context-returns-clause-done : goal.change_context-returns-clause-done
unfolding change_context
change_context-returns-clause-done g t c =
    went_next g.E.Evaluator.outcome_by (λ p. (perform c.args.spec.now c.args.tool (c.args.place + 1) (trees_of c.args.inside.now)) (in_context p c.args.env.now) p) (context_at c.args.spec.now c.args.tool c.args.place c.args.env.now) (work c.args.model.now c.args.tally.now) c.in_ok-next.next (work c.args.model.now c.context_at.new.tally) c.perform.result c.perform.new.model c.perform.new.tally c.in_ok-next.ensures.done
    (subst (λ (env : Env). Went (run g.E.Evaluator.outcome_by ((perform c.args.spec.now c.args.tool (c.args.place + 1) (trees_of c.args.inside.now)) env c.in_ok-next.next) (work c.args.model.now c.context_at.new.tally)) c.perform.result c.perform.new.model c.perform.new.tally) c.in_ok-nearer.ensures c.perform.ensures.done)

pub run_if-returns-in_err-condition_at-clause-done : goal.run_if-returns-in_err-condition_at-clause-done
unfolding if_true
run_if-returns-in_err-condition_at-clause-done g t c =
    stopped_first g.E.Evaluator.outcome_by (condition_at c.args.spec.now c.args.tool c.args.place c.args.env.now) (λ (b : Bool). if b then (perform c.args.spec.now c.args.tool (c.args.place + 1) (trees_of c.args.inside.now)) c.args.env.now c.args.context else done (tt {0})) (work c.args.model.now c.args.tally.now) c.from_residual.result c.in_err-condition_at.field-0.0 c.args.model.now c.condition_at.new.tally c.from_residual.ensures.1 c.in_err-condition_at.ensures.done

pub run_if-returns-then-branch-clause-done : goal.run_if-returns-then-branch-clause-done
unfolding if_true
run_if-returns-then-branch-clause-done g t c =
    went_next g.E.Evaluator.outcome_by (λ (b : Bool). if b then (perform c.args.spec.now c.args.tool (c.args.place + 1) (trees_of c.args.inside.now)) c.args.env.now c.args.context else done (tt {0})) (condition_at c.args.spec.now c.args.tool c.args.place c.args.env.now) (work c.args.model.now c.args.tally.now) true (work c.args.model.now c.condition_at.new.tally) c.perform.result c.perform.new.model c.perform.new.tally (c.in_ok-condition_at.ensures.done ∙ ap (λ (b : Bool). went b (work c.args.model.now c.condition_at.new.tally)) c.if-branch.true) c.perform.ensures.done

pub run_if-returns-else-branch-clause-done : goal.run_if-returns-else-branch-clause-done
unfolding if_true
run_if-returns-else-branch-clause-done g t c =
    went_next g.E.Evaluator.outcome_by (λ (b : Bool). if b then (perform c.args.spec.now c.args.tool (c.args.place + 1) (trees_of c.args.inside.now)) c.args.env.now c.args.context else done (tt {0})) (condition_at c.args.spec.now c.args.tool c.args.place c.args.env.now) (work c.args.model.now c.args.tally.now) false (work c.args.model.now c.condition_at.new.tally) (Ok (tt {0})) c.args.model.now c.condition_at.new.tally (c.in_ok-condition_at.ensures.done ∙ ap (λ (b : Bool). went b (work c.args.model.now c.condition_at.new.tally)) c.if-branch.false) (run_done g.E.Evaluator.outcome_by (tt {0}) (work c.args.model.now c.condition_at.new.tally))

pub create_instance-returns-in-None-clause-done : goal.create_instance-returns-in-None-clause-done
unfolding create_instance
create_instance-returns-in-None-clause-done g t c =
    ap (λ (found : Option ℕ). run g.E.Evaluator.outcome_by (creating c.args.place found c.args.reference.now c.args.variable.now (perform c.args.spec.now c.args.tool (c.args.place + 1) (trees_of c.args.inside.now)) c.args.env.now c.args.context) (work c.args.model.now c.args.tally.now)) (sym c.class_of_operation.ensures ∙ c.in-None.is) ∙ run_done g.E.Evaluator.outcome_by (tt {0}) (work c.args.model.now c.args.tally.now)

pub create-returns-in_err-edit-clause-done : goal.create-returns-in_err-edit-clause-done
create-returns-in_err-edit-clause-done g t c =
    create_stopped g.E.Evaluator.outcome_by c.args.place c.args.class c.args.reference.now c.args.variable.now (perform c.args.spec.now c.args.tool (c.args.place + 1) (trees_of c.args.inside.now)) c.args.env.now c.args.context (work c.args.model.now c.args.tally.now) c.creation-change.result c.creation-change.ensures.is c.from_residual.result c.in_err-edit.field-0.0 c.edit.new.model c.edit.new.tally c.from_residual.ensures.1 (c.in_err-edit.ensures.done g.E.Evaluator.outcome_by)

pub create-returns-clause-done : goal.create-returns-clause-done
create-returns-clause-done g t c =
    create_next g.E.Evaluator.outcome_by c.args.place c.args.class c.args.reference.now c.args.variable.now (perform c.args.spec.now c.args.tool (c.args.place + 1) (trees_of c.args.inside.now)) c.args.env.now c.args.context (work c.args.model.now c.args.tally.now) c.creation-change.result c.creation-change.ensures.is c.in_ok-edit.field-0 (work c.edit.new.model c.edit.new.tally) c.run_turn.result c.run_turn.new.model c.run_turn.new.tally (c.in_ok-edit.ensures.done g.E.Evaluator.outcome_by) c.run_turn.ensures.done

pub run_for-returns-in_err-items-clause-done : goal.run_for-returns-in_err-items-clause-done
unfolding for_each
run_for-returns-in_err-items-clause-done g t c =
    stopped_first g.E.Evaluator.outcome_by (asked_at c.args.spec.now c.args.tool c.args.place c.args.env.now) (λ v. each (turn c.args.variable.now (perform c.args.spec.now c.args.tool (c.args.place + 1) (trees_of c.args.inside.now)) c.args.env.now c.args.context) (members v)) (work c.args.model.now c.args.tally.now) c.from_residual.result c.in_err-items.field-0.0 c.args.model.now c.asked_at.new.tally c.from_residual.ensures.1 c.in_err-items.ensures.done

pub run_for-returns-clause-done : goal.run_for-returns-clause-done
unfolding for_each
run_for-returns-clause-done g t c =
    went_next g.E.Evaluator.outcome_by (λ v. each (turn c.args.variable.now (perform c.args.spec.now c.args.tool (c.args.place + 1) (trees_of c.args.inside.now)) c.args.env.now c.args.context) (members v)) (asked_at c.args.spec.now c.args.tool c.args.place c.args.env.now) (work c.args.model.now c.args.tally.now) c.in_ok-items.items (work c.args.model.now c.asked_at.new.tally) c.run_turns.result c.run_turns.new.model c.run_turns.new.tally c.in_ok-items.ensures.done
    (subst (λ (xs : List Scalar). Went (run g.E.Evaluator.outcome_by (each (turn c.args.variable.now (perform c.args.spec.now c.args.tool (c.args.place + 1) (trees_of c.args.inside.now)) c.args.env.now c.args.context) xs) (work c.args.model.now c.asked_at.new.tally)) c.run_turns.result c.run_turns.new.model c.run_turns.new.tally) c.members.ensures c.run_turns.ensures.done)

pub run_turn-returns-in_err-nearer-clause-done : goal.run_turn-returns-in_err-nearer-clause-done
run_turn-returns-in_err-nearer-clause-done g t c =
    no_memory g.E.Evaluator.outcome_by ((perform c.args.spec.now c.args.tool (c.args.place + 1) (trees_of c.args.inside.now)) (inside_with c.args.name.now c.args.item.now c.args.context c.args.env.now) c.args.context) (work c.args.model.now c.args.tally.now) c.from_residual.result c.args.model.now c.from_residual.ensures.1

pub run_turn-perform-requires : goal.run_turn-perform-requires
run_turn-perform-requires g t c =
    let s : AreReady c.args.model.now.metamodel c.args.spec.now c.args.tool (c.args.place + 1) (trees_of c.args.inside.now) c.in_ok-nearer.nearer = ready_inside c.args.model.now.metamodel c.args.spec.now c.args.tool c.args.place (trees_of c.args.inside.now) c.args.env.now c.args.name.now c.args.item.now c.args.context c.in_ok-nearer.nearer c.in_ok-nearer.ensures c.requires.bounded c.requires.ready in
    let f : c.args.place + count_all (trees_of c.args.inside.now) < 4294967295 = c.requires.fits in
    search rules

pub run_turns-run_turn-requires : goal.run_turns-run_turn-requires
run_turns-run_turn-requires g t c =
    let l = c.loop-item in
    let xs = c.args.items.now in
    let x = c.item-item.result in
    let here : drop l.item-index xs ≡ x ∷ drop (l.item-index + 1) xs = drop_more xs l.item-index x (omega arith) ∙ ap (λ y. y ∷ drop (l.item-index + 1) xs) (sym c.item-item.is) in
    let r : IsReadyAround l.model.metamodel c.args.spec.now c.args.tool c.args.place (one_more c.args.variable.now) (trees_of c.args.inside.now) c.args.env.now = ready_metamodel c.args.model.now.metamodel c.args.spec.now c.args.tool c.args.place (trees_of c.args.inside.now) c.args.env.now l.model.metamodel (one_more c.args.variable.now) l.invariant.metamodel c.requires.ready in
    let b : is_bounded l.model.metamodel x ≡ true = rest_bounded l.model.metamodel l.item-index xs x (drop (l.item-index + 1) xs) here (ap (λ (mm : Metamodel). list_all (is_bounded mm) xs) l.invariant.metamodel ∙ c.requires.bounded) in
    let f : c.args.place + count_all (trees_of c.args.inside.now) < 4294967295 = c.requires.fits in
    search rules

pub run_turns-returns-in_err-run_turn-clause-done : goal.run_turns-returns-in_err-run_turn-clause-done
run_turns-returns-in_err-run_turn-clause-done g t c =
    let l = c.loop-item in
    let xs = c.args.items.now in
    let x = c.item-item.result in
    let here : drop l.item-index xs ≡ x ∷ drop (l.item-index + 1) xs = drop_more xs l.item-index x (omega arith) ∙ ap (λ y. y ∷ drop (l.item-index + 1) xs) (sym c.item-item.is) in
    (turn_stopped g.E.Evaluator.outcome_by (turn c.args.variable.now (perform c.args.spec.now c.args.tool (c.args.place + 1) (trees_of c.args.inside.now)) c.args.env.now c.args.context) (drop l.item-index xs) x (drop (l.item-index + 1) xs) (work l.model l.tally) c.from_residual.result c.in_err-run_turn.field-0.0 c.run_turn.new.model c.run_turn.new.tally (run g.E.Evaluator.outcome_by (each (turn c.args.variable.now (perform c.args.spec.now c.args.tool (c.args.place + 1) (trees_of c.args.inside.now)) c.args.env.now c.args.context) xs) (work c.args.model.now c.args.tally.now)) here c.from_residual.ensures.1 (turn_as g.E.Evaluator.outcome_by (perform c.args.spec.now c.args.tool (c.args.place + 1) (trees_of c.args.inside.now)) c.args.variable.now x c.args.env.now c.args.context c.context_with.result (work l.model l.tally) (Err c.in_err-run_turn.field-0.0) c.run_turn.new.model c.run_turn.new.tally c.context_with.ensures c.in_err-run_turn.ensures.done) l.invariant.same)

pub run_turns-loop-item-preserved : goal.run_turns-loop-item-preserved
run_turns-loop-item-preserved g t c =
    let l = c.loop-item in
    let xs = c.args.items.now in
    let x = c.item-item.result in
    let here : drop l.item-index xs ≡ x ∷ drop (l.item-index + 1) xs = drop_more xs l.item-index x (omega arith) ∙ ap (λ y. y ∷ drop (l.item-index + 1) xs) (sym c.item-item.is) in
    record {
      same = turn_next g.E.Evaluator.outcome_by (turn c.args.variable.now (perform c.args.spec.now c.args.tool (c.args.place + 1) (trees_of c.args.inside.now)) c.args.env.now c.args.context) (drop l.item-index xs) x (drop (l.item-index + 1) xs) (work l.model l.tally) (tt {0}) (work c.run_turn.new.model c.run_turn.new.tally) (run g.E.Evaluator.outcome_by (each (turn c.args.variable.now (perform c.args.spec.now c.args.tool (c.args.place + 1) (trees_of c.args.inside.now)) c.args.env.now c.args.context) xs) (work c.args.model.now c.args.tally.now)) here (turn_as g.E.Evaluator.outcome_by (perform c.args.spec.now c.args.tool (c.args.place + 1) (trees_of c.args.inside.now)) c.args.variable.now x c.args.env.now c.args.context c.context_with.result (work l.model l.tally) (Ok (tt {0})) c.run_turn.new.model c.run_turn.new.tally c.context_with.ensures c.in_ok-run_turn.ensures.done) l.invariant.same;
      counted = omega (arith, l.invariant.counted, c.in_ok-run_turn.ensures.counted);
      metamodel = c.in_ok-run_turn.ensures.same ∙ l.invariant.metamodel;
    }

pub run_turns-returns-clause-done : goal.run_turns-returns-clause-done
run_turns-returns-clause-done g t c =
    let l = c.loop-item in
    let xs = c.args.items.now in
    turns_over g.E.Evaluator.outcome_by (turn c.args.variable.now (perform c.args.spec.now c.args.tool (c.args.place + 1) (trees_of c.args.inside.now)) c.args.env.now c.args.context) (drop l.item-index xs) (work l.model l.tally) (run g.E.Evaluator.outcome_by (each (turn c.args.variable.now (perform c.args.spec.now c.args.tool (c.args.place + 1) (trees_of c.args.inside.now)) c.args.env.now c.args.context) xs) (work c.args.model.now c.args.tally.now)) (drop_all l.item-index xs (omega arith)) l.invariant.same

pub perform-act-requires : goal.perform-act-requires
perform-act-requires g t c =
    let x = c.first-item.result in
    let here : c.args.operations.now ≡ x ∷ (take (length c.args.operations.now - 1) (drop 1 c.args.operations.now)) = split c.args.operations.now x (omega arith) c.first-item.is in
    let n : count_all (trees_of c.args.operations.now) ≡ places x + count_all (trees_of (take (length c.args.operations.now - 1) (drop 1 c.args.operations.now))) = ap (λ (ys : List Operation). count_all (trees_of ys)) here ∙ count_first x (take (length c.args.operations.now - 1) (drop 1 c.args.operations.now)) in
    let k : count_all (trees_of c.as_slice-inside.result.now) ≡ count_all (trees_of (out-Operation x).inside) = ap (λ (ys : List Operation). count_all (trees_of ys)) c.as_slice-inside.ensures in
    let f : c.args.place + count_all (trees_of c.args.operations.now) < 4294967296 = c.requires.fits in
    let r0 : AreReady c.args.model.now.metamodel c.args.spec.now c.args.tool c.args.place (trees_of (x ∷ (take (length c.args.operations.now - 1) (drop 1 c.args.operations.now)))) c.args.env.now = subst (λ (ys : List Operation). AreReady c.args.model.now.metamodel c.args.spec.now c.args.tool c.args.place (trees_of ys) c.args.env.now) here c.requires.ready in
    let r : IsReadyAround c.args.model.now.metamodel c.args.spec.now c.args.tool c.args.place (λ scope. scope_inside scope (out-Operation x).action) (trees_of c.as_slice-inside.result.now) c.args.env.now = subst (λ (ins : List Operation). IsReadyAround c.args.model.now.metamodel c.args.spec.now c.args.tool c.args.place (λ scope. scope_inside scope (out-Operation x).action) (trees_of ins) c.args.env.now) (sym c.as_slice-inside.ensures) (ready_first c.args.model.now.metamodel c.args.spec.now c.args.tool c.args.place c.args.env.now x (trees_of (take (length c.args.operations.now - 1) (drop 1 c.args.operations.now))) r0) in
    search rules

pub perform-returns-in_err-act-in-len1-up-clause-done : goal.perform-returns-in_err-act-in-len1-up-clause-done
perform-returns-in_err-act-in-len1-up-clause-done g t c =
    let x = c.first-item.result in
    let here : c.args.operations.now ≡ x ∷ (take (length c.args.operations.now - 1) (drop 1 c.args.operations.now)) = split c.args.operations.now x (omega arith) c.first-item.is in
    perform_stopped g.E.Evaluator.outcome_by c.args.spec.now c.args.tool c.args.env.now c.args.context c.args.place c.args.operations.now x (take (length c.args.operations.now - 1) (drop 1 c.args.operations.now)) (work c.args.model.now c.args.tally.now) here c.from_residual.result c.in_err-act-in-len1-up.field-0.0 c.act.new.model c.act.new.tally c.from_residual.ensures.1
    (subst (λ (ins : List Operation). IsStop (named c.in_err-act-in-len1-up.field-0.0) (run g.E.Evaluator.outcome_by (act c.args.spec.now c.args.tool c.args.place (out-Operation x).action (perform c.args.spec.now c.args.tool (c.args.place + 1) (trees_of ins)) c.args.env.now c.args.context) (work c.args.model.now c.args.tally.now)) c.act.new.tally) c.as_slice-inside.ensures c.in_err-act-in-len1-up.ensures.done)

pub perform-count_all-requires : goal.perform-count_all-requires
perform-count_all-requires g t c =
    let x = c.first-item.result in
    let here : c.args.operations.now ≡ x ∷ (take (length c.args.operations.now - 1) (drop 1 c.args.operations.now)) = split c.args.operations.now x (omega arith) c.first-item.is in
    let n : count_all (trees_of c.args.operations.now) ≡ places x + count_all (trees_of (take (length c.args.operations.now - 1) (drop 1 c.args.operations.now))) = ap (λ (ys : List Operation). count_all (trees_of ys)) here ∙ count_first x (take (length c.args.operations.now - 1) (drop 1 c.args.operations.now)) in
    let k : count_all (trees_of c.as_slice-inside.result.now) ≡ count_all (trees_of (out-Operation x).inside) = ap (λ (ys : List Operation). count_all (trees_of ys)) c.as_slice-inside.ensures in
    let f : c.args.place + count_all (trees_of c.args.operations.now) < 4294967296 = c.requires.fits in
    omega (arith, n, k, f)

pub perform-overflow_add-count_all : goal.perform-overflow_add-count_all
perform-overflow_add-count_all g t c =
    let x = c.first-item.result in
    let here : c.args.operations.now ≡ x ∷ (take (length c.args.operations.now - 1) (drop 1 c.args.operations.now)) = split c.args.operations.now x (omega arith) c.first-item.is in
    let n : count_all (trees_of c.args.operations.now) ≡ places x + count_all (trees_of (take (length c.args.operations.now - 1) (drop 1 c.args.operations.now))) = ap (λ (ys : List Operation). count_all (trees_of ys)) here ∙ count_first x (take (length c.args.operations.now - 1) (drop 1 c.args.operations.now)) in
    let k : count_all (trees_of c.as_slice-inside.result.now) ≡ count_all (trees_of (out-Operation x).inside) = ap (λ (ys : List Operation). count_all (trees_of ys)) c.as_slice-inside.ensures in
    let f : c.args.place + count_all (trees_of c.args.operations.now) < 4294967296 = c.requires.fits in
    let r = c.count_all.ensures in search rules

pub perform-overflow_add-place : goal.perform-overflow_add-place
perform-overflow_add-place g t c =
    let x = c.first-item.result in
    let here : c.args.operations.now ≡ x ∷ (take (length c.args.operations.now - 1) (drop 1 c.args.operations.now)) = split c.args.operations.now x (omega arith) c.first-item.is in
    let n : count_all (trees_of c.args.operations.now) ≡ places x + count_all (trees_of (take (length c.args.operations.now - 1) (drop 1 c.args.operations.now))) = ap (λ (ys : List Operation). count_all (trees_of ys)) here ∙ count_first x (take (length c.args.operations.now - 1) (drop 1 c.args.operations.now)) in
    let k : count_all (trees_of c.as_slice-inside.result.now) ≡ count_all (trees_of (out-Operation x).inside) = ap (λ (ys : List Operation). count_all (trees_of ys)) c.as_slice-inside.ensures in
    let f : c.args.place + count_all (trees_of c.args.operations.now) < 4294967296 = c.requires.fits in
    let r = c.count_all.ensures in search rules

pub perform-perform-requires : goal.perform-perform-requires
perform-perform-requires g t c =
    let x = c.first-item.result in
    let here : c.args.operations.now ≡ x ∷ (take (length c.args.operations.now - 1) (drop 1 c.args.operations.now)) = split c.args.operations.now x (omega arith) c.first-item.is in
    let n : count_all (trees_of c.args.operations.now) ≡ places x + count_all (trees_of (take (length c.args.operations.now - 1) (drop 1 c.args.operations.now))) = ap (λ (ys : List Operation). count_all (trees_of ys)) here ∙ count_first x (take (length c.args.operations.now - 1) (drop 1 c.args.operations.now)) in
    let k : count_all (trees_of c.as_slice-inside.result.now) ≡ count_all (trees_of (out-Operation x).inside) = ap (λ (ys : List Operation). count_all (trees_of ys)) c.as_slice-inside.ensures in
    let f : c.args.place + count_all (trees_of c.args.operations.now) < 4294967296 = c.requires.fits in
    let r0 : AreReady c.args.model.now.metamodel c.args.spec.now c.args.tool c.args.place (trees_of (x ∷ (take (length c.args.operations.now - 1) (drop 1 c.args.operations.now)))) c.args.env.now = subst (λ (ys : List Operation). AreReady c.args.model.now.metamodel c.args.spec.now c.args.tool c.args.place (trees_of ys) c.args.env.now) here c.requires.ready in
    let p : c.args.place + places x ≡ c.args.place + (1 + c.count_all.result) = (let r = c.count_all.ensures in omega (arith, k, r)) in
    let r1 : AreReady c.args.model.now.metamodel c.args.spec.now c.args.tool c.args.place (trees_of (x ∷ (take (length c.args.operations.now - 1) (drop 1 c.args.operations.now)))) c.args.env.now = r0 in
    let r2 : AreReady c.args.model.now.metamodel c.args.spec.now c.args.tool (c.args.place + places x) (trees_of (take (length c.args.operations.now - 1) (drop 1 c.args.operations.now))) c.args.env.now = ready_rest c.args.model.now.metamodel c.args.spec.now c.args.tool c.args.place c.args.env.now x (trees_of (take (length c.args.operations.now - 1) (drop 1 c.args.operations.now))) r0 in
    let r3 : AreReady c.args.model.now.metamodel c.args.spec.now c.args.tool (c.args.place + (1 + c.count_all.result)) (trees_of (take (length c.args.operations.now - 1) (drop 1 c.args.operations.now))) c.args.env.now = subst (λ (place : ℕ). AreReady c.args.model.now.metamodel c.args.spec.now c.args.tool place (trees_of (take (length c.args.operations.now - 1) (drop 1 c.args.operations.now))) c.args.env.now) p r2 in
    let r : AreReady c.act.new.model.metamodel c.args.spec.now c.args.tool (c.args.place + (1 + c.count_all.result)) (trees_of (take (length c.args.operations.now - 1) (drop 1 c.args.operations.now))) c.args.env.now = subst (λ (mm : Metamodel). AreReady mm c.args.spec.now c.args.tool (c.args.place + (1 + c.count_all.result)) (trees_of (take (length c.args.operations.now - 1) (drop 1 c.args.operations.now))) c.args.env.now) (sym c.in_ok-act-in-len1-up.ensures.same) r3 in
    let q = c.count_all.ensures in
    search rules

pub perform-returns-in_ok-act-in-len1-up-clause-done : goal.perform-returns-in_ok-act-in-len1-up-clause-done
perform-returns-in_ok-act-in-len1-up-clause-done g t c =
    let x = c.first-item.result in
    let here : c.args.operations.now ≡ x ∷ (take (length c.args.operations.now - 1) (drop 1 c.args.operations.now)) = split c.args.operations.now x (omega arith) c.first-item.is in
    let n : count_all (trees_of c.args.operations.now) ≡ places x + count_all (trees_of (take (length c.args.operations.now - 1) (drop 1 c.args.operations.now))) = ap (λ (ys : List Operation). count_all (trees_of ys)) here ∙ count_first x (take (length c.args.operations.now - 1) (drop 1 c.args.operations.now)) in
    let k : count_all (trees_of c.as_slice-inside.result.now) ≡ count_all (trees_of (out-Operation x).inside) = ap (λ (ys : List Operation). count_all (trees_of ys)) c.as_slice-inside.ensures in
    let f : c.args.place + count_all (trees_of c.args.operations.now) < 4294967296 = c.requires.fits in
    let p : c.args.place + places x ≡ c.args.place + (1 + c.count_all.result) = (let r = c.count_all.ensures in omega (arith, k, r)) in
    perform_more g.E.Evaluator.outcome_by c.args.spec.now c.args.tool c.args.env.now c.args.context c.args.place c.args.operations.now x (take (length c.args.operations.now - 1) (drop 1 c.args.operations.now)) (work c.args.model.now c.args.tally.now) here (work c.act.new.model c.act.new.tally) c.perform.result c.perform.new.model c.perform.new.tally
    (subst (λ (ins : List Operation). run g.E.Evaluator.outcome_by (act c.args.spec.now c.args.tool c.args.place (out-Operation x).action (perform c.args.spec.now c.args.tool (c.args.place + 1) (trees_of ins)) c.args.env.now c.args.context) (work c.args.model.now c.args.tally.now) ≡ went (tt {0}) (work c.act.new.model c.act.new.tally)) c.as_slice-inside.ensures c.in_ok-act-in-len1-up.ensures.done)
    (subst (λ (place : ℕ). Went (run g.E.Evaluator.outcome_by (perform c.args.spec.now c.args.tool place (trees_of (take (length c.args.operations.now - 1) (drop 1 c.args.operations.now))) c.args.env.now c.args.context) (work c.act.new.model c.act.new.tally)) c.perform.result c.perform.new.model c.perform.new.tally) (sym p) c.perform.ensures.done)

pub perform-returns-in-empty-clause-done : goal.perform-returns-in-empty-clause-done
perform-returns-in-empty-clause-done g t c =
    perform_none g.E.Evaluator.outcome_by c.args.spec.now c.args.tool c.args.env.now c.args.context c.args.place c.args.operations.now (work c.args.model.now c.args.tally.now) (nothing c.args.operations.now (omega arith))
