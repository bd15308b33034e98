use Rattle.std.proofs.Common.{sym, append-nil, refl, get_or}
use Rattle.wb_answers.specs.Seen.{Told}
use Rattle.wb_answers.proofs.SeenLaws.{after_none}
use Rattle.wb_answers.proofs.SeenLoops.{not_over, goes_on, found_on, refused_at}
use Rattle.wb_nodes.specs.Nodes.{children_by, units_by}
use Rattle.wb_nodes.specs.Grounds.{scene}
use Rattle.wb_nodes.proofs.children.declare_each.Goals as goal

pub loop-number-init : goal.loop-number-init
loop-number-init g c = record { found = sym (append-nil c.args.found.now.items); asked = sym (after_none (g.A.Answers.seen c.args.answers.now)) }

pub declare_by-requires-clause-fine : goal.declare_by-requires-clause-fine
declare_by-requires-clause-fine g c = not_over _ _ _ c.loop-number.invariant.asked c.requires.fine

pub loop-number-preserved : goal.loop-number-preserved
loop-number-preserved g c =
    let f = λ (t : Told). units_by (scene c.args.grounds.now) t c.args.path.now in
    let h = λ (t : Told). children_by (scene c.args.grounds.now) t c.args.path.now in
    let s = g.A.Answers.seen c.args.answers.now in
    let x = get_or c.args.numbers.now c.loop-number.number-index 0 in
    record {
      found = found_on f c.args.numbers.now c.loop-number.number-index 0 x s _ (g.A.Answers.seen c.declare_by.new.answers) c.loop-number-test.true refl c.loop-number.invariant.asked h _ _ _ c.loop-number.invariant.found c.in_ok-declare_by.ensures.found;
      asked = goes_on f c.args.numbers.now c.loop-number.number-index 0 x s _ _ c.loop-number-test.true refl c.loop-number.invariant.asked c.in_ok-declare_by.ensures.asks;
    }

pub returns-in_err-declare_by-clause-asks : goal.returns-in_err-declare_by-clause-asks
returns-in_err-declare_by-clause-asks g c =
    let f = λ (t : Told). units_by (scene c.args.grounds.now) t c.args.path.now in
    let x = get_or c.args.numbers.now c.loop-number.number-index 0 in
    refused_at f c.args.numbers.now c.loop-number.number-index 0 x (g.A.Answers.seen c.args.answers.now) _ _ c.loop-number-test.true refl c.loop-number.invariant.asked _ _ c.from_residual.ensures c.in_err-declare_by.ensures.asks
