use Rattle.std.proofs.Common.{ap, sym, ◌++◌, append-nil, arith}
use Rattle.std.proofs.lemmas.Grind.{common_steps}
use Rattle.wb_answers.specs.Seen.{Told}
use Rattle.wb_answers.proofs.SeenLaws.{after_none}
use Rattle.wb_answers.proofs.SeenLoops.{not_over, goes_on, found_on, refused_at}
use Rattle.wb_nodes.specs.Nodes.{is_declared, precondition_at}
use Rattle.wb_nodes.specs.Grounds.{scene, kept}
use Rattle.wb_nodes.proofs.Kept.{one_by_one}
use Rattle.wb_nodes.proofs.children.declare_among.Goals as goal

pub loop-key-init : goal.loop-key-init
loop-key-init g c = record { found = sym (append-nil c.args.found.now.items); asked = sym (after_none (g.A.Answers.seen c.args.answers.now)) }

pub take_up-requires : goal.take_up-requires
take_up-requires g c = not_over _ _ _ c.loop-key.invariant.asked c.requires

pub loop-key-preserved : goal.loop-key-preserved
loop-key-preserved g c =
    let f = λ (t : Told). precondition_at (scene c.args.grounds.now) c.args.number in
    let h = λ (t : Told). kept (scene c.args.grounds.now) t c.args.number c.args.node.now in
    let s = g.A.Answers.seen c.args.answers.now in
    record {
      found = found_on f c.args.candidates.now c.loop-key.key-index c.key-item.result c.key-item.result s _ (g.A.Answers.seen c.take_up.new.answers) c.loop-key-test.true c.key-item.is c.loop-key.invariant.asked h _ _ _ c.loop-key.invariant.found c.in_ok-take_up.ensures.found;
      asked = goes_on f c.args.candidates.now c.loop-key.key-index c.key-item.result c.key-item.result s _ _ c.loop-key-test.true c.key-item.is c.loop-key.invariant.asked c.in_ok-take_up.ensures.asks;
    }

pub returns-in_err-take_up-clause-asks : goal.returns-in_err-take_up-clause-asks
returns-in_err-take_up-clause-asks g c =
    let f = λ (t : Told). precondition_at (scene c.args.grounds.now) c.args.number in
    refused_at f c.args.candidates.now c.loop-key.key-index c.key-item.result c.key-item.result (g.A.Answers.seen c.args.answers.now) _ _ c.loop-key-test.true c.key-item.is c.loop-key.invariant.asked _ _ c.from_residual.ensures c.in_err-take_up.ensures.asks

pub returns-clause-found : goal.returns-clause-found
returns-clause-found g c =
    let told = (g.A.Answers.seen c.args.answers.now).told in
    let all = ap (λ ys. c.args.found.now.items ++ ys) (one_by_one (is_declared (scene c.args.grounds.now) told c.args.number c.args.node.now) c.args.candidates.now) in
    let kept_so_far = c.loop-key.invariant.found in
    grind (arith, common_steps, all, kept_so_far)
