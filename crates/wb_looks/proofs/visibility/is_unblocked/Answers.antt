use Rattle.std.proofs.Common.{◌∙◌, ◌+◌, ap, not, refl, take}
use Rattle.wb_looks.specs.Conditions.{is_unblocked}
use Rattle.wb_looks.specs.Visible.{is_path_visible}
use Rattle.wb_looks.proofs.BlockLaws.{down_by_one, found_blocked, hidden_here, one_longer}
use Rattle.wb_looks.proofs.visibility.is_unblocked.Goals as goal

pub loop-pair-init : goal.loop-pair-init
unfolding is_path_visible
loop-pair-init c = record { above = c.new.ensures; so_far = refl }

pub returns-then-contains : goal.returns-then-contains
returns-then-contains c =
    let path = c.args.path.now in
    let i = c.loop-pair.pair-index in
    let longer = one_longer path _ _ i c.pair-item.result c.pair-item.result c.loop-pair-test.true c.loop-pair.invariant.above c.pair-item.is c.in_ok-push.ensures.ok in
    hidden_here (is_unblocked c.args.blocked.now.keys) path i c.loop-pair-test.true (found_blocked c.args.blocked.now.keys (take (i + 1) path) _ _ longer c.contains.ensures ∙ ap not c.if-contains.true)

pub loop-pair-preserved : goal.loop-pair-preserved
loop-pair-preserved c =
    let path = c.args.path.now in
    let i = c.loop-pair.pair-index in
    let longer = one_longer path _ _ i c.pair-item.result c.pair-item.result c.loop-pair-test.true c.loop-pair.invariant.above c.pair-item.is c.in_ok-push.ensures.ok in
    record {
      above = longer;
      so_far = down_by_one (is_unblocked c.args.blocked.now.keys) path i c.loop-pair-test.true c.loop-pair.invariant.so_far (found_blocked c.args.blocked.now.keys (take (i + 1) path) _ _ longer c.contains.ensures ∙ ap not c.if-contains.false);
    }
