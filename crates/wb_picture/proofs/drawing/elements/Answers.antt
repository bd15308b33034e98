use Rattle.std.proofs.Common.{ap, ◌∙◌}
use Rattle.std.specs.Vec.{vec_items}
use Rattle.wb_picture.specs.invariants.Drawn.{element_with}
use Rattle.wb_picture.proofs.Rows.{no_more, one_more}
use Rattle.wb_picture.proofs.drawing.elements.Goals as goal
use Rattle.wb_picture.proofs.drawing.elements.Goals.{in-Some+in_ok-element_with+in_ok-push, in_default}

pub loop-place-preserved : goal.loop-place-preserved
loop-place-preserved c =
    elim c.match-visible_look.branch [
      | in-Some+in_ok-element_with+in_ok-push w ↦
          one_more (element_with c.args.layout.now) c.args.nodes.now c.args.looks.now c.args.flags.now c.loop-place.place c.index-nodes-place.result c.loop-place-test.true c.index-nodes-place.is _ _ c.loop-place.invariant
          w.in-Some.look.now _ w.in-Some.ensures w.in_ok-element_with.ensures (ap vec_items w.elements-is ∙ w.in_ok-push.ensures.items)
      | in_default w ↦
          no_more (element_with c.args.layout.now) c.args.nodes.now c.args.looks.now c.args.flags.now c.loop-place.place c.index-nodes-place.result c.loop-place-test.true c.index-nodes-place.is _ _ c.loop-place.invariant
          w.in_default.ensures (ap vec_items w.elements-is)
    ]
