use Rattle.std.proofs.Common.{ap, ◌∙◌}
use Rattle.std.specs.Vec.{vec_items}
use Rattle.wb_picture.specs.invariants.Drawn.{edge_with}
use Rattle.wb_picture.proofs.Rows.{no_more, one_more}
use Rattle.wb_picture.proofs.drawing.edges.Goals as goal
use Rattle.wb_picture.proofs.drawing.edges.Goals.{in-Some+in_ok-edge_with+in_ok-push, in_default}

pub loop-place-preserved : goal.loop-place-preserved
loop-place-preserved c =
    elim c.match-visible_look.branch [
      | in-Some+in_ok-edge_with+in_ok-push w ↦
          one_more edge_with c.args.edges.now c.args.looks.now c.args.flags.now c.loop-place.place c.index-edges-place.result c.loop-place-test.true c.index-edges-place.is _ _ c.loop-place.invariant
          w.in-Some.look.now _ w.in-Some.ensures w.in_ok-edge_with.ensures (ap vec_items w.drawn-is ∙ w.in_ok-push.ensures.items)
      | in_default w ↦
          no_more edge_with c.args.edges.now c.args.looks.now c.args.flags.now c.loop-place.place c.index-edges-place.result c.loop-place-test.true c.index-edges-place.is _ _ c.loop-place.invariant
          w.in_default.ensures (ap vec_items w.drawn-is)
    ]
