use Rattle.std.proofs.Common.{◌<◌, ℕ, List, length, get_or, ap, subst, ◌∙◌}
use Rattle.wb_rows.specs.Rows.{object_row}
use Rattle.wb_rows.proofs.Found.{live}
use Rattle.wb_rows.proofs.Steps.{rows_more}
use Rattle.wb_rows.proofs.objects.put_objects.Goals as goal

pub put_object-requires : goal.put_object-requires
put_object-requires c =
    let o = c.object-item.result in
    let i = c.loop-object.object-index in
    let objects = c.as_slice-object-items.ensures ∙ c.in_ok-objects.ensures in
    live c.args.model.now.kinds i o (subst (λ (os : List ℕ). i < length os) objects c.loop-object-test.true) (c.object-item.is ∙ ap (λ (os : List ℕ). get_or os i o) objects)

pub loop-object-preserved : goal.loop-object-preserved
loop-object-preserved c =
    let more = rows_more (object_row c.args.model.now) c.as_slice-object-items.result.now c.loop-object.object-index c.object-item.result c.args.rows.now c.loop-object-test.true c.object-item.is in
    cc (more, c.in_ok-put_object.ensures, c.loop-object.invariant)
