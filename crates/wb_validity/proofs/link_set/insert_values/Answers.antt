use Rattle.std.proofs.Common.{◌∙◌, ◌+◌, ◌&&◌, ◌||◌, ap, sym, drop, eqb}
use Rattle.wb_store.specs.Contents.{has_object}
use Rattle.wb_store.specs.Scalars.{same}
use Rattle.wb_store.specs.declared.scalars.Scalar.TheVariants.{Object}
use Rattle.wb_store.proofs.Steps.{drop_more}
use Rattle.wb_validity.specs.invariants.LinkSets.{has_link}
use Rattle.wb_validity.proofs.Opposed.{or_more_in}
use Rattle.wb_validity.proofs.link_set.insert_values.Goals as goal

pub loop-value-preserved : goal.loop-value-preserved
loop-value-preserved c = λ q g o.
    let rest = drop (c.loop-value.value-index + 1) c.args.values.now in
    let before = has_link c.loop-value.links.keys q g o in
    ap (λ b. b || (eqb q c.args.p && (eqb g c.args.f && has_object rest o))) (c.in_ok-insert_value.ensures q g o)
    ∙ or_more_in before (eqb q c.args.p) (eqb g c.args.f) (same c.value-item.result (Object o)) (has_object rest o)
    ∙ ap (λ values. before || (eqb q c.args.p && (eqb g c.args.f && has_object values o))) (sym (drop_more c.args.values.now c.loop-value.value-index c.value-item.result c.loop-value-test.true c.value-item.is))
    ∙ c.loop-value.invariant q g o
