use Rattle.std.proofs.Common.{ℕ, sym}
use Rattle.wb_viewpoint.specs.declared.filters.Filter.{Filter}
use Rattle.wb_picture.specs.Picture.{is_on}
use Rattle.wb_picture.proofs.Numbering.{one_more, no_more}
use Rattle.wb_picture.proofs.switched.filter_names.Goals as goal
use Rattle.wb_picture.proofs.switched.filter_names.Goals.{then-is_on+in_ok-text_of+in_ok-push, else-is_on}

pub loop-number-preserved : goal.loop-number-preserved
loop-number-preserved c =
    let name = λ (it : ℕ × Filter). it.1.name in
    let passes = λ (it : ℕ × Filter). is_on c.args.on.now it.0 in
    let more = one_more name passes c.args.filters.now c.loop-number.number c.index-filters-number.result c.loop-number-test.true c.index-filters-number.is in
    let none = no_more name passes c.args.filters.now c.loop-number.number c.index-filters-number.result c.loop-number-test.true c.index-filters-number.is in
    elim c.if-is_on.branch [
      | then-is_on+in_ok-text_of+in_ok-push w ↦
          let same = more (sym w.if-is_on.ensures) in
          cc (same, w.names-is, w.in_ok-push.ensures.items, w.in_ok-text_of.ensures, c.loop-number.invariant)
      | else-is_on w ↦
          let same = none (sym w.if-is_on.ensures) in
          cc (same, w.names-is, c.loop-number.invariant)
    ]
