use Rattle.std.proofs.Common.{ℕ, ◌++◌, ap, map, sym, ◌∙◌}
use Rattle.std.specs.Prelude.{codes}
use Rattle.std.specs.FinMap.{insert}
use Rattle.wb_viewpoint.specs.declared.filters.Filter.{Filter}
use Rattle.wb_picture.specs.Picture.{is_on}
use Rattle.wb_picture.proofs.Numbering.{one_more, no_more}
use Rattle.wb_rows.specs.Rows.{filter_row}
use Rattle.wb_rows.specs.Texts.{Texts, with_rows}
use Rattle.wb_rows.proofs.Steps.{named_more, puts}
use Rattle.wb_rows.proofs.switched.put_active_filters.Goals as goal
use Rattle.wb_rows.proofs.switched.put_active_filters.Goals.{then-is_on+in_ok-key_of+in_ok-put, else-is_on}

pub loop-number-preserved : goal.loop-number-preserved
loop-number-preserved c =
    let name = λ (it : ℕ × Filter). it.1.name in
    let passes = λ (it : ℕ × Filter). is_on c.args.on.now it.0 in
    let it = c.index-filters-number.result in
    let i = c.loop-number.number in
    let more = one_more name passes c.args.filters.now i it c.loop-number-test.true c.index-filters-number.is in
    let none = no_more name passes c.args.filters.now i it c.loop-number-test.true c.index-filters-number.is in
    elim c.if-is_on.branch [
      | then-is_on+in_ok-key_of+in_ok-put w ↦
          let put = puts c.loop-number.rows w.put.new.self (filter_row it.name) _ _ w.in_ok-put.ensures (w.in_ok-key_of.ensures ∙ ap (λ name. codes "f/" ++ name) w.as_str.ensures.same) w.new.ensures.items in
          w.rows-is ∙ put ∙ ap (λ (rows : Texts). insert rows (filter_row it.name).key (filter_row it.name).text) c.loop-number.invariant
          ∙ sym (named_more filter_row _ _ it.name c.args.rows.now (more (sym w.if-is_on.ensures)))
      | else-is_on w ↦ w.rows-is ∙ c.loop-number.invariant ∙ ap (λ names. with_rows (map filter_row names) c.args.rows.now) (none (sym w.if-is_on.ensures))
    ]
