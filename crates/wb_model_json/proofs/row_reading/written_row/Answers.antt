use Rattle.std.proofs.Common.{◌∙◌}
use Rattle.serde_json.specs.View.{view}
use Rattle.wb_model_json.proofs.RowsAgain.{none-read, other-text, same-text}
use Rattle.wb_model_json.proofs.RowsSound.{row-known, row-sound}
use Rattle.wb_model_json.proofs.row_reading.written_row.Goals as goal

pub row_text-requires : goal.row_text-requires
row_text-requires c = row-known c.args.metamodel.now (view c.args.value.now) c.in-Ok.row c.in-Ok.ensures

pub returns-then-eq-clause-row : goal.returns-then-eq-clause-row
returns-then-eq-clause-row c =
    same-text c.args.metamodel.now c.well_formed-2.ensures c.args.text.now (view c.args.value.now) c.requires c.in-Ok.row c.in-Ok.ensures c.as_slice.result.now (c.as_slice.ensures.same ∙ c.in_ok-written-in-Ok.ensures) c.eq.result c.eq.ensures c.if-eq.true
    (row-sound c.args.metamodel.now c.args.text.now (view c.args.value.now) c.in-Ok.row c.requires c.in-Ok.ensures c.row_is_in_range.ensures)

pub returns-in-Ok-clause-none : goal.returns-in-Ok-clause-none
returns-in-Ok-clause-none c = λ none r t.
    other-text c.args.metamodel.now c.well_formed-2.ensures c.args.text.now (view c.args.value.now) c.requires c.in-Ok.row c.in-Ok.ensures c.as_slice.result.now (c.as_slice.ensures.same ∙ c.in_ok-written-in-Ok.ensures) c.eq.result c.eq.ensures c.if-eq.false r t

pub returns-in-Err-At-clause-none : goal.returns-in-Err-At-clause-none
returns-in-Err-At-clause-none c = λ none r t.
    none-read c.args.metamodel.now c.well_formed-2.ensures c.args.text.now (view c.args.value.now) c.requires c.in-Err-At.field-0-0 (rw c.in-Err-At.field-0-is at c.in-Err-At.ensures) r t
