use Rattle.std.proofs.Common.{◌≡◌, IfOk, ap, subst, sym, ◌∙◌}
use Rattle.std.specs.FinMap.{empty}
use Rattle.wb_viewpoint.specs.declared.content.Content.{Content}
use Rattle.wb_rows.specs.Rows.{object_rows}
use Rattle.wb_rows.specs.States.{head_rows, listed_rows, mark_rows, rows_of, state_of}
use Rattle.wb_rows.specs.Texts.{Texts, rows_in, with_rows}
use Rattle.wb_rows.proofs.Steps.{three_on}
use Rattle.wb_rows.proofs.Trees.{are_ascending}
use Rattle.wb_rows.proofs.writing.write_rows.Goals as goal

pub returns-clause-rows : goal.returns-clause-rows
unfolding rows_of
returns-clause-rows c =
    let spec = c.args.spec.now in
    let s = state_of c.args.state.now in
    let heads = head_rows spec s in
    let objects = object_rows s.model in
    let marks = mark_rows spec.0 s.marks in
    let all : c.put_marks.new.rows ≡ with_rows (listed_rows spec s) empty =
    c.in_ok-put_marks.ensures
    ∙ ap (λ (content : Content). with_rows (mark_rows content s.marks) c.put_objects.new.rows) (c.content.ensures.same ∙ c.viewpoint.ensures.same)
    ∙ ap (with_rows marks) (c.in_ok-put_objects.ensures ∙ ap (with_rows objects) (c.in_ok-put_heads.ensures ∙ ap (with_rows heads) c.new-rows.ensures))
    ∙ sym (three_on heads objects marks empty) in
    subst (λ (m : Texts). IfOk c.into_rows.result (λ rows. rows ≡ rows_in m)) all c.into_rows.ensures

pub returns-clause-ascend : goal.returns-clause-ascend
returns-clause-ascend c = are_ascending c.into_rows.result c.put_marks.new.rows c.into_rows.ensures
