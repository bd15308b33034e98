use Rattle.std.proofs.Common.{◌++◌, string_bytes, subst}
use Rattle.wb_aql_values.specs.TextForms.{Extends, full_form, text_form}
use Rattle.wb_aql_values.proofs.FormLemmas.{none_of, some_of}
use Rattle.wb_aql_values.proofs.text_forms.text_form.Goals as goal

pub returns-then-not-branch : goal.returns-then-not-branch
unfolding text_form
returns-then-not-branch c =
    let full = full_form c.args.metamodel.now c.args.value.now in
    none_of full (string_bytes c.push_form.new.form) c.in_ok-push_form.field-0 c.if-not-branch.true
    (subst (λ s. Extends c.in_ok-push_form.field-0 (s ++ full) (string_bytes c.push_form.new.form)) c.new-form.ensures.bytes c.in_ok-push_form.ensures)

pub returns : goal.returns
unfolding text_form
returns c =
    let full = full_form c.args.metamodel.now c.args.value.now in
    some_of full (string_bytes c.push_form.new.form) c.from_string.result c.in_ok-push_form.field-0 c.if-not-branch.false
    (subst (λ s. Extends c.in_ok-push_form.field-0 (s ++ full) (string_bytes c.push_form.new.form)) c.new-form.ensures.bytes c.in_ok-push_form.ensures)
    c.from_string.ensures
