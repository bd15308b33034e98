use Rattle.std.proofs.Common.{◌≡◌, ◌++◌, string_bytes, subst}
use Rattle.wb_aql_values.specs.TextForms.{Extends, full_form, joined_forms}
use Rattle.wb_aql_values.proofs.FormLemmas.{none_of, none_of_longer, some_of, written_whole}
use Rattle.wb_aql_values.proofs.text_forms.join_forms.Goals as goal

pub returns-then-not-branch : goal.returns-then-not-branch
unfolding joined_forms
returns-then-not-branch c =
    let full = full_form c.args.metamodel.now c.args.a.now in
    none_of_longer full (full_form c.args.metamodel.now c.args.b.now) (string_bytes c.push_form.new.form) c.in_ok-push_form.field-0 c.if-not-branch.true
    (subst (λ s. Extends c.in_ok-push_form.field-0 (s ++ full) (string_bytes c.push_form.new.form)) c.new-form.ensures.bytes c.in_ok-push_form.ensures)

pub returns-then-not-branch-2 : goal.returns-then-not-branch-2
unfolding joined_forms
returns-then-not-branch-2 c =
    let full = full_form c.args.metamodel.now c.args.a.now in
    let more = full_form c.args.metamodel.now c.args.b.now in
    let first : string_bytes c.push_form.new.form ≡ full = written_whole full (string_bytes c.push_form.new.form) c.in_ok-push_form.field-0 c.if-not-branch.false
    (subst (λ s. Extends c.in_ok-push_form.field-0 (s ++ full) (string_bytes c.push_form.new.form)) c.new-form.ensures.bytes c.in_ok-push_form.ensures) in
    none_of (full ++ more) (string_bytes c.push_form-2.new.form) c.in_ok-push_form-2.field-0 c.if-not-branch-2.true
    (subst (λ s. Extends c.in_ok-push_form-2.field-0 (s ++ more) (string_bytes c.push_form-2.new.form)) first c.in_ok-push_form-2.ensures)

pub returns : goal.returns
unfolding joined_forms
returns c =
    let full = full_form c.args.metamodel.now c.args.a.now in
    let more = full_form c.args.metamodel.now c.args.b.now in
    let first : string_bytes c.push_form.new.form ≡ full = written_whole full (string_bytes c.push_form.new.form) c.in_ok-push_form.field-0 c.if-not-branch.false
    (subst (λ s. Extends c.in_ok-push_form.field-0 (s ++ full) (string_bytes c.push_form.new.form)) c.new-form.ensures.bytes c.in_ok-push_form.ensures) in
    some_of (full ++ more) (string_bytes c.push_form-2.new.form) c.from_string.result c.in_ok-push_form-2.field-0 c.if-not-branch-2.false
    (subst (λ s. Extends c.in_ok-push_form-2.field-0 (s ++ more) (string_bytes c.push_form-2.new.form)) first c.in_ok-push_form-2.ensures)
    c.from_string.ensures
