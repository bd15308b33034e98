use Rattle.std.proofs.Common.{◌++◌, string_bytes, sym, ap, subst}
use Rattle.wb_store.specs.declared.scalars.Scalar.TheVariants.{Text}
use Rattle.wb_aql_values.specs.declared.values.Value.TheVariants.{One}
use Rattle.wb_aql_values.specs.Readings.{contents, done, given, ◌>>=◌}
use Rattle.wb_aql_values.specs.Runs.{run}
use Rattle.wb_aql_values.specs.TextForms.{Extends, full_form, made}
use Rattle.wb_aql_values.proofs.FormLemmas.{none_of, some_of}
use Rattle.wb_aql_services.specs.Texts.{concat}
use Rattle.wb_aql_services.proofs.texts.concat.Goals as goal

pub returns-then-branch : goal.returns-then-branch
unfolding concat run ◌>>=◌
returns-then-branch c =
    let whole = string_bytes c.args.form ++ full_form c.args.model.now.metamodel c.args.value.now in
    let fits = subst (λ mm. Extends c.in_ok-push_form.field-0 (string_bytes c.args.form ++ full_form mm c.args.value.now) (string_bytes c.push_form.new.form)) c.metamodel.ensures c.in_ok-push_form.ensures in
    ap (λ text. run (given (made text) >>= λ bytes. done (One (Text bytes))) (contents c.args.model.now) c.args.reads.now)
    (sym (some_of whole (string_bytes c.push_form.new.form) c.from_string.result c.in_ok-push_form.field-0 c.if-branch.true fits c.from_string.ensures))

pub returns-else-branch : goal.returns-else-branch
unfolding concat run ◌>>=◌
returns-else-branch c =
    let whole = string_bytes c.args.form ++ full_form c.args.model.now.metamodel c.args.value.now in
    let fits = subst (λ mm. Extends c.in_ok-push_form.field-0 (string_bytes c.args.form ++ full_form mm c.args.value.now) (string_bytes c.push_form.new.form)) c.metamodel.ensures c.in_ok-push_form.ensures in
    ap (λ text. run (given (made text) >>= λ bytes. done (One (Text bytes))) (contents c.args.model.now) c.args.reads.now)
    (sym (none_of whole (string_bytes c.push_form.new.form) c.in_ok-push_form.field-0 c.if-branch.false fits))
