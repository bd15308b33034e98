use Rattle.std.proofs.Common.{◌≡◌, Some, None, Ok, string_bytes, sym, ap, ◌∙◌}
use Rattle.std.specs.Prelude.{nat_eq}
use Rattle.std.specs.List.{starts_with}
use Rattle.wb_aql_values.specs.Readings.{contents, done, given, ◌>>=◌}
use Rattle.wb_aql_values.specs.Runs.{run}
use Rattle.wb_aql_values.specs.TextForms.{made, text_form}
use Rattle.wb_aql_values.specs.Values.{flag}
use Rattle.wb_aql_services.specs.Texts.{begins}
use Rattle.wb_aql_services.proofs.texts.begins.Goals as goal

pub returns-in-Some : goal.returns-in-Some
unfolding begins run ◌>>=◌
returns-in-Some c =
    let text : text_form c.args.model.now.metamodel c.args.value.now ≡ Some c.in-Some.start = ap (λ mm. text_form mm c.args.value.now) (sym c.metamodel.ensures) ∙ (sym c.in_ok-start.ensures ∙ c.in-Some.is) in
    ap (λ t. run (given (made t) >>= λ bytes. done (flag (starts_with nat_eq (string_bytes c.args.form) bytes))) (contents c.args.model.now) c.args.reads.now) text
    ∙ ap (λ b. record { gave = Ok (flag b); reads = c.args.reads.now }) (sym c.starts_with.ensures)
    ∙ ap (λ v. record { gave = Ok v; reads = c.args.reads.now }) (sym c.flag.ensures)

pub returns : goal.returns
unfolding begins run ◌>>=◌
returns c =
    let text : text_form c.args.model.now.metamodel c.args.value.now ≡ None = ap (λ mm. text_form mm c.args.value.now) (sym c.metamodel.ensures) ∙ (sym c.in_ok-start.ensures ∙ c.in-None.is) in
    ap (λ t. run (given (made t) >>= λ bytes. done (flag (starts_with nat_eq (string_bytes c.args.form) bytes))) (contents c.args.model.now) c.args.reads.now) text
