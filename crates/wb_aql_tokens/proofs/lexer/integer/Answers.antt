use Rattle.std.proofs.Common.{◌<◌, sym, subst, ap, ◌∙◌}
use Rattle.std.specs.Str.Parse.{IsNumeral, digits_value}
use Rattle.wb_aql_tokens.specs.Lexes.{largest_integer}
use Rattle.wb_aql_tokens.specs.Lexer.{BeginsWith}
use Rattle.wb_aql_tokens.specs.declared.token.Token.TheVariants.{Integer}
use Rattle.wb_aql_tokens.proofs.Next.{is_numeral, integer_next, integer_none, parsed, unread, one_value}
use Rattle.wb_aql_tokens.proofs.lexer.integer.Goals.{in_default-via-in-Ok+else-value-le-LARGEST_INTEGER, in_default-via-in_default}
use Rattle.wb_aql_tokens.proofs.lexer.integer.Goals as goal

pub returns-in-Ok : goal.returns-in-Ok
returns-in-Ok c =
    let numeral = subst (IsNumeral 10) (sym c.digit_run.ensures.front) (is_numeral c.args.text.now c.requires) in
    let value = parsed c.digit_run.result.0.now numeral c.parse.result c.parse.ensures.value.0 c.in-Ok.value c.in-Ok.is in
    subst (BeginsWith c.args.text.now (Integer c.in-Ok.value)) (sym c.digit_run.ensures.behind)
    (integer_next c.args.text.now c.requires c.in-Ok.value (value ∙ ap (digits_value 10) c.digit_run.ensures.front) c.if-value-le-LARGEST_INTEGER.true)

pub returns-in_default : goal.returns-in_default
returns-in_default c =
    let numeral = subst (IsNumeral 10) (sym c.digit_run.ensures.front) (is_numeral c.args.text.now c.requires) in
    integer_none c.args.text.now c.requires (subst (λ bytes. largest_integer < digits_value 10 bytes) c.digit_run.ensures.front
    (unread c.digit_run.result.0.now numeral c.parse.result c.parse.ensures.value.0 (λ value e. elim c.in_default.branch [
      | in_default-via-in-Ok+else-value-le-LARGEST_INTEGER w ↦ subst (λ v. largest_integer < v) (one_value (sym w.in-Ok.is ∙ e)) w.if-value-le-LARGEST_INTEGER.false
      | in_default-via-in_default w ↦ absurd (w.in_default.not-Ok value e)
    ])))
