use Rattle.std.proofs.Common.{◌≡◌, true, refl, sym, subst, ◌∙◌, false}
use Rattle.wb_aql_tokens.specs.Lexes.{is_expression_name, is_reserved}
use Rattle.wb_aql_tokens.specs.Lexer.{BeginsWith}
use Rattle.wb_aql_tokens.specs.declared.token.Token.TheVariants.{Sign, Name}
use Rattle.wb_aql_tokens.proofs.Next.{word_next, is_a_name}
use Rattle.wb_aql_tokens.proofs.lexer.word.Goals as goal

pub returns-in-Some : goal.returns-in-Some
returns-in-Some c =
    subst (BeginsWith c.args.text.now (Sign c.in-Some.sign)) (sym c.name_run.ensures.behind)
    (word_next c.args.text.now _ refl c.requires (Sign c.in-Some.sign) (sym c.name_run.ensures.front ∙ c.in-Some.ensures) refl)

pub returns-in_ok-from_str-in-None : goal.returns-in_ok-from_str-in-None
returns-in_ok-from_str-in-None c =
    let name = c.in_ok-from_str-in-None.field-0 in
    let same = c.in_ok-from_str-in-None.ensures ∙ c.name_run.ensures.front in
    let free = subst (λ bytes. is_reserved bytes ≡ false) c.name_run.ensures.front c.in-None.ensures in
    let named = subst (λ bytes. is_expression_name bytes ≡ true) (sym same) (is_a_name c.args.text.now _ refl c.requires free) in
    subst (BeginsWith c.args.text.now (Name name)) (sym c.name_run.ensures.behind) (word_next c.args.text.now _ refl c.requires (Name name) (sym same, named) named)
