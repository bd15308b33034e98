use Rattle.std.proofs.Common.{◌∷◌, sym, subst}
use Rattle.std.specs.Str.{byte}
use Rattle.wb_aql_tokens.specs.Lexer.{BeginsWith}
use Rattle.wb_aql_tokens.specs.declared.token.Token.TheVariants.{Quoted}
use Rattle.wb_aql_tokens.proofs.Pieces.{quoted_next, unquotable_none, unended_none}
use Rattle.wb_aql_tokens.proofs.lexer.quoted.Goals as goal

pub returns-in-Some-quotable_text : goal.returns-in-Some-quotable_text
returns-in-Some-quotable_text c =
    subst (λ value. BeginsWith (byte "'" ∷ c.args.inside.now) (Quoted value) c.in-Some.rest.now) (sym c.in-Some-quotable_text.ensures.0)
    (quoted_next c.args.inside.now _ _ c.in_ok-value.ensures c.in-Some.rest.now c.in-Some.ensures c.in-Some-quotable_text.ensures.1)

pub returns-in-None-quotable_text : goal.returns-in-None-quotable_text
returns-in-None-quotable_text c = unquotable_none c.args.inside.now _ _ c.in_ok-value.ensures c.in-None-quotable_text.ensures

pub returns-in-None : goal.returns-in-None
returns-in-None c = unended_none c.args.inside.now _ _ c.in_ok-value.ensures c.in-None.ensures
