use Rattle.wb_aql_tokens.proofs.Next.{long_next, short_next, sign_none}
use Rattle.wb_aql_tokens.proofs.lexer.sign.Goals as goal

pub returns-in-Some : goal.returns-in-Some
returns-in-Some c = long_next c.args.text.now c.requires _ _ c.in-Some.ensures

pub returns-in-Some-short_sign : goal.returns-in-Some-short_sign
returns-in-Some-short_sign c = short_next c.args.text.now c.requires c.in-None.ensures _ _ c.in-Some-short_sign.ensures

pub returns-in-None-short_sign : goal.returns-in-None-short_sign
returns-in-None-short_sign c = sign_none c.args.text.now c.requires c.in-None.ensures c.in-None-short_sign.ensures
