use Rattle.std.proofs.Common.{sym, subst}
use Rattle.wb_aql_tokens.specs.Lexes.{NoToken}
use Rattle.wb_aql_tokens.proofs.Spellings.{no_token}
use Rattle.wb_aql_tokens.proofs.lexer.next_token.Goals as goal

pub returns-in-None : goal.returns-in-None
returns-in-None c = subst NoToken (sym c.in-None.ensures) no_token
