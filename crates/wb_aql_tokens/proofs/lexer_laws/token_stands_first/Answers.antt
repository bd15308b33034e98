use Rattle.wb_aql_tokens.proofs.Apart.{spelled_first}
use Rattle.wb_aql_tokens.proofs.lexer_laws.token_stands_first.Goals as goal

pub returns : goal.returns
returns c = spelled_first
