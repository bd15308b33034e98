use Rattle.wb_aql_tokens.proofs.Apart.{spelled_behind_space}
use Rattle.wb_aql_tokens.proofs.lexer_laws.token_stands_behind_space.Goals as goal

pub returns : goal.returns
returns c = spelled_behind_space
