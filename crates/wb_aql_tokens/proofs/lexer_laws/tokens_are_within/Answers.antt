use Rattle.wb_aql_tokens.proofs.OneLexing.{all_within}
use Rattle.wb_aql_tokens.proofs.lexer_laws.tokens_are_within.Goals as goal

pub returns : goal.returns
returns c = λ offset text tokens starts d. all_within d
