use Rattle.wb_aql_tokens.proofs.OneLexing.{each_starts}
use Rattle.wb_aql_tokens.proofs.lexer_laws.each_token_starts.Goals as goal

pub returns : goal.returns
returns c = λ offset text tokens starts d. each_starts d
