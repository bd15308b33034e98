use Rattle.wb_aql_tokens.proofs.OneLexing.{one_text}
use Rattle.wb_aql_tokens.proofs.lexer_laws.one_lexing.Goals as goal

pub returns : goal.returns
returns c = λ offset text tokens others starts places d e. one_text d others places e
