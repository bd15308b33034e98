use Rattle.std.proofs.Common.{length}
use Rattle.wb_aql_tokens.proofs.Lexing.{Lexing}
use Rattle.wb_aql_tokens.proofs.lexer.tokens_of.Given as goal

abbrev pub invariant-loop-rest : goal.invariant-loop-rest
invariant-loop-rest l = Lexing l.text l.rest l.tokens l.starts

abbrev pub decreases-loop-rest : goal.decreases-loop-rest
decreases-loop-rest l = length l.rest
