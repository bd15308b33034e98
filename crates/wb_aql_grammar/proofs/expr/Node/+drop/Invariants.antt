use Rattle.std.proofs.Common.{◌≤◌}
use Rattle.wb_aql_grammar.proofs.expr.Node.TheLaws.{the_size}
use Rattle.wb_aql_grammar.proofs.expr.Node.+drop.Given as goal

-- what is left is no larger than the whole
abbrev pub invariant-loop-self : goal.invariant-loop-self
invariant-loop-self l = the_size l.self ≤ the_size l.fn.self
