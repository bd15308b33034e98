use Rattle.std.proofs.Common.{sym, subst}
use Rattle.wb_aql_grammar.specs.invariants.Reading.{IsCalled}
use Rattle.wb_aql_grammar.proofs.Picks.{names_dot}
use Rattle.wb_aql_grammar.proofs.postfix.is_call.Goals as goal

pub returns-in-Dot : goal.returns-in-Dot
returns-in-Dot c = subst (λ k. IsCalled c.is_next.result k c.args.tokens.now) (sym c.in-Dot.is) (names_dot _ _ c.is_next.ensures)
