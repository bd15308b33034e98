use Rattle.std.proofs.Common.{ap}
use Rattle.wb_aql_syntax.specs.Printed.{printed}
use Rattle.wb_aql_syntax.proofs.ReadBack.{read_back}
use Rattle.wb_aql_grammar.proofs.Texts.{text_tree}
use Rattle.wb_aql_check.specs.Names.{first_wrong, knows}
use Rattle.wb_aql_check.proofs.laws.printed_expressions_are_checked_alike.Goals as goal

pub returns-clause-first : goal.returns-clause-first
returns-clause-first c mm scope x read is spelled = ap (first_wrong mm scope) (text_tree (printed x) read x spelled (read_back x is))

pub returns-clause-known : goal.returns-clause-known
returns-clause-known c mm scope x read is spelled = ap (knows mm scope) (text_tree (printed x) read x spelled (read_back x is))
