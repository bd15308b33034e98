use Rattle.wb_aql_grammar.proofs.Texts.{text_no_syntax, text_no_depth}
use Rattle.wb_aql_grammar.proofs.text_laws.spelled_is_not_refused.Goals as goal

pub returns-clause-syntax : goal.returns-clause-syntax
returns-clause-syntax c = text_no_syntax

pub returns-clause-depth : goal.returns-clause-depth
returns-clause-depth c = text_no_depth
