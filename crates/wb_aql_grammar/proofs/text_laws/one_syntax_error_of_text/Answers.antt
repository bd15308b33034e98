use Rattle.wb_aql_grammar.proofs.Texts.{text_syntax}
use Rattle.wb_aql_grammar.proofs.text_laws.one_syntax_error_of_text.Goals as goal

pub returns : goal.returns
returns c = text_syntax
