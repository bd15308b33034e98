use Rattle.wb_aql_grammar.proofs.Texts.{text_tree}
use Rattle.wb_aql_grammar.proofs.text_laws.one_tree_of_text.Goals as goal

pub returns : goal.returns
returns c = text_tree
