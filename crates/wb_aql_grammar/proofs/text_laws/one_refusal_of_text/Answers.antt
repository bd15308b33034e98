use Rattle.wb_aql_grammar.proofs.Texts.{text_refusal}
use Rattle.wb_aql_grammar.proofs.text_laws.one_refusal_of_text.Goals as goal

pub returns : goal.returns
returns c = text_refusal
