use Rattle.wb_aql_grammar.proofs.Unique.{never_both}
use Rattle.wb_aql_grammar.proofs.laws.one_refusal.Goals as goal

pub returns : goal.returns
returns c = never_both
