use Rattle.wb_aql_syntax.proofs.CanonicalSpells.{spelled}
use Rattle.wb_aql_syntax.proofs.printing_laws.canonical_spells.Goals as goal

pub returns : goal.returns
returns c = spelled
