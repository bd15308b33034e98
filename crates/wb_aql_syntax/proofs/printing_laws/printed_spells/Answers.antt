use Rattle.wb_aql_syntax.proofs.Readable.{printed_lexes}
use Rattle.wb_aql_syntax.proofs.printing_laws.printed_spells.Goals as goal

pub returns : goal.returns
returns c = printed_lexes
