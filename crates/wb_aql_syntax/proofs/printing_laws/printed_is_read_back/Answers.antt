use Rattle.wb_aql_syntax.proofs.ReadBack.{read_back}
use Rattle.wb_aql_syntax.proofs.printing_laws.printed_is_read_back.Goals as goal

pub returns : goal.returns
returns c = read_back
