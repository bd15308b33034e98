use Rattle.std.proofs.Common.{sym}
use Rattle.wb_aql_check.proofs.Rows.{no_text_is_none}
use Rattle.wb_aql_check.proofs.services.service_named.Goals as goal

pub returns-in-Err : goal.returns-in-Err
returns-in-Err c = sym (no_text_is_none _ _ c.in-Err.ensures.cases.0)
