use Rattle.wb_rows.proofs.Trees.{none_is_empty}
use Rattle.wb_rows.proofs.row_map.RowMap.new.Goals as goal

pub returns : goal.returns
returns c = none_is_empty c.new.result.entries c.new.ensures.empty
