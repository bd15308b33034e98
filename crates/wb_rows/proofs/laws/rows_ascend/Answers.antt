use Rattle.std.specs.FinMap.{empty}
use Rattle.wb_rows.specs.States.{listed_rows, rows_of}
use Rattle.wb_rows.specs.Texts.{with_rows}
use Rattle.wb_rows.proofs.Trees.{rows_in_ascend}
use Rattle.wb_rows.proofs.laws.rows_ascend.Goals as goal

pub returns : goal.returns
unfolding rows_of
returns c = λ spec s. rows_in_ascend (with_rows (listed_rows spec s) empty)
