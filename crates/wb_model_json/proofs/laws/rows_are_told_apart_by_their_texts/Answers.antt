use Rattle.wb_model_json.proofs.RowsAgain.{one-row}
use Rattle.wb_model_json.proofs.laws.rows_are_told_apart_by_their_texts.Goals as goal

pub returns : goal.returns
returns c = one-row
