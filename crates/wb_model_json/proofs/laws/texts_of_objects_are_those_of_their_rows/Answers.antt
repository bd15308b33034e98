use Rattle.wb_validity.specs.Valid.{IsValid}
use Rattle.wb_validity.proofs.Ranges.{valid-in_range}
use Rattle.wb_model_json.proofs.WrittenRows.{text-of-row}
use Rattle.wb_model_json.proofs.laws.texts_of_objects_are_those_of_their_rows.Goals as goal

pub returns : goal.returns
unfolding IsValid
returns c = λ m formed v o class live. text-of-row m formed v (valid-in_range m v) o class live
