use Rattle.wb_validity.specs.Valid.{IsValid}
use Rattle.wb_model_json.specs.Written.{text_of}
use Rattle.wb_validity.proofs.Ranges.{valid-in_range}
use Rattle.wb_model_json.proofs.SayableModels.{text-spells}
use Rattle.wb_model_json.proofs.WrittenModels.{read-again}
use Rattle.wb_model_json.proofs.laws.texts_of_models_are_read_again.Goals as goal

pub returns : goal.returns
unfolding IsValid
returns c = λ m formed v. let s = valid-in_range m v in read-again m formed v s v (text_of m) (text-spells m formed v s)
