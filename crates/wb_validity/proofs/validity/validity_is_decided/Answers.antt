use Rattle.wb_validity.proofs.ValidTest.{is_valid-decides}
use Rattle.wb_validity.proofs.validity.validity_is_decided.Goals as goal

pub returns : goal.returns
returns c = is_valid-decides
