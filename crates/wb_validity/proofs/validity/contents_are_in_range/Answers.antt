use Rattle.wb_validity.proofs.Ranges.{valid-in_range}
use Rattle.wb_validity.proofs.validity.contents_are_in_range.Goals as goal

pub returns : goal.returns
returns c = valid-in_range
