use Rattle.wb_model.proofs.EditLaws.{trees-within}
use Rattle.wb_model.proofs.edits.laws.trees_are_what_is_within.Goals as goal

pub returns : goal.returns
returns c = trees-within
