use Rattle.wb_model.proofs.EditLaws.{opposites-kept}
use Rattle.wb_model.proofs.edits.laws.edits_keep_opposites.Goals as goal

pub returns : goal.returns
returns c = opposites-kept
