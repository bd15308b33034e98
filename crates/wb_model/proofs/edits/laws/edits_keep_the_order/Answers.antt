use Rattle.wb_model.proofs.EditLaws.{order-kept}
use Rattle.wb_model.proofs.edits.laws.edits_keep_the_order.Goals as goal

pub returns : goal.returns
returns c = order-kept
