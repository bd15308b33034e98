use Rattle.wb_store.specs.Relinking.{link}
use Rattle.wb_model.specs.Edits.{refusal_of_take, unlink}
use Rattle.wb_model.proofs.EditedLemmas.{told_on}
use Rattle.wb_model.proofs.edits.features.take.Goals as goal

pub returns-in_err-checked_take : goal.returns-in_err-checked_take
returns-in_err-checked_take c =
    let l = link c.args.o c.args.f c.args.value.now in
    told_on (refusal_of_take c.args.store.now l) c.from_residual.result _ (unlink l c.args.store.now) c.args.store.now c.from_residual.ensures.1 c.in_err-checked_take.ensures
