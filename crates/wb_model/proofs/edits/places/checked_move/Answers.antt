use Rattle.std.proofs.Common.{◌∷◌, []}
use Rattle.wb_model.specs.declared.refusals.ModelRefusal.TheVariants.{ContainmentCycle}
use Rattle.wb_store.specs.Cells.{tree}
use Rattle.wb_store.specs.Relinking.{is_among}
use Rattle.wb_model.specs.EditChecks.{refusals_before_cycle}
use Rattle.wb_model.proofs.EditedLemmas.{tells_first}
use Rattle.wb_model.proofs.edits.places.checked_move.Goals as goal

pub returns-in_err-checked_room : goal.returns-in_err-checked_room
returns-in_err-checked_room c =
    let m = c.args.store.now in
    tells_first c.from_residual.result _ (refusals_before_cycle m c.args.o c.args.p c.args.f) ((is_among (c.args.o ∷ tree m c.args.o) c.args.p, ContainmentCycle) ∷ []) c.from_residual.ensures.1 c.in_err-checked_room.ensures
