use Rattle.std.proofs.Common.{◌∙◌, ap, sym}
use Rattle.wb_store.specs.declared.scalars.Place.TheVariants.{In}
use Rattle.wb_model.specs.Edits.{unless, refusals_of_place, refusal_of_create}
use Rattle.wb_model.specs.EditChecks.{refusals_of_new}
use Rattle.wb_model.proofs.EditedLemmas.{unless_first}
use Rattle.wb_model.proofs.edits.places.checked_create.Goals as goal

pub returns-in_err-checked_place : goal.returns-in_err-checked_place
returns-in_err-checked_place c =
    let m = c.args.store.now in
    unless_first c.from_residual.result _ (refusals_of_place m c.args.class (In c.in-In.p c.in-In.f)) (refusals_of_new m c.args.class) c.from_residual.ensures.1 c.in_err-checked_place.ensures
    ∙ ap (λ place. unless (refusal_of_create m c.args.class place) (tt {0})) (sym c.in-In.is)
