use Rattle.std.proofs.Common.{List, ℕ, ap, subst, ◌∙◌}
use Rattle.std.specs.Prelude.{Ok}
use Rattle.wb_store.specs.Cells.{objects_in}
use Rattle.wb_store.specs.Contents.{slot}
use Rattle.wb_model.specs.declared.edits.edit.Edit.TheVariants.{Remove}
use Rattle.wb_tools.specs.Doings.{each}
use Rattle.wb_tools.specs.FeatureEdits.{edit_by}
use Rattle.wb_tools.specs.Runs.{run, work, Went}
use Rattle.wb_tools.proofs.RunLemmas.{no_memory}
use Rattle.wb_tools.proofs.unsetting.remove_content.Goals as goal

pub returns-in_err-objects-clause-done : goal.returns-in_err-objects-clause-done
returns-in_err-objects-clause-done c =
    λ out. no_memory out (each (λ p. edit_by c.args.place (Ok (Remove p))) (objects_in (slot c.args.model.now c.args.o c.args.f))) (work c.args.model.now c.args.tally.now) c.from_residual.result c.args.model.now c.from_residual.ensures.1

pub returns-clause-done : goal.returns-clause-done
returns-clause-done c =
    λ out. subst (λ (xs : List ℕ). Went (run out (each (λ p. edit_by c.args.place (Ok (Remove p))) xs) (work c.args.model.now c.args.tally.now)) c.remove_each.result c.remove_each.new.model c.remove_each.new.tally) (c.as_slice.ensures.value ∙ (c.in_ok-objects.ensures ∙ ap objects_in c.get.ensures)) (c.remove_each.ensures.done out)
