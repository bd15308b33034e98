use Rattle.std.proofs.Common.{sym, subst}
use Rattle.wb_model.specs.declared.refusals.ModelRefusal.TheVariants.{KindMismatch}
use Rattle.wb_tools.specs.FeatureEdits.{take_by}
use Rattle.wb_tools.specs.Runs.{run, work, Went}
use Rattle.wb_tools.specs.declared.feature_sorts.FeatureSort.{FeatureSort}
use Rattle.wb_tools.specs.declared.refusals.ToolRefusal.TheVariants.{Model}
use Rattle.wb_tools.proofs.RunLemmas.{refused_as}
use Rattle.wb_tools.proofs.unsetting.take_by.Goals as goal

pub returns-in-Many-clause-done : goal.returns-in-Many-clause-done
unfolding take_by
returns-in-Many-clause-done c =
    λ out. subst (λ (s : FeatureSort). Went (run out (take_by c.args.place c.args.o c.args.f c.args.values.now s) (work c.args.model.now c.args.tally.now)) c.with_values.result c.with_values.new.model c.with_values.new.tally) (sym c.in-Many.is) (c.with_values.ensures.done out)

pub returns-in-Single-clause-done : goal.returns-in-Single-clause-done
unfolding take_by
returns-in-Single-clause-done c =
    λ out. subst (λ (s : FeatureSort). Went (run out (take_by c.args.place c.args.o c.args.f c.args.values.now s) (work c.args.model.now c.args.tally.now)) c.mismatch.result c.args.model.now c.args.tally.now) (sym c.in-Single.is) (refused_as out (Model c.args.place KindMismatch) (work c.args.model.now c.args.tally.now) c.mismatch.result c.args.model.now c.mismatch.ensures)

pub returns-in-Containment-clause-done : goal.returns-in-Containment-clause-done
unfolding take_by
returns-in-Containment-clause-done c =
    λ out. subst (λ (s : FeatureSort). Went (run out (take_by c.args.place c.args.o c.args.f c.args.values.now s) (work c.args.model.now c.args.tally.now)) c.mismatch-in-Containment.result c.args.model.now c.args.tally.now) (sym c.in-Containment.is) (refused_as out (Model c.args.place KindMismatch) (work c.args.model.now c.args.tally.now) c.mismatch-in-Containment.result c.args.model.now c.mismatch-in-Containment.ensures)

pub returns-in-Container-clause-done : goal.returns-in-Container-clause-done
unfolding take_by
returns-in-Container-clause-done c =
    λ out. subst (λ (s : FeatureSort). Went (run out (take_by c.args.place c.args.o c.args.f c.args.values.now s) (work c.args.model.now c.args.tally.now)) c.mismatch-in-Container.result c.args.model.now c.args.tally.now) (sym c.in-Container.is) (refused_as out (Model c.args.place KindMismatch) (work c.args.model.now c.args.tally.now) c.mismatch-in-Container.result c.args.model.now c.mismatch-in-Container.ensures)
