use Rattle.std.proofs.Common.{sym, ap, subst, ◌∙◌}
use Rattle.wb_model.specs.declared.refusals.ModelRefusal.TheVariants.{KindMismatch}
use Rattle.wb_tools.specs.FeatureEdits.{set_by}
use Rattle.wb_tools.specs.Runs.{run, work, Went}
use Rattle.wb_tools.specs.declared.feature_sorts.FeatureSort.{FeatureSort}
use Rattle.wb_tools.specs.declared.refusals.ToolRefusal.TheVariants.{Model}
use Rattle.wb_tools.proofs.RunLemmas.{run_refuse}
use Rattle.wb_tools.proofs.setting.set_by.Goals as goal

pub returns-in-Single-clause-done : goal.returns-in-Single-clause-done
unfolding set_by
returns-in-Single-clause-done c =
    λ out. subst (λ (s : FeatureSort). Went (run out (set_by c.args.place c.args.o c.args.f c.args.values.now s) (work c.args.model.now c.args.tally.now)) c.set_one.result c.set_one.new.model c.set_one.new.tally) (sym c.in-Single.is) (c.set_one.ensures.done out)

pub returns-in-Many-clause-done : goal.returns-in-Many-clause-done
unfolding set_by
returns-in-Many-clause-done c =
    λ out. subst (λ (s : FeatureSort). Went (run out (set_by c.args.place c.args.o c.args.f c.args.values.now s) (work c.args.model.now c.args.tally.now)) c.with_values.result c.with_values.new.model c.with_values.new.tally) (sym c.in-Many.is) (c.with_values.ensures.done out)

pub returns-in-Containment-clause-done : goal.returns-in-Containment-clause-done
unfolding set_by
returns-in-Containment-clause-done c =
    λ out. subst (λ (s : FeatureSort). Went (run out (set_by c.args.place c.args.o c.args.f c.args.values.now s) (work c.args.model.now c.args.tally.now)) c.with_values-in-Containment.result c.with_values-in-Containment.new.model c.with_values-in-Containment.new.tally) (sym c.in-Containment.is) (c.with_values-in-Containment.ensures.done out)

pub returns-in-Container-clause-done : goal.returns-in-Container-clause-done
unfolding set_by
returns-in-Container-clause-done c =
    λ out. ap (λ (s : FeatureSort). run out (set_by c.args.place c.args.o c.args.f c.args.values.now s) (work c.args.model.now c.args.tally.now)) c.in-Container.is ∙ run_refuse out (Model c.args.place KindMismatch) (work c.args.model.now c.args.tally.now)
