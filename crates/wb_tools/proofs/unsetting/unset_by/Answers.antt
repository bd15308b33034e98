use Rattle.std.proofs.Common.{sym, ap, subst, ◌∙◌}
use Rattle.wb_store.specs.Contents.{slot}
use Rattle.wb_model.specs.declared.refusals.ModelRefusal.TheVariants.{KindMismatch}
use Rattle.wb_tools.specs.FeatureEdits.{unset_by}
use Rattle.wb_tools.specs.Runs.{run, work, Went}
use Rattle.wb_tools.specs.declared.feature_sorts.FeatureSort.{FeatureSort}
use Rattle.wb_tools.specs.declared.refusals.ToolRefusal.TheVariants.{Model}
use Rattle.wb_tools.proofs.RunLemmas.{run_refuse}
use Rattle.wb_tools.proofs.unsetting.unset_by.Goals as goal

pub returns-in-Single-clause-done : goal.returns-in-Single-clause-done
unfolding unset_by
returns-in-Single-clause-done c =
    λ out. subst (λ (s : FeatureSort). Went (run out (unset_by c.args.place c.args.o c.args.f (slot c.args.model.now c.args.o c.args.f) s) (work c.args.model.now c.args.tally.now)) c.unset_plain.result c.unset_plain.new.model c.unset_plain.new.tally) (sym c.in-Single.is) (c.unset_plain.ensures.done out)

pub returns-in-Many-clause-done : goal.returns-in-Many-clause-done
unfolding unset_by
returns-in-Many-clause-done c =
    λ out. subst (λ (s : FeatureSort). Went (run out (unset_by c.args.place c.args.o c.args.f (slot c.args.model.now c.args.o c.args.f) s) (work c.args.model.now c.args.tally.now)) c.unset_plain-in-Many.result c.unset_plain-in-Many.new.model c.unset_plain-in-Many.new.tally) (sym c.in-Many.is) (c.unset_plain-in-Many.ensures.done out)

pub returns-in-Containment-clause-done : goal.returns-in-Containment-clause-done
unfolding unset_by
returns-in-Containment-clause-done c =
    λ out. subst (λ (s : FeatureSort). Went (run out (unset_by c.args.place c.args.o c.args.f (slot c.args.model.now c.args.o c.args.f) s) (work c.args.model.now c.args.tally.now)) c.remove_content.result c.remove_content.new.model c.remove_content.new.tally) (sym c.in-Containment.is) (c.remove_content.ensures.done out)

pub returns-in-Container-clause-done : goal.returns-in-Container-clause-done
unfolding unset_by
returns-in-Container-clause-done c =
    λ out. ap (λ (s : FeatureSort). run out (unset_by c.args.place c.args.o c.args.f (slot c.args.model.now c.args.o c.args.f) s) (work c.args.model.now c.args.tally.now)) c.in-Container.is ∙ run_refuse out (Model c.args.place KindMismatch) (work c.args.model.now c.args.tally.now)
