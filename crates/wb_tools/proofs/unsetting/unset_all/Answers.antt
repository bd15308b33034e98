use Rattle.std.proofs.Common.{ap, subst, ◌∙◌}
use Rattle.wb_metamodel.specs.Metamodel.{Metamodel}
use Rattle.wb_store.specs.Contents.{slot}
use Rattle.wb_tools.specs.FeatureEdits.{unset_by, unset_all, sort_of}
use Rattle.wb_tools.specs.Runs.{run, work, Went}
use Rattle.wb_tools.specs.declared.feature_sorts.FeatureSort.{FeatureSort}
use Rattle.wb_tools.proofs.FeatureLemmas.{feature_next, feature_refused}
use Rattle.wb_tools.proofs.unsetting.unset_all.Goals as goal

pub returns-in_err-f-clause-done : goal.returns-in_err-f-clause-done
unfolding unset_all
returns-in_err-f-clause-done c =
    λ out. feature_refused out c.args.place c.args.o c.args.name.now (λ m f. unset_by c.args.place c.args.o f (slot m c.args.o f) (sort_of m.metamodel f)) (work c.args.model.now c.args.tally.now) c.in_err-f.field-0.0 c.from_residual.result c.args.model.now c.in_err-f.ensures.is c.from_residual.ensures.1

pub returns-clause-done : goal.returns-clause-done
unfolding unset_all
returns-clause-done c =
    λ out. feature_next out c.args.place c.args.o c.args.name.now (λ m f. unset_by c.args.place c.args.o f (slot m c.args.o f) (sort_of m.metamodel f)) (work c.args.model.now c.args.tally.now) c.in_ok-f.f c.unset_by.result c.unset_by.new.model c.unset_by.new.tally c.in_ok-f.ensures.is
    (subst (λ (s : FeatureSort). Went (run out (unset_by c.args.place c.args.o c.in_ok-f.f (slot c.args.model.now c.args.o c.in_ok-f.f) s) (work c.args.model.now c.args.tally.now)) c.unset_by.result c.unset_by.new.model c.unset_by.new.tally) (c.sort_of-sort.ensures ∙ ap (λ (mm : Metamodel). sort_of mm c.in_ok-f.f) c.metamodel.ensures) (c.unset_by.ensures.done out))
