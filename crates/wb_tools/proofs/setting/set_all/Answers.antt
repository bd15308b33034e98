use Rattle.std.proofs.Common.{ap, subst, ◌∙◌}
use Rattle.wb_metamodel.specs.Metamodel.{Metamodel}
use Rattle.wb_tools.specs.FeatureEdits.{set_by, set_all, sort_of}
use Rattle.wb_tools.specs.Runs.{run, work, Went}
use Rattle.wb_tools.specs.declared.feature_sorts.FeatureSort.{FeatureSort}
use Rattle.wb_tools.proofs.FeatureLemmas.{feature_next, feature_refused}
use Rattle.wb_tools.proofs.setting.set_all.Goals as goal

pub returns-in_err-f-clause-done : goal.returns-in_err-f-clause-done
unfolding set_all
returns-in_err-f-clause-done c =
    λ out. feature_refused out c.args.place c.args.o c.args.name.now (λ m f. set_by c.args.place c.args.o f c.args.values.now (sort_of m.metamodel f)) (work c.args.model.now c.args.tally.now) c.in_err-f.field-0.0 c.from_residual.result c.args.model.now c.in_err-f.ensures.is c.from_residual.ensures.1

pub returns-clause-done : goal.returns-clause-done
unfolding set_all
returns-clause-done c =
    λ out. feature_next out c.args.place c.args.o c.args.name.now (λ m f. set_by c.args.place c.args.o f c.args.values.now (sort_of m.metamodel f)) (work c.args.model.now c.args.tally.now) c.in_ok-f.f c.set_by.result c.set_by.new.model c.set_by.new.tally c.in_ok-f.ensures.is
    (subst (λ (s : FeatureSort). Went (run out (set_by c.args.place c.args.o c.in_ok-f.f c.args.values.now s) (work c.args.model.now c.args.tally.now)) c.set_by.result c.set_by.new.model c.set_by.new.tally) (c.sort_of-sort.ensures ∙ ap (λ (mm : Metamodel). sort_of mm c.in_ok-f.f) c.metamodel.ensures) (c.set_by.ensures.done out))
