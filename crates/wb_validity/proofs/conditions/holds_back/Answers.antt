use Rattle.std.proofs.Common.{◌≡◌, ◌∙◌, Some, subst}
use Rattle.wb_metamodel.specs.Metamodel.{Metamodel, feature_at}
use Rattle.wb_metamodel.specs.WellFormed.{WellFormed}
use Rattle.wb_validity.proofs.Opposed.{link_holds_back}
use Rattle.wb_validity.proofs.conditions.holds_back.Goals as goal

pub returns-in-Some : goal.returns-in-Some
returns-in-Some c =
    let well = subst WellFormed c.metamodel.ensures c.well_formed-2.ensures in
    let at = subst (λ (metamodel : Metamodel). feature_at metamodel c.args.f ≡ Some c.feature.result.now) c.metamodel-2.ensures c.feature.ensures in
    c.contains.ensures ∙ link_holds_back c.args.store.now well c.args.f c.in-Some.g c.feature.result.now at c.in-Some.is c.args.links.now c.requires.knows c.args.o c.args.p
