use Rattle.std.proofs.Common.{◌≡◌, ◌<◌, true, length, sym, subst}
use Rattle.wb_answers.proofs.CheckedParts.{domain_fits}
use Rattle.wb_spec_check.specs.declared.parts.Parts.{Parts}
use Rattle.wb_validity.specs.Valid.{conforms_to}
use Rattle.wb_session.proofs.First.{found_passes}
use Rattle.wb_session.proofs.session.Session.open.Goals as goal

pub root_element-requires : goal.root_element-requires
root_element-requires g c =
    subst (λ (parts : Parts). parts.domain < length c.args.model.metamodel.classes) (sym c.parts.ensures.same) (domain_fits c.args.model.metamodel c.args.spec c.requires)

pub open_from-requires-clause-root : goal.open_from-requires-clause-root
open_from-requires-clause-root g c =
    subst (λ (parts : Parts). conforms_to c.args.model parts.domain c.in-Some.root ≡ true) c.parts.ensures.same
    (found_passes (conforms_to c.args.model c.parts.result.now.domain) c.args.model.roots c.in-Some.root (sym c.in-Some.ensures))
