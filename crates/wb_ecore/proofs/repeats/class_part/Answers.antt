use Rattle.std.proofs.Common.{◌≡◌, Ok, codes, subst}
use Rattle.wb_base.specs.Answering.{AsDefined}
use Rattle.wb_base.specs.Results.{◌>>=◌}
use Rattle.wb_base.proofs.Answered.{answered_then}
use Rattle.wb_json.specs.Form.{place_of}
use Rattle.wb_json.specs.Place.{at_member}
use Rattle.wb_ecore.specs.Repeats.{unrepeated, unrepeated_features}
use Rattle.wb_ecore.specs.invariants.NumberedNames.{fresh_in}
use Rattle.wb_ecore.proofs.repeats.class_part.Goals as goal

pub returns-clause-given : goal.returns-clause-given
returns-clause-given c =
    let features = at_member (codes "features") (unrepeated_features c.args.part.now.features) in
    let supertypes = at_member (codes "supertypes") (unrepeated c.args.part.now.supertypes) in
    answered_then place_of (at_member (codes "name") (fresh_in c.args.taken.now c.args.part.now.name)) (λ _. supertypes >>= (λ _. features)) tt c.features_in.result c.in_ok-take_name.ensures.given
    (answered_then place_of supertypes (λ _. features) tt c.features_in.result
    (subst (λ names. at_member (codes "supertypes") (unrepeated names) ≡ Ok tt) c.as_slice.ensures c.in_ok-names_in.ensures)
    (subst (λ parts. AsDefined place_of (at_member (codes "features") (unrepeated_features parts)) c.features_in.result) c.as_slice-2.ensures c.features_in.ensures))
