use Rattle.std.proofs.Common.{codes, subst}
use Rattle.wb_base.specs.Answering.{AsDefined}
use Rattle.wb_base.proofs.Answered.{answered_then}
use Rattle.wb_json.specs.Form.{place_of}
use Rattle.wb_json.specs.Place.{at_member}
use Rattle.wb_ecore.specs.Repeats.{unrepeated}
use Rattle.wb_ecore.specs.invariants.NumberedNames.{fresh_in}
use Rattle.wb_ecore.proofs.repeats.enum_part.Goals as goal

pub returns-clause-given : goal.returns-clause-given
returns-clause-given c =
    answered_then place_of (at_member (codes "name") (fresh_in c.args.taken.now c.args.part.now.name)) (λ _. at_member (codes "literals") (unrepeated c.args.part.now.literals)) tt c.names_in.result c.in_ok-take_name.ensures.given
    (subst (λ names. AsDefined place_of (at_member (codes "literals") (unrepeated names)) c.names_in.result) c.as_slice.ensures c.names_in.ensures)
