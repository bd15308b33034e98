use Rattle.std.proofs.Common.{◌≡◌, true, sym, subst}
use Rattle.wb_targets.specs.Targets.{is_unsynchronised}
use Rattle.wb_session.specs.States.{AreLawful, State}
use Rattle.wb_session.proofs.Lawful.{by_hand_child, shown_lawful}
use Rattle.wb_session.proofs.session.Session.show_candidate.Goals as goal

pub remarked-requires : goal.remarked-requires
remarked-requires g c =
    let i = c.self.inside in
    let by_hand = subst (λ (s : State). is_unsynchronised s.spec c.args.mapping ≡ true) (sym c.self.view_is) c.requires.by_hand in
    subst (λ (s : State). AreLawful s.spec c.in_ok-marks.marks) c.self.view_is
    (subst (AreLawful i.spec) (sym c.in_ok-marks.ensures)
    (shown_lawful i.spec i.marks c.self.invariant.good.body.lawful c.args.key.now (by_hand_child i.spec c.args.path.now c.args.mapping c.args.object c.args.key.now c.requires.key by_hand)))
