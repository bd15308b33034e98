use Rattle.std.proofs.Common.{◌≡◌, true, sym, subst}
use Rattle.wb_session.specs.States.{AreLawful, State}
use Rattle.wb_targets.specs.Targets.{is_placeable}
use Rattle.wb_session.proofs.Lawful.{placed_lawful}
use Rattle.wb_session.proofs.session.Session.move_node.Goals as goal

pub remarked-requires : goal.remarked-requires
remarked-requires g c =
    let i = c.self.inside in
    let able : is_placeable i.spec c.args.key.now ≡ true = sym c.if-not-is_placeable.ensures in
    subst (λ (s : State). AreLawful s.spec c.in_ok-marks.marks) c.self.view_is
    (subst (AreLawful i.spec) (sym c.in_ok-marks.ensures) (placed_lawful i.spec i.marks c.self.invariant.good.body.lawful c.args.key.now _ able))
