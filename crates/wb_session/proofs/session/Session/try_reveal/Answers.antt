use Rattle.std.proofs.Common.{sym, subst}
use Rattle.wb_session.specs.States.{AreLawful, State}
use Rattle.wb_session.proofs.Lawful.{revealed_lawful}
use Rattle.wb_session.proofs.session.Session.try_reveal.Goals as goal

pub remarked-requires : goal.remarked-requires
remarked-requires g c =
    let i = c.self.inside in
    subst (λ (s : State). AreLawful s.spec c.in_ok-marks.marks) c.self.view_is
    (subst (AreLawful i.spec) (sym c.in_ok-marks.ensures) (revealed_lawful i.spec i.marks c.self.invariant.good.body.lawful c.args.key.now))
