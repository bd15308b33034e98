use Rattle.std.proofs.Common.{sym, subst}
use Rattle.wb_session.specs.States.{AreLawful, State}
use Rattle.wb_session.proofs.Lawful.{filter_lawful}
use Rattle.wb_session.proofs.session.Session.try_filter.Goals as goal

pub remarked-requires : goal.remarked-requires
remarked-requires g c =
    let i = c.self.inside in
    subst (λ (s : State). AreLawful s.spec c.in_ok-marks.marks) c.self.view_is
    (subst (AreLawful i.spec) (sym c.in_ok-marks.ensures) (filter_lawful i.spec i.marks c.self.invariant.good.body.lawful c.in-Some.number c.args.active))
