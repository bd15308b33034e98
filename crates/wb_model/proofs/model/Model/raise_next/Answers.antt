use Rattle.std.proofs.Common.{ap, subst, sym, arith}
use Rattle.wb_store.specs.Contents.{Contents}
use Rattle.wb_validity.specs.Valid.{IsValid}
use Rattle.wb_validity.proofs.LaterNext.{valid-later}
use Rattle.wb_model.proofs.model.Model.raise_next.Goals as goal

pub invariant_of-self : goal.invariant_of-self
invariant_of-self c =
    let same = ap (λ (m : Contents). m.next) c.self.view_is in
    subst IsValid (sym c.set_next.ensures) (valid-later c.self.inside.store c.args.next (omega (arith, same, c.requires)) (omega arith) c.self.invariant)
