use Rattle.std.proofs.Common.{subst}
use Rattle.wb_metamodel.specs.WellFormed.{WellFormed}
use Rattle.wb_model.specs.Edits.{move_to}
use Rattle.wb_model.proofs.EditedLemmas.{edited_valid}
use Rattle.wb_model.proofs.KeptMoved.{kept_move}
use Rattle.wb_model.proofs.model.Model.move_to.Goals as goal

pub invariant_of-self : goal.invariant_of-self
invariant_of-self c =
    let m = c.self.inside.store in
    let well = subst WellFormed c.metamodel.ensures c.well_formed-2.ensures in
    edited_valid c.move_to.result (move_to m c.args.o c.args.p c.args.f) m c.move_to.new.store c.move_to.ensures c.self.invariant (λ n e. kept_move m n c.args.o c.args.p c.args.f well c.self.invariant e)
