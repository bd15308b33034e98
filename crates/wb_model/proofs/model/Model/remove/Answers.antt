use Rattle.std.proofs.Common.{subst}
use Rattle.wb_metamodel.specs.WellFormed.{WellFormed}
use Rattle.wb_model.specs.Edits.{remove}
use Rattle.wb_model.proofs.EditedLemmas.{edited_valid}
use Rattle.wb_model.proofs.KeptRemoved.{kept_remove}
use Rattle.wb_model.proofs.model.Model.remove.Goals as goal

pub invariant_of-self : goal.invariant_of-self
invariant_of-self c =
    let m = c.self.inside.store in
    let well = subst WellFormed c.metamodel.ensures c.well_formed-2.ensures in
    edited_valid c.remove.result (remove m c.args.o) m c.remove.new.store c.remove.ensures c.self.invariant (λ n e. kept_remove m n c.args.o well c.self.invariant e)
