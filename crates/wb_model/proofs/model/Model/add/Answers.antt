use Rattle.std.proofs.Common.{subst}
use Rattle.wb_metamodel.specs.WellFormed.{WellFormed}
use Rattle.wb_model.specs.Edits.{add}
use Rattle.wb_model.proofs.EditedLemmas.{edited_valid}
use Rattle.wb_model.proofs.KeptLinks.{kept_add}
use Rattle.wb_model.proofs.model.Model.add.Goals as goal

pub invariant_of-self : goal.invariant_of-self
invariant_of-self c =
    let m = c.self.inside.store in
    let well = subst WellFormed c.metamodel.ensures c.well_formed-2.ensures in
    edited_valid c.add.result (add m c.args.o c.args.f c.args.value) m c.add.new.store c.add.ensures c.self.invariant (λ n e. kept_add m n c.args.o c.args.f c.args.value well c.self.invariant e)
