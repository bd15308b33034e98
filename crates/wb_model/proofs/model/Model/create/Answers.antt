use Rattle.std.proofs.Common.{subst}
use Rattle.wb_metamodel.specs.WellFormed.{WellFormed}
use Rattle.wb_model.specs.Edits.{create}
use Rattle.wb_model.proofs.EditedLemmas.{edited_valid}
use Rattle.wb_model.proofs.KeptCreated.{kept_create}
use Rattle.wb_model.proofs.model.Model.create.Goals as goal

pub invariant_of-self : goal.invariant_of-self
invariant_of-self c =
    let m = c.self.inside.store in
    let well = subst WellFormed c.metamodel.ensures c.well_formed-2.ensures in
    edited_valid c.create.result (create m c.args.class c.args.place) m c.create.new.store c.create.ensures c.self.invariant (λ n e. kept_create m n c.args.class c.args.place well c.self.invariant e)
