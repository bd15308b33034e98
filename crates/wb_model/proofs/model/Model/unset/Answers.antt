use Rattle.std.proofs.Common.{subst}
use Rattle.wb_metamodel.specs.WellFormed.{WellFormed}
use Rattle.wb_model.specs.Edits.{unset}
use Rattle.wb_model.proofs.EditedLemmas.{edited_valid}
use Rattle.wb_model.proofs.KeptLinks.{kept_unset}
use Rattle.wb_model.proofs.model.Model.unset.Goals as goal

pub invariant_of-self : goal.invariant_of-self
invariant_of-self c =
    let m = c.self.inside.store in
    let well = subst WellFormed c.metamodel.ensures c.well_formed-2.ensures in
    edited_valid c.unset.result (unset m c.args.o c.args.f) m c.unset.new.store c.unset.ensures c.self.invariant (λ n e. kept_unset m n c.args.o c.args.f well c.self.invariant e)
