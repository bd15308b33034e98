use Rattle.std.proofs.Common.{subst}
use Rattle.wb_metamodel.specs.WellFormed.{WellFormed}
use Rattle.wb_model.specs.Edits.{take_out}
use Rattle.wb_model.proofs.EditedLemmas.{edited_valid}
use Rattle.wb_model.proofs.KeptLinks.{kept_take}
use Rattle.wb_model.proofs.model.Model.take.Goals as goal

pub invariant_of-self : goal.invariant_of-self
invariant_of-self c =
    let m = c.self.inside.store in
    let well = subst WellFormed c.metamodel.ensures c.well_formed-2.ensures in
    edited_valid c.take.result (take_out m c.args.o c.args.f c.args.value.now) m c.take.new.store c.take.ensures c.self.invariant (λ n e. kept_take m n c.args.o c.args.f c.args.value.now well c.self.invariant e)
