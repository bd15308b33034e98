use Rattle.std.proofs.Common.{sym, subst}
use Rattle.wb_validity.specs.Valid.{IsValid}
use Rattle.wb_model.proofs.EmptyContents.{empty-IsValid}
use Rattle.wb_model.proofs.model.empty.Goals as goal

pub invariant_of-result : goal.invariant_of-result
invariant_of-result c = subst IsValid (sym c.new-store.ensures) (empty-IsValid c.args.metamodel)
