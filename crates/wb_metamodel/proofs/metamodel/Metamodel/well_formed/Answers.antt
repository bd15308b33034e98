use Rattle.std.proofs.Common.{subst}
use Rattle.wb_metamodel.specs.WellFormed.{WellFormed, IsWellFormed}
use Rattle.wb_metamodel.proofs.metamodel.Metamodel.well_formed.Goals as goal

pub returns : goal.returns
unfolding IsWellFormed
returns c = subst WellFormed c.self.view_is c.self.invariant.well_formed
