use Rattle.std.proofs.Common.{◌≤◌, length, arith}
use Rattle.wb_metamodel.specs.WellFormed.{IsWellFormed}
use Rattle.wb_metamodel.proofs.metamodel.Metamodel.enum_count.Goals as goal

pub overflow_cast-result : goal.overflow_cast-result
unfolding IsWellFormed
overflow_cast-result c =
    let within_limits : length c.self.inside.elements.enumerations ≤ _ = c.self.invariant.well_formed.few_enumerations in
    omega arith
