-- What is true of the fields of every metamodel.
use Rattle.wb_metamodel.specs.declared.metamodel.Metamodel.TheInside.{Inside}
use Rattle.wb_metamodel.specs.invariants.Tables.{TablesOf}
use Rattle.wb_metamodel.specs.WellFormed.{IsWellFormed}

pub record HasTables (m : Inside) : Type 0 where
  pub well_formed : IsWellFormed m.elements
  pub tables : TablesOf m.elements m.tables
