use Rattle.std.proofs.Common.{sym, subst}
use Rattle.wb_metamodel.specs.invariants.Inherited.{IsHierarchy}
use Rattle.wb_metamodel.proofs.Wholes.{hierarchy-of}
use Rattle.wb_metamodel.proofs.metamodel.MetamodelDuplicate.copy.Goals as goal

pub tables-requires-clause-hierarchy : goal.tables-requires-clause-hierarchy
tables-requires-clause-hierarchy c = subst IsHierarchy (sym c.in_ok-elements.ensures) (hierarchy-of c.self.inside.elements c.self.invariant.well_formed)
