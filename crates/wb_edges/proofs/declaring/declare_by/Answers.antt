use Rattle.std.proofs.Common.{sym}
use Rattle.wb_edges.proofs.Classes.{class_of_candidates}
use Rattle.wb_edges.proofs.declaring.declare_by.Goals as goal

pub declare_with-requires-clause-class : goal.declare_with-requires-clause-class
declare_with-requires-clause-class g c = class_of_candidates c.args.grounds.now.model.now.metamodel c.args.grounds.now.spec.now c.args.number c.in-Some.edge.now c.requires.sound (sym c.in-Some.ensures)
