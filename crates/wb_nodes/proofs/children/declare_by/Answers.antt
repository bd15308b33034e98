use Rattle.std.proofs.Common.{sym}
use Rattle.wb_nodes.proofs.Classes.{node_class}
use Rattle.wb_nodes.proofs.children.declare_by.Goals as goal

pub declare_with-requires-clause-class : goal.declare_with-requires-clause-class
declare_with-requires-clause-class g c = node_class c.args.grounds.now.model.now.metamodel c.args.grounds.now.spec.now c.args.number c.in-Some.node.now c.requires.sound (sym c.in-Some.ensures)
