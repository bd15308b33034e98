use Rattle.std.proofs.Common.{sym}
use Rattle.wb_nodes.proofs.Classes.{node_class}
use Rattle.wb_declared.proofs.standing.would_stand.Goals as goal

pub is_admitted-requires : goal.is_admitted-requires
is_admitted-requires g c = node_class c.args.model.now.metamodel c.args.spec.now c.args.own.mapping c.in-Some.node.now c.requires (sym c.in-Some.ensures)
