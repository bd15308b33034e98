use Rattle.wb_viewpoint.proofs.Trees.{tree_made}
use Rattle.wb_viewpoint.proofs.operation_reader.Head.operation.Goals as goal

pub returns : goal.returns
returns c = tree_made c.args.number c.args.self.action c.args.inside
