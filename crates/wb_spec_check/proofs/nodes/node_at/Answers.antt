use Rattle.wb_spec_check.specs.Mappings.{node_at, node_with}
use Rattle.wb_spec_check.proofs.Joined.{joined4}
use Rattle.wb_spec_check.proofs.nodes.node_at.Goals as goal

pub returns-clause-reports : goal.returns-clause-reports
unfolding node_at
returns-clause-reports c = joined4 (node_with c.args.node.now) _ c.in_ok-objects.ensures (rw c.with_container.ensures at c.in_ok-shown.ensures) c.in_ok-nested.ensures.reports c.in_ok-looks.ensures c.node_with.ensures
