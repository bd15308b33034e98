use Rattle.wb_spec_check.specs.Mappings.{edge_at, edge_with}
use Rattle.wb_spec_check.proofs.Joined.{joined6}
use Rattle.wb_spec_check.proofs.Steps.{place_member}
use Rattle.wb_spec_check.proofs.edges.edge_at.Goals as goal

pub returns : goal.returns
unfolding edge_at
returns c =
    let source_finder = simp place_member at c.in_ok-source_finder.ensures in
    let target_finder = rw (place_member, c.metamodel.ensures, c.self_alone-2.ensures) at c.in_ok-target_finder.ensures in
    joined6 edge_with _ c.in_ok-objects.ensures (rw c.self_alone.ensures at c.in_ok-shown.ensures) c.in_ok-ends.ensures source_finder target_finder c.in_ok-looks.ensures c.edge_with.ensures
