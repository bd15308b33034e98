use Rattle.wb_spec_check.specs.Mappings.{shown_at, shown_with}
use Rattle.wb_spec_check.proofs.Joined.{joined2}
use Rattle.wb_spec_check.proofs.Steps.{place_member}
use Rattle.wb_spec_check.proofs.nodes.shown_at.Goals as goal

pub returns : goal.returns
unfolding shown_at
returns c =
    joined2 shown_with c.shown_with.result (rw (place_member, c.metamodel.ensures) at c.in_ok-precondition.ensures) (simp place_member at c.in_ok-layer.ensures) c.shown_with.ensures
