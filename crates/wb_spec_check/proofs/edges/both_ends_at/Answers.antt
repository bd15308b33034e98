use Rattle.wb_spec_check.specs.Mappings.{both_ends_at, ends_with}
use Rattle.wb_spec_check.proofs.Joined.{joined2}
use Rattle.wb_spec_check.proofs.Steps.{place_member}
use Rattle.wb_spec_check.proofs.edges.both_ends_at.Goals as goal

pub returns : goal.returns
unfolding both_ends_at
returns c =
    joined2 ends_with c.ends_with.result (rw (place_member, c.as_slice.ensures) at c.in_ok-sources.ensures) (rw (place_member, c.as_slice-2.ensures) at c.in_ok-targets.ensures) c.ends_with.ensures
