use Rattle.wb_spec_check.specs.Mappings.{looks_at}
use Rattle.wb_spec_check.proofs.Joined.{joined2}
use Rattle.wb_spec_check.proofs.Steps.{place_member}
use Rattle.wb_spec_check.proofs.looks.looks_at.Goals as goal

pub returns : goal.returns
unfolding looks_at
returns c = joined2 _ _ (rw place_member at c.in_ok-label.ensures) (rw (place_member, c.as_slice.ensures) at c.in_ok-styles.ensures) c.looks_with.ensures
