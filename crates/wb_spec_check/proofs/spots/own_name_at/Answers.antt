use Rattle.wb_spec_check.proofs.Steps.{place_member}
use Rattle.wb_spec_check.proofs.spots.own_name_at.Goals as goal

pub returns : goal.returns
returns c = λ all earlier known is.
    let told = c.name_at.ensures _ (c.own_name.ensures all known) in
    rw is (rw place_member at told)
