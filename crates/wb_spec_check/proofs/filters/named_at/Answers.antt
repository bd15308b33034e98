use Rattle.std.proofs.Common.{arith}
use Rattle.wb_spec_check.proofs.Joined.{gathers_on}
use Rattle.wb_spec_check.proofs.Steps.{place_item}
use Rattle.wb_spec_check.proofs.filters.named_at.Goals as goal

pub loop-number-preserved : goal.loop-number-preserved
loop-number-preserved c =
    let finds = rw c.as_str-text.ensures.same at c.mapping.ensures in
    let told = rw c.as_str-text.ensures.same at c.in_ok-mapping.ensures in
    gathers_on c.index-list-number.result _ c.loop-number.invariant (omega arith) c.index-list-number.is (rw place_item at (told _ finds)) c.in_ok-gather.ensures
