use Rattle.std.proofs.Common.{arith}
use Rattle.wb_spec_check.proofs.Joined.{gathers_on}
use Rattle.wb_spec_check.proofs.Steps.{place_item}
use Rattle.wb_spec_check.proofs.filters.filters_at.Goals as goal

pub loop-number-preserved : goal.loop-number-preserved
loop-number-preserved c = gathers_on c.index-filters-number.result _ c.loop-number.invariant (omega arith) c.index-filters-number.is (rw place_item at c.in_ok-filter.ensures) c.in_ok-gather.ensures
