use Rattle.std.proofs.Common.{arith}
use Rattle.wb_spec_check.proofs.Joined.{gathers_on}
use Rattle.wb_spec_check.proofs.Steps.{place_item}
use Rattle.wb_spec_check.proofs.tools.each_tool_at.Goals as goal

pub loop-number-preserved : goal.loop-number-preserved
loop-number-preserved c = gathers_on c.index-tools-number.result _ c.loop-number.invariant (omega arith) c.index-tools-number.is (rw place_item at c.in_ok-tool.ensures) c.in_ok-gather.ensures
