use Rattle.wb_layout.proofs.Maps.{none_is_empty}
use Rattle.wb_layout.proofs.growing.Growing.new.Goals as goal

pub returns : goal.returns
returns c = none_is_empty c.new.result.entries c.new.ensures.empty
