use Rattle.wb_layout.proofs.Maps.{none_is_empty}
use Rattle.wb_layout.proofs.layout.Layout.new.Goals as goal

pub returns : goal.returns
returns c = none_is_empty c.new.result.items c.new.ensures.items
