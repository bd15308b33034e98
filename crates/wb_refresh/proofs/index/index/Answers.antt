use Rattle.wb_refresh.proofs.RowLaws.{indexed_more}
use Rattle.wb_refresh.proofs.index.index.Goals as goal

pub loop-unit-preserved-in_ok-insert : goal.loop-unit-preserved-in_ok-insert
loop-unit-preserved-in_ok-insert c = indexed_more c.loop-unit.yielded c.in-Some.unit c.in-Some.outcome c.loop-unit.index.entries c.insert.new.self.entries c.in_ok-insert.ensures.updates.0 c.loop-unit.invariant

pub loop-unit-preserved : goal.loop-unit-preserved
loop-unit-preserved c = indexed_more c.loop-unit.yielded c.in-Some.unit c.in-Some.outcome c.loop-unit.index.entries c.insert.new.self.entries c.in_ok-insert.ensures.updates.0 c.loop-unit.invariant
