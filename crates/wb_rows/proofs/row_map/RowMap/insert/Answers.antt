use Rattle.wb_rows.proofs.Trees.{inserted, stays_sorted}
use Rattle.wb_rows.proofs.row_map.RowMap.insert.Goals as goal

pub invariant_of-self-2 : goal.invariant_of-self-2
invariant_of-self-2 c = stays_sorted c.self.inside.texts.entries c.insert.new.self.entries c.args.key c.args.text c.self.invariant c.in_ok-insert.ensures.entries

pub returns : goal.returns
returns c = inserted c.self.inside.texts.entries c.insert.new.self.entries c.args.key c.args.text c.self.invariant c.in_ok-insert.ensures.entries c.args.self.now c.self.view_is
