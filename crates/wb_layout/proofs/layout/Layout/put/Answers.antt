use Rattle.wb_layout.proofs.Maps.{put_rises, put_in_range, inserted}
use Rattle.wb_layout.proofs.layout.Layout.put.Goals as goal

pub invariant_of-self-2 : goal.invariant_of-self-2
invariant_of-self-2 c =
    let es = c.self.inside.positions.items in
    let fs = c.put.new.entries.items in
    (put_rises es fs c.args.key c.args.at c.self.invariant.0 c.in_ok-put.ensures.ok, put_in_range es fs c.args.key c.args.at c.in_ok-put.ensures.ok c.requires c.self.invariant.1)

pub returns-clause-ok : goal.returns-clause-ok
returns-clause-ok c = inserted c.self.inside.positions.items c.args.self.now c.self.view_is c.self.invariant.0 c.put.new.entries.items c.args.key c.args.at c.in_ok-put.ensures.ok
