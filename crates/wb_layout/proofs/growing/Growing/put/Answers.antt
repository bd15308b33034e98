use Rattle.std.proofs.Common.{◌≡◌, ◌∙◌}
use Rattle.std.specs.FinMap.{put as put_in}
use Rattle.wb_layout.specs.Orders.{key_cmp}
use Rattle.wb_layout.proofs.Maps.{insert_is_put, put_rises, put_in_range, inserted}
use Rattle.wb_layout.proofs.growing.Growing.put.Goals as goal

pub invariant_of-self-2 : goal.invariant_of-self-2
invariant_of-self-2 c =
    let es = c.self.inside.positions.entries in
    let put : c.insert.new.self.entries ≡ put_in key_cmp c.args.key c.args.at es = c.in_ok-insert.ensures.entries ∙ insert_is_put c.args.key c.args.at es in
    (put_rises es c.insert.new.self.entries c.args.key c.args.at c.self.invariant.0 put, put_in_range es c.insert.new.self.entries c.args.key c.args.at put c.requires c.self.invariant.1)

pub returns-clause-ok : goal.returns-clause-ok
returns-clause-ok c = inserted c.self.inside.positions.entries c.args.self.now c.self.view_is c.self.invariant.0 c.insert.new.self.entries c.args.key c.args.at
    (c.in_ok-insert.ensures.entries ∙ insert_is_put c.args.key c.args.at c.self.inside.positions.entries)
