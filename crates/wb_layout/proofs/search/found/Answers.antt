use Rattle.std.proofs.Common.{sym, ◌∙◌}
use Rattle.wb_layout.proofs.Searches.{found_at, none_at, none_there}
use Rattle.wb_layout.proofs.search.found.Goals as goal

pub returns-then-is_same : goal.returns-then-is_same
returns-then-is_same c = sym (found_at c.args.key.now c.args.entries.now c.place_of-i.result c.in-Some.p.now c.requires c.place_of-i.ensures.before (sym c.in-Some.ensures) (sym c.is_same.ensures ∙ c.if-is_same.true))

pub returns-else-is_same : goal.returns-else-is_same
returns-else-is_same c = sym (none_at c.args.key.now c.args.entries.now c.place_of-i.result c.in-Some.p.now c.requires c.place_of-i.ensures.before c.place_of-i.ensures.behind (sym c.in-Some.ensures) (sym c.is_same.ensures ∙ c.if-is_same.false))

pub returns-in-None : goal.returns-in-None
returns-in-None c = sym (none_there c.args.key.now c.args.entries.now c.place_of-i.result c.place_of-i.ensures.before (sym c.in-None.ensures))
