use Rattle.std.proofs.Common.{[]}
use Rattle.wb_spec_check.proofs.checking.top_at.Goals as goal

pub returns-clause-takes : goal.returns-clause-takes
returns-clause-takes c = rw (c.as_slice-list.ensures, c.content.ensures) at (c.children_at.ensures.takes [] c.requires)
