use Rattle.std.proofs.Common.{◌∙◌}
use Rattle.wb_declared.proofs.OneKey.{found_among}
use Rattle.wb_declared.proofs.standing.is_one_of.Goals as goal

pub returns-in-Some : goal.returns-in-Some
returns-in-Some c = rw c.in-Some.is (c.contains.ensures.value ∙ found_among c.args.nodes.now c.in-Some.key)
