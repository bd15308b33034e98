use Rattle.std.proofs.Common.{length}
use Rattle.wb_tools.proofs.bindings.+put_others.Given as goal

abbrev pub decreases-put_others : goal.decreases-put_others
decreases-put_others l = length l.names.now
