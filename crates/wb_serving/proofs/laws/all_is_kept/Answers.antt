use Rattle.wb_serving.proofs.Counting.{none_unkept}
use Rattle.wb_serving.proofs.laws.all_is_kept.Goals as goal

pub returns : goal.returns
returns g c = none_unkept g.M.Machine.law
