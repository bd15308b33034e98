use Rattle.wb_serving.proofs.Counting.{none_faulty}
use Rattle.wb_serving.proofs.laws.all_is_written.Goals as goal

pub returns : goal.returns
returns g c = none_faulty g.M.Machine.law
