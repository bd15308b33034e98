use Rattle.wb_program.specs.Taking.{taken, used}
use Rattle.wb_program.proofs.StepLemmas.{went_asking}
use Rattle.wb_program.proofs.files.take_file.Goals as goal

pub returns : goal.returns
unfolding taken
returns g c = went_asking c.use_taken.result c.args.name.now (used c.args.name.now) c.in_ok-taken.taken _ _ c.in_ok-taken.ensures.gives c.use_taken.ensures
