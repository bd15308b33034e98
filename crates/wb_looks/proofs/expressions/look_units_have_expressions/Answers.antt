use Rattle.wb_looks.proofs.Expressed.{all_expressed}
use Rattle.wb_looks.proofs.expressions.look_units_have_expressions.Goals as goal

pub returns : goal.returns
returns c = all_expressed c.args.spec.now c.args.key.now c.viewpoint-viewpoint.ensures.good c.requires
