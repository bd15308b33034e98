use Rattle.std.proofs.Common.{◌≤◌, List, length, subst, sym}
use Rattle.wb_viewpoint.specs.declared.layers.Layer.{Layer}
use Rattle.wb_targets.proofs.Few.{few_layers}
use Rattle.wb_targets.proofs.naming.layers_of.Goals as goal

pub returns-clause-few : goal.returns-clause-few
returns-clause-few c = subst (λ (items : List Layer). length items ≤ 64) (sym c.as_slice.ensures.same) (few_layers c.content.result.now c.content.ensures.small)
