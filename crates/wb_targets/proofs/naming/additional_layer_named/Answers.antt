use Rattle.std.proofs.Common.{◌≡◌, ◌≤◌, length, arith}
use Rattle.wb_base.specs.Names.{same_name}
use Rattle.wb_viewpoint.specs.declared.layers.Layer.{Layer}
use Rattle.wb_targets.proofs.Few.{few_found}
use Rattle.wb_targets.proofs.naming.additional_layer_named.Goals as goal

pub number-requires : goal.number-requires
number-requires c =
    let few = c.layers_of.ensures.few in
    few_found (λ (it : Layer). same_name it.name c.args.name.now) c.layers_of.result.now c.layer_place.result c.layer_place.ensures (omega (arith, few))
