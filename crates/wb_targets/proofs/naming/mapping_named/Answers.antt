use Rattle.std.proofs.Common.{◌≡◌, ◌≤◌, length, arith}
use Rattle.wb_base.specs.Names.{same_name}
use Rattle.wb_viewpoint.specs.declared.mappings.Mapping.{Mapping}
use Rattle.wb_targets.proofs.Few.{few_found}
use Rattle.wb_targets.proofs.naming.mapping_named.Goals as goal

pub number-requires : goal.number-requires
number-requires c =
    let few = c.mappings_of.ensures.few in
    few_found (λ (it : Mapping). same_name it.name c.args.name.now) c.mappings_of.result.now c.mapping_place.result c.mapping_place.ensures (omega (arith, few))
