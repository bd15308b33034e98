use Rattle.std.proofs.Common.{◌≡◌, ◌≤◌, length, arith}
use Rattle.wb_base.specs.Names.{same_name}
use Rattle.wb_viewpoint.specs.declared.filters.Filter.{Filter}
use Rattle.wb_targets.proofs.Few.{few_found}
use Rattle.wb_targets.proofs.naming.filter_named.Goals as goal

pub number-requires : goal.number-requires
number-requires c =
    let few = c.filters_of.ensures.few in
    few_found (λ (it : Filter). same_name it.name c.args.name.now) c.filters_of.result.now c.filter_place.result c.filter_place.ensures (omega (arith, few))
