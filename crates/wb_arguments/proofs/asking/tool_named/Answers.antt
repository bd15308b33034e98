use Rattle.std.proofs.Common.{◌≡◌, ◌≤◌, length, arith}
use Rattle.wb_base.specs.Names.{same_name}
use Rattle.wb_viewpoint.specs.declared.tools.Tool.{Tool}
use Rattle.wb_targets.proofs.Few.{few_found}
use Rattle.wb_arguments.proofs.asking.tool_named.Goals as goal

pub number-requires : goal.number-requires
number-requires c =
    let few = c.tools_of.ensures.few in
    few_found (λ (it : Tool). same_name it.name c.args.name.now) c.tools_of.result.now c.tool_place.result c.tool_place.ensures (omega (arith, few))
