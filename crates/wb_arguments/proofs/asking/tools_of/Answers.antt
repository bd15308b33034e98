use Rattle.std.proofs.Common.{◌≤◌, List, length, subst, sym}
use Rattle.wb_viewpoint.specs.declared.tools.Tool.{Tool}
use Rattle.wb_arguments.proofs.Tools.{few_tools}
use Rattle.wb_arguments.proofs.asking.tools_of.Goals as goal

pub returns-clause-few : goal.returns-clause-few
returns-clause-few c = subst (λ (items : List Tool). length items ≤ 256) (sym c.as_slice.ensures) (few_tools c.content.result.now c.content.ensures.small)
