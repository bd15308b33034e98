use Rattle.std.proofs.Common.{◌≤◌, List, length, subst, sym}
use Rattle.wb_viewpoint.specs.declared.filters.Filter.{Filter}
use Rattle.wb_targets.proofs.Few.{few_filters}
use Rattle.wb_targets.proofs.naming.filters_of.Goals as goal

pub returns-clause-few : goal.returns-clause-few
returns-clause-few c = subst (λ (items : List Filter). length items ≤ 64) (sym c.as_slice.ensures) (few_filters c.content.result.now c.content.ensures.small)
