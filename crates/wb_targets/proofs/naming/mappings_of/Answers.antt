use Rattle.std.proofs.Common.{◌≤◌, List, length, subst, sym}
use Rattle.wb_viewpoint.specs.declared.mappings.Mapping.{Mapping}
use Rattle.wb_targets.proofs.Few.{few_mappings}
use Rattle.wb_targets.proofs.naming.mappings_of.Goals as goal

pub returns-clause-few : goal.returns-clause-few
returns-clause-few c = subst (λ (items : List Mapping). length items ≤ 256) (sym c.as_slice.ensures) (few_mappings c.content.result.now c.content.ensures.small)
