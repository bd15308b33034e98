use Rattle.std.proofs.Common.{◌∙◌, ap, arith, sym, length}
use Rattle.wb_viewpoint.specs.Limits.{is_small}
use Rattle.wb_spec_check.specs.declared.parts.Parts.{Parts}
use Rattle.wb_edges.proofs.Numbers.{few_mappings}
use Rattle.wb_edges.proofs.grounds.count_of_mappings.Goals as goal

pub overflow_cast-result : goal.overflow_cast-result
overflow_cast-result c =
    let small = ap is_small (sym (c.content-content.ensures.same ∙ c.viewpoint.ensures.same)) ∙ c.content-content.ensures.small in
    let few = few_mappings c.args.spec.now c.viewpoint.ensures.good small in
    let same = ap (λ (parts : Parts). length parts.mappings) c.parts.ensures.same in
    omega (arith, few, same)
