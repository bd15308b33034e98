use Rattle.std.proofs.Common.{◌∙◌, length, ap, arith}
use Rattle.wb_viewpoint.specs.declared.content.Content.{Content}
use Rattle.wb_looks.proofs.OwnFilters.{as_many_filters, few_filters}
use Rattle.wb_looks.proofs.filters.filter_count.Goals as goal

pub overflow_cast-result : goal.overflow_cast-result
overflow_cast-result c =
    let few = few_filters c.content.result.now c.content.ensures.small in
    let count = c.len.ensures in
    omega (arith, few, count)

pub returns : goal.returns
returns c =
    c.len.ensures
    ∙ (ap (λ (content : Content). length content.filters) (c.content.ensures.same ∙ c.viewpoint.ensures.same) ∙ as_many_filters c.args.spec.now c.viewpoint.ensures.good)
