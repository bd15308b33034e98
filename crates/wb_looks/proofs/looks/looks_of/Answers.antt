use Rattle.std.proofs.Common.{◌<◌, ◌∙◌, List, length, get_or, ap, sym, subst}
use Rattle.wb_viewpoint.specs.declared.content.Content.{Content}
use Rattle.wb_viewpoint.specs.declared.mappings.Mapping.{Mapping}
use Rattle.wb_looks.proofs.OwnMapping.{few_styles, in_text, own_looks, small_styles}
use Rattle.wb_looks.proofs.looks.looks_of.Goals as goal

pub bounds-mappings-mapping_of_key : goal.bounds-mappings-mapping_of_key
bounds-mappings-mapping_of_key c =
    let mappings = c.as_slice-mappings.ensures ∙ ap (λ (content : Content). content.mappings) (c.content.ensures.same ∙ c.viewpoint.ensures.same) in
    subst (λ (ms : List Mapping). c.mapping_of_key.result < length ms) (sym mappings) (in_text c.args.spec.now c.args.key.now c.mapping_of_key.result c.viewpoint.ensures.good c.requires c.mapping_of_key.ensures)

pub returns-clause-same : goal.returns-clause-same
returns-clause-same c =
    let mappings = c.as_slice-mappings.ensures ∙ ap (λ (content : Content). content.mappings) (c.content.ensures.same ∙ c.viewpoint.ensures.same) in
    let n = c.mapping_of_key.result in
    let d = c.index-mappings-mapping_of_key.result in
    ap (λ (ms : List Mapping). (get_or ms n d).looks) mappings
    ∙ own_looks c.args.spec.now c.args.key.now n d c.mapping_of_key.ensures (in_text c.args.spec.now c.args.key.now n c.viewpoint.ensures.good c.requires c.mapping_of_key.ensures)

pub returns-clause-few : goal.returns-clause-few
returns-clause-few c =
    let mappings = c.as_slice-mappings.ensures ∙ ap (λ (content : Content). content.mappings) (c.content.ensures.same ∙ c.viewpoint.ensures.same) in
    few_styles c.as_slice-mappings.result.now c.mapping_of_key.result c.index-mappings-mapping_of_key.result
    (subst (λ (ms : List Mapping). c.mapping_of_key.result < length ms) (sym mappings) (in_text c.args.spec.now c.args.key.now c.mapping_of_key.result c.viewpoint.ensures.good c.requires c.mapping_of_key.ensures))
    (small_styles c.content.result.now c.as_slice-mappings.result.now c.as_slice-mappings.ensures c.content.ensures.small)
