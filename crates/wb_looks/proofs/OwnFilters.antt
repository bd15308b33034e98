-- How many filters a checked viewpoint has.
use Rattle.std.proofs.Common.{◌≡◌, ◌≤◌, true, length}
use Rattle.std.proofs.lemmas.Bool.{and_parts, leb-true}
use Rattle.wb_viewpoint.specs.Limits.{is_small}
use Rattle.wb_viewpoint.specs.declared.content.Content.{Content}
use Rattle.wb_spec_check.specs.Checked.{Specification, IsGood}
use Rattle.wb_looks.proofs.AsInText.{AgreeFilter, filters_agree, same_length}

pub few_filters : (content : Content) → is_small content ≡ true → length content.filters ≤ 64
unfolding is_small
few_filters content small = leb-true _ _ (and_parts _ _ (and_parts _ _ (and_parts _ _ (and_parts _ _ small).0).0).0).1

pub as_many_filters : (spec : Specification) → IsGood spec → length spec.0.filters ≡ length spec.1.filters
as_many_filters spec good = same_length AgreeFilter spec.0.filters spec.1.filters ((filters_agree good.0 spec.0).value spec.1 good.1)
