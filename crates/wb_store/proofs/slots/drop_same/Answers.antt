use Rattle.std.proofs.Common.{◌∙◌, ap, rules, not}
use Rattle.std.specs.Prelude.{filter}
use Rattle.std.proofs.lemmas.Fn.{filter_same}
use Rattle.wb_store.specs.Scalars.{same}
use Rattle.wb_store.proofs.slots.drop_same.Goals as goal

pub returns : goal.returns
returns c =
    c.from_vec.ensures
    ∙ filter_same _ (λ other. not (same other c.args.value.now)) _ (λ x b f' k. search rules) _ _ c.retain.ensures.filtered
    ∙ ap (filter (λ other. not (same other c.args.value.now))) (c.into_vec-kept.ensures ∙ c.replace.ensures.value)
