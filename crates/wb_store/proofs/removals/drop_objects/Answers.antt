use Rattle.std.proofs.Common.{◌∙◌, ap, rules, ℕ}
use Rattle.std.specs.Prelude.{filter, not}
use Rattle.std.proofs.lemmas.Fn.{filter_same}
use Rattle.wb_store.specs.Relinking.{is_among}
use Rattle.wb_store.proofs.removals.drop_objects.Goals as goal

pub returns : goal.returns
returns c =
    let test = λ (o : ℕ). not (is_among c.args.dead.now o) in
    c.from_vec.ensures ∙ filter_same _ test _ (λ x b f' k. search rules) _ _ c.retain.ensures.filtered ∙ ap (filter test) (c.into_vec-kept.ensures ∙ c.replace.ensures.value)
