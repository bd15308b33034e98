use Rattle.std.proofs.Common.{◌∙◌, ap, rules, ℕ, eqb, List}
use Rattle.std.specs.Prelude.{filter, not}
use Rattle.std.proofs.lemmas.Fn.{filter_same}
use Rattle.wb_store.specs.Relinking.{without_root}
use Rattle.wb_store.specs.Records.{contents_of}
use Rattle.wb_store.proofs.store.Store.drop_root.Goals as goal

pub returns : goal.returns
returns c =
    let s = c.self.inside in
    let roots = c.from_vec.ensures
    ∙ filter_same _ (λ (root : ℕ). not (eqb root c.args.o)) _ (λ x b f' k. search rules) _ _ c.retain.ensures.filtered
    ∙ ap (filter (λ (root : ℕ). not (eqb root c.args.o))) (c.into_vec-kept.ensures ∙ c.replace.ensures.value) in
    ap (λ (roots : List ℕ). contents_of s.metamodel s.next s.records.items roots) roots ∙ ap (without_root c.args.o) c.self.view_is
