use Rattle.std.proofs.Common.{◌≡◌, ◌++◌, [], get_or, eqb, take, sym, ap, ◌∙◌, arith}
use Rattle.std.specs.List.{flat_map}
use Rattle.std.proofs.lemmas.Bool.{eq-eqb}
use Rattle.std.proofs.lemmas.List.{get_or_default}
use Rattle.std.proofs.lemmas.List.Folds.{list_any_at}
use Rattle.wb_metamodel.proofs.Inherit.{flat-more}
use Rattle.wb_metamodel.proofs.inherited.of_supertypes.Goals as goal

pub bounds-table-s-inside : goal.bounds-table-s-inside
bounds-table-s-inside c =
    let i = c.loop-supertype.supertype-index in
    c.requires c.s.inside.0 (list_any_at (eqb c.s.inside.0) c.args.supertypes.now i c.supertype-item.result (omega arith) (eq-eqb _ _ (c.s.view_is ∙ c.supertype-item.is)))

pub loop-supertype-preserved : goal.loop-supertype-preserved
loop-supertype-preserved c =
    let i = c.loop-supertype.supertype-index in
    let table = c.args.table.now in
    let supers = c.args.supertypes.now in
    let item = c.supertype-item.result in
    let within = c.requires c.s.inside.0 (list_any_at (eqb c.s.inside.0) supers i item (omega arith) (eq-eqb _ _ (c.s.view_is ∙ c.supertype-item.is))) in
    let row : c.as_slice.result.now ≡ get_or table item [] = c.as_slice.ensures ∙ c.index-table-s.is ∙ get_or_default table c.s.inside.0 c.index-table-s.result [] within ∙ ap (λ k. get_or table k []) c.s.view_is in
    c.in_ok-extend_from_slice.ensures.items
    ∙ ap (λ a. a ++ c.as_slice.result.now) c.loop-supertype.invariant
    ∙ ap (λ r. flat_map (λ s. get_or table s []) (take i supers) ++ r) row
    ∙ sym (flat-more (λ s. get_or table s []) supers i item (omega arith) c.supertype-item.is)
