use Rattle.std.proofs.Common.{◌≡◌, length, map, ap, ◌∙◌, subst, arith}
use Rattle.std.specs.List.{count_by}
use Rattle.wb_metamodel.specs.invariants.Inherited.{FilledTo}
use Rattle.wb_metamodel.proofs.Inherit.{ranks-are, table-filled}
use Rattle.wb_metamodel.proofs.inherited.features_table.Goals as goal

pub fill_rank-requires-clause-ranks : goal.fill_rank-requires-clause-ranks
fill_rank-requires-clause-ranks c =
    c.as_slice.ensures.value ∙ c.in_ok-ranks.ensures ∙ ap (map (λ row. count_by (λ reached. reached) row)) c.requires.below ∙ ranks-are c.args.elements.now

pub returns : goal.returns
returns c =
    let mm = c.args.elements.now in
    let end : c.loop-rank.rank ≡ length mm.classes = (let n = c.len-rank-end.ensures in omega arith) in
    c.from_vec.ensures ∙ table-filled mm c.loop-rank.table.items c.requires.hierarchy (subst (FilledTo mm c.loop-rank.table.items) end c.loop-rank.invariant)
