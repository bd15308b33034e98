use Rattle.std.proofs.Common.{rules}
use Rattle.std.specs.Cmp.Lexicographic.{nat_list_cmp_total}
use Rattle.std.proofs.lemmas.List.Sorted.{ranks_by, answers_always}
use Rattle.wb_outer.specs.declared.keeper.Row.{Row}
use Rattle.wb_outer.proofs.KeptRows.{IsAscending-sorted}
use Rattle.wb_keepers.proofs.changes.sorted.Goals as goal

pub returns-clause-ascending : goal.returns-clause-ascending
returns-clause-ascending c =
    IsAscending-sorted _ (c.sort_unstable_by.ensures.sorted _ (ranks_by nat_list_cmp_total (λ (row : Row). row.key)) (answers_always _ _ _ (λ f a r g called. search rules)))
