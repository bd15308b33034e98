use Rattle.std.proofs.Common.{rules}
use Rattle.std.proofs.lemmas.List.Sorted.{IsNonDecreasingBy-from_sort, answers_always}
use Rattle.wb_store.specs.Records.{id_of}
use Rattle.wb_store.proofs.arranged.sorted_records.Goals as goal

pub returns : goal.returns
returns c = record {
  arranged = c.in_ok-records.records.items;
  each = c.in_ok-records.ensures;
  same = c.sort_by_key.ensures.permutation;
  ascend = IsNonDecreasingBy-from_sort id_of _ (c.in_ok-sort_by_key.ensures.sorted id_of (answers_always _ _ _ (λ f a r g h. search rules)));
}
