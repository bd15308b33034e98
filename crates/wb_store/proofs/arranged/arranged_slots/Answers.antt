use Rattle.std.proofs.Common.{sym, subst, map, List, rules}
use Rattle.std.proofs.lemmas.List.Sorted.{IsNonDecreasingBy-from_sort, answers_always}
use Rattle.std.specs.List.Sorted.{IsPermutation}
use Rattle.wb_store.specs.declared.records.Slot.{Slot}
use Rattle.wb_store.specs.invariants.Arranged.{AreArranged}
use Rattle.wb_store.specs.Parts.{slot_of}
use Rattle.wb_store.specs.Records.{feature_of}
use Rattle.wb_store.proofs.Members.{rises_sorted}
use Rattle.wb_store.proofs.arranged.arranged_slots.Goals as goal

pub returns : goal.returns
returns c =
    let same = subst (λ (slots : List Slot). IsPermutation slots c.sort_by_key.new.self.items) c.in_ok-slots.ensures c.sort_by_key.ensures.permutation in
    let ascending = IsNonDecreasingBy-from_sort feature_of _ (c.in_ok-sort_by_key.ensures.sorted feature_of (answers_always _ _ _ (λ f a r g h. search rules))) in
    subst (AreArranged (map slot_of c.args.parts)) (sym c.from_vec.ensures) (record { same = same; rise = rises_sorted feature_of _ _ same ascending c.requires })
