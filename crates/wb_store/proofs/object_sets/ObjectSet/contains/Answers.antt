use Rattle.std.proofs.Common.{ap, sym, subst, ◌∙◌, List, ℕ}
use Rattle.std.specs.Ordering.{nat_cmp}
use Rattle.std.specs.List.Sorted.{IsSorted}
use Rattle.wb_store.specs.Relinking.{is_among}
use Rattle.wb_store.proofs.ObjectSets.{found_among}
use Rattle.wb_store.proofs.object_sets.ObjectSet.contains.Goals as goal

pub returns : goal.returns
returns c =
    let facts = c.binary_search.ensures in
    let ascending = subst (IsSorted nat_cmp) (sym c.deref.ensures.value) c.self.invariant in
    c.is_ok.ensures.value
    ∙ found_among c.deref.result.now c.args.o c.binary_search.result ascending facts.bound facts.position
    ∙ ap (λ (os : List ℕ). is_among os c.args.o) (c.deref.ensures.value ∙ c.self.view_is)
