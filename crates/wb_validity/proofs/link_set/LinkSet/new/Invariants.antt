use Rattle.std.proofs.Common.{◌≡◌, ◌||◌, ℕ, drop}
use Rattle.std.specs.List.{list_any}
use Rattle.wb_validity.specs.invariants.LinkSets.{has_link, record_has}
use Rattle.wb_validity.proofs.link_set.LinkSet.new.Given as goal

abbrev pub invariant-loop-record : goal.invariant-loop-record
invariant-loop-record l =
    (q g o : ℕ) → (has_link l.links.keys q g o || list_any (record_has l.store.metamodel q g o) (drop l.record-index l.record-items))
    ≡ list_any (record_has l.store.metamodel q g o) l.record-items
