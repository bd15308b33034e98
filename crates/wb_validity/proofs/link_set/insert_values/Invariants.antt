use Rattle.std.proofs.Common.{◌≡◌, ◌&&◌, ◌||◌, ℕ, drop, eqb}
use Rattle.wb_store.specs.Contents.{has_object}
use Rattle.wb_validity.specs.invariants.LinkSets.{has_link}
use Rattle.wb_validity.proofs.link_set.insert_values.Given as goal

abbrev pub invariant-loop-value : goal.invariant-loop-value
invariant-loop-value l =
    (q g o : ℕ) → (has_link l.links.keys q g o || (eqb q l.p && (eqb g l.f && has_object (drop l.value-index l.values) o)))
    ≡ (has_link l.fn.links.keys q g o || (eqb q l.p && (eqb g l.f && has_object l.values o)))
