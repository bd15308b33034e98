use Rattle.std.proofs.Common.{◌≡◌, drop}
use Rattle.wb_validity.specs.Valid.{differ}
use Rattle.wb_validity.proofs.Differing.{differ_from}
use Rattle.wb_validity.proofs.conditions.differ.Given as goal

abbrev pub invariant-loop-value : goal.invariant-loop-value
invariant-loop-value l = differ_from (λ k. k.now) l.seen.keys (drop l.value-index l.values) ≡ differ l.values
