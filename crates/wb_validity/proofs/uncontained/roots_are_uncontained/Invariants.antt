use Rattle.std.proofs.Common.{take}
use Rattle.wb_validity.proofs.RootLemmas.{Seen}
use Rattle.wb_validity.proofs.uncontained.roots_are_uncontained.Given as goal

abbrev pub invariant-loop-root : goal.invariant-loop-root
invariant-loop-root l = Seen l.records l.holders (take l.root-index l.root-items) l.seen.items
