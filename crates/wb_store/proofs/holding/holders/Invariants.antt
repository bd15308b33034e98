use Rattle.std.proofs.Common.{take}
use Rattle.wb_store.specs.invariants.Links.{AreHolders}
use Rattle.wb_store.proofs.holding.holders.Given as goal

abbrev pub invariant-loop-link : goal.invariant-loop-link
invariant-loop-link l = AreHolders l.records (take l.link-index l.links) l.first.items l.twice.items
