use Rattle.std.proofs.Common.{◌≡◌, ◌++◌, drop}
use Rattle.std.specs.Prelude.{filter}
use Rattle.std.specs.List.{flat_map}
use Rattle.wb_store.specs.Contents.{is_containment, slot}
use Rattle.wb_store.specs.Cells.{objects_in, content}
use Rattle.wb_store.proofs.store.Store.content.Given as goal

abbrev pub invariant-loop-f : goal.invariant-loop-f
invariant-loop-f l = l.content.items ++ flat_map (λ f. objects_in (slot l.self l.o f)) (filter (is_containment l.self.metamodel) (drop l.f-index l.f-items)) ≡ content l.self l.o
