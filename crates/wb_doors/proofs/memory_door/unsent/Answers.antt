use Rattle.std.proofs.Common.{[], List, ℕ, sym, subst, rules}
use Rattle.std.specs.Global.{Vec}
use Rattle.wb_doors.specs.MemoryDoors.{AreSent}
use Rattle.wb_doors.proofs.Keeping.{AreSent-room}
use Rattle.wb_doors.proofs.memory_door.unsent.Goals as goal

pub loop-made-preserved : goal.loop-made-preserved
loop-made-preserved c = record {
  count = search rules;
  unsent = subst (λ (sent : List (Vec ℕ)). AreSent sent []) (sym c.in_ok-push.ensures.items) (AreSent-room c.loop-made.sent.items c.new.result c.new.ensures.items c.loop-made.invariant.unsent);
}
