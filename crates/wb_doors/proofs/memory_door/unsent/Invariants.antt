-- Nothing is kept of those so far.
use Rattle.std.proofs.Common.{◌≡◌, [], vec_len}
use Rattle.wb_doors.specs.MemoryDoors.{AreSent}
use Rattle.wb_doors.proofs.memory_door.unsent.Given as goal

abbrev pub invariant-loop-made : goal.invariant-loop-made
invariant-loop-made l = record {
  count : vec_len l.sent ≡ l._made;
  unsent : AreSent l.sent.items [];
}
