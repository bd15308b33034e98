use Rattle.wb_doors.proofs.Keeping.{kept_marked, kept_read}
use Rattle.wb_doors.proofs.memory_door.MemoryDoorDoor.read.Goals as goal

pub invariant_of-self : goal.invariant_of-self
invariant_of-self c = kept_marked c.self.inside.coming c.self.inside.last c.self.inside.taken c.mark.new.self c.self.inside.count c.self.inside.sent.items c.mark.ensures c.self.invariant

pub invariant_of-self-in-Bytes : goal.invariant_of-self-in-Bytes
invariant_of-self-in-Bytes c = kept_read c.self.inside.coming c.read-got.new.self c.self.inside.last c.self.inside.taken c.read.new.self c.self.inside.count c.self.inside.sent.items _ c.read-got.ensures.waiting c.read.ensures c.self.invariant
