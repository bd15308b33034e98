use Rattle.std.proofs.Common.{◌∙◌, ap}
use Rattle.wb_doors.specs.MemoryDoors.{MemoryDoorState}
use Rattle.wb_doors.proofs.Keeping.{kept_write, kept_refused}
use Rattle.wb_doors.proofs.memory_door.MemoryDoorDoor.write.Goals as goal

pub invariant_of-self : goal.invariant_of-self
invariant_of-self c =
    kept_write c.self.inside.coming c.self.inside.last c.self.inside.taken c.write.new.self c.self.inside.count c.self.inside.sent.items c.index_mut.result.now c.append-wrote.new.sent c.args.piece.now c.append-wrote.result c.in-Done.is (ap (λ (d : MemoryDoorState). d.last) c.self.view_is ∙ c.requires) c.write.ensures c.index_mut.ensures.value c.append-wrote.ensures.bytes c.self.invariant

pub invariant_of-self-in-Failed : goal.invariant_of-self-in-Failed
invariant_of-self-in-Failed c =
    kept_refused c.self.inside.coming c.self.inside.last c.self.inside.taken c.mark.new.self c.self.inside.count c.self.inside.sent.items c.index_mut.result.now c.append-wrote.new.sent c.args.piece.now c.append-wrote.result c.in-Failed.is c.mark.ensures c.index_mut.ensures.value c.append-wrote.ensures.bytes c.self.invariant
