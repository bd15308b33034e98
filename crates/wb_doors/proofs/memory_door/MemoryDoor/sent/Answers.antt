use Rattle.std.proofs.Common.{◌∙◌, ◌+◌, ◌<◌, ℕ, length, ap, arith}
use Rattle.std.specs.Global.{Vec}
use Rattle.wb_doors.specs.MemoryDoors.{MemoryDoorState, sent_on}
use Rattle.wb_doors.proofs.Keeping.{sent_at}
use Rattle.wb_doors.proofs.memory_door.MemoryDoor.sent.Goals as goal

pub returns : goal.returns
returns c =
    let told = ap (λ (d : MemoryDoorState). length d.taken + length d.waiting) c.self.view_is in
    let some : c.args.line < length c.self.inside.sent.items = omega (arith, told, c.self.invariant.all, c.requires) in
    c.as_slice.ensures.value ∙ ap (λ (v : Vec ℕ). v.items) c.index.ensures ∙ sent_at c.self.inside.sent.items c.self.inside.taken c.args.line c.index.result.now some c.self.invariant.are_sent ∙ ap (λ (d : MemoryDoorState). sent_on c.args.line d.taken) c.self.view_is
