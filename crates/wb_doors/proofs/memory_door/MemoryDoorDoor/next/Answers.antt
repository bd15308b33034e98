use Rattle.std.proofs.Common.{◌≡◌, ◌≤◌, ◌∙◌, ◌++◌, ◌∷◌, [], ap, rules, true}
use Rattle.wb_outer.specs.Door.{fresh}
use Rattle.wb_doors.specs.MemoryDoors.{MemoryDoorState}
use Rattle.wb_doors.proofs.Keeping.{kept_next, comes}
use Rattle.wb_doors.proofs.memory_door.MemoryDoorDoor.next.Goals as goal

pub invariant_of-self-2 : goal.invariant_of-self-2
invariant_of-self-2 c =
    let some : c.next.result ≡ true = search rules in
    kept_next c.self.inside.coming c.next.new.self c.self.inside.last c.self.inside.taken c.came.new.self c.self.inside.count c.self.inside.sent.items c.next.result some c.next.ensures c.came.ensures c.self.invariant

pub returns-clause-comes : goal.returns-clause-comes
returns-clause-comes c =
    let some : c.next.result ≡ true = search rules in
    let later : c.args.self.now.plan.faults ≤ c.count.new.self.faults = search rules in
    comes c.self.inside.coming c.next.new.self c.args.self.now c.came.new.self c.count.new.self c.next.result some c.next.ensures (ap (λ (d : MemoryDoorState). d.waiting) c.self.view_is) (c.came.ensures ∙ ap (λ (d : MemoryDoorState). d.taken ++ fresh ∷ []) c.self.view_is) later
