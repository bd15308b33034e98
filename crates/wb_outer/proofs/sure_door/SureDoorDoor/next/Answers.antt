use Rattle.std.proofs.Common.{◌<◌, length, ap, rules}
use Rattle.wb_outer.specs.Pieces.{SureDoorState}
use Rattle.wb_outer.proofs.Pieces.{comes}
use Rattle.wb_outer.proofs.sure_door.SureDoorDoor.next.Goals as goal

pub returns-clause-comes : goal.returns-clause-comes
returns-clause-comes c =
    let some : 0 < length c.self.inside.waiting.items = search rules in
    comes c.args.self.now c.self.inside.waiting.items c.remove.new.self.items c.remove.result c.self.inside.taken c.add.new.self (ap (λ (d : SureDoorState). d.waiting) c.self.view_is) (ap (λ (d : SureDoorState). d.taken) c.self.view_is) some c.remove.ensures.value c.remove.ensures.items c.add.ensures
