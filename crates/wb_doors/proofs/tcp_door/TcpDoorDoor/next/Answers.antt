use Rattle.std.proofs.Common.{◌≤◌, ◌∙◌, ap, sym, subst}
use Rattle.wb_outer.specs.Door.{taken_after}
use Rattle.wb_doors.specs.TcpDoors.{TcpDoorState}
use Rattle.wb_doors.proofs.Counting.{comes_counted}
use Rattle.wb_doors.proofs.tcp_door.TcpDoorDoor.next.Goals as goal

pub returns-clause-comes : goal.returns-clause-comes
returns-clause-comes g c =
    let next = c.take_peer-next.result in
    let faults = ap (λ (d : TcpDoorState _). d.faults) c.self.view_is in
    let taken = ap (λ (d : TcpDoorState _). d.taken) c.self.view_is in
    comes_counted c.args.self.now.last c.args.self.now.taken c.came.new.self c.args.self.now.faults c.self.inside.faults next (c.came.ensures ∙ ap (taken_after next) (taken ∙ c.take_peer-next.ensures.same.taken)) (subst (λ n. c.args.self.now.faults ≤ n) (sym faults) c.take_peer-next.ensures.later) (faults ∙ c.take_peer-next.ensures.counted)
