use Rattle.std.proofs.Common.{refl, arith}
use Rattle.wb_serving.specs.declared.ends.End.TheVariants.{Stop}
use Rattle.wb_serving.proofs.Running.{serving_on, serves_stop}
use Rattle.wb_serving.proofs.serving.serve_with.Goals as goal

pub returns-in-Stop : goal.returns-in-Stop
returns-in-Stop g c =
    serves_stop g.M.Machine.law (g.M.Machine.told c.args.machine.now) (g.M.Machine.told c.connections.machine) (g.M.Machine.told c.serve_connection.new.machine) (g.D.Door.told c.args.door.now) (g.D.Door.told c.connections.door) (g.D.Door.told c.next.new.self) (g.D.Door.told c.serve_connection.new.door)
    Stop c.connections._count c.args.limit c.connections.invariant c.in-Line.ensures c.in-Stop.ensures.served c.in-Stop.ensures.keeps c.in-Stop.ensures.at_hand c.in-Stop.ensures.fault refl (omega arith)

pub connections-preserved : goal.connections-preserved
connections-preserved g c =
    serving_on g.M.Machine.law (g.M.Machine.told c.args.machine.now) (g.M.Machine.told c.connections.machine) (g.M.Machine.told c.serve_connection.new.machine) (g.D.Door.told c.args.door.now) (g.D.Door.told c.connections.door) (g.D.Door.told c.next.new.self) (g.D.Door.told c.serve_connection.new.door)
    c.serve_connection.result c.connections._count c.connections.invariant c.in-Line.ensures c.serve_connection.ensures.served c.serve_connection.ensures.keeps c.serve_connection.ensures.at_hand c.serve_connection.ensures.fault c.in_default.not-Stop
