use Rattle.wb_serving.proofs.Turning.{said, quit}
use Rattle.wb_serving.proofs.turn.take_turn.Goals as goal

pub returns-in-Say-clause-turn : goal.returns-in-Say-clause-turn
returns-in-Say-clause-turn g c =
    said g.M.Machine.law (g.M.Machine.told c.args.machine.now) (g.M.Machine.told c.respond.new.machine) (g.D.Door.told c.args.door.now) (g.D.Door.told c.read_request-heard.new.door) (g.D.Door.told c.send.new.door) c.args.held.now c.read_request-heard.new.held c.args.is_last c.read_request-heard.result c.in-Say.reply c.send.result
    c.read_request-heard.ensures.reads c.in-Say.ensures.responds c.send.ensures.sends

pub returns-in-Quit-clause-turn : goal.returns-in-Quit-clause-turn
returns-in-Quit-clause-turn g c =
    quit g.M.Machine.law (g.M.Machine.told c.args.machine.now) (g.M.Machine.told c.respond.new.machine) (g.D.Door.told c.args.door.now) (g.D.Door.told c.read_request-heard.new.door) c.args.held.now c.read_request-heard.new.held c.args.is_last c.read_request-heard.result c.in-Quit.end
    c.read_request-heard.ensures.reads c.in-Quit.ensures.responds.0 c.in-Quit.ensures.responds.1 c.in-Quit.ensures.keeps.later
