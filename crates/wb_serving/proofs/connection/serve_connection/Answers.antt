use Rattle.std.proofs.Common.{◌∙◌, refl, arith}
use Rattle.wb_serving.proofs.Going.{going_none, going_on, going_to_end, keeps_same, keeps_on, within_on}
use Rattle.wb_serving.proofs.connection.serve_connection.Goals as goal

pub turns-init : goal.turns-init
turns-init g c =
    let told = g.M.Machine.told c.args.machine.now in
    record {
      going = going_none g.M.Machine.law told (g.D.Door.told c.args.door.now) c.clear.new.self c.clear.ensures;
      within = omega arith;
      keeps = keeps_same g.M.Machine.law told;
      at_hand = record { last = refl; later = omega arith };
    }

pub returns-in-Some-clause-served : goal.returns-in-Some-clause-served
returns-in-Some-clause-served g c =
    going_to_end g.M.Machine.law (g.M.Machine.told c.args.machine.now) (g.M.Machine.told c.turns.machine) (g.M.Machine.told c.take_turn.new.machine) (g.D.Door.told c.args.door.now) (g.D.Door.told c.turns.door) (g.D.Door.told c.take_turn.new.door) c.turns.held c.take_turn.new.held c.turns.turn
    c.in-Some.ensures.keeps.later c.in-Some.end c.turns.invariant.going c.in-Some.ensures.turn

pub turns-preserved : goal.turns-preserved
turns-preserved g c =
    let m = g.M.Machine.told c.args.machine.now in
    let m1 = g.M.Machine.told c.turns.machine in
    let m2 = g.M.Machine.told c.take_turn.new.machine in
    let turned = c.in_default.ensures in
    record {
      going = going_on g.M.Machine.law m m1 m2 (g.D.Door.told c.args.door.now) (g.D.Door.told c.turns.door) (g.D.Door.told c.take_turn.new.door) c.turns.held c.take_turn.new.held c.turns.turn turned.keeps.later c.turns.invariant.going turned.turn;
      within = within_on c.turns.turn c.turns.invariant.within (turned.goes_on refl);
      keeps = keeps_on g.M.Machine.law m m1 m2 c.turns.invariant.keeps turned.keeps;
      at_hand = record { last = turned.at_hand.last ∙ c.turns.invariant.at_hand.last; later = omega (arith, turned.at_hand.later, c.turns.invariant.at_hand.later) };
    }
