use Rattle.std.proofs.Common.{subst, List, ℕ, Some}
use Rattle.wb_serving.specs.declared.ends.End.TheVariants.{Fault}
use Rattle.wb_serving.specs.Replies.{closes_with, stops_with}
use Rattle.wb_serving.specs.Responses.{Sends}
use Rattle.wb_serving.specs.Turns.{ending}
use Rattle.wb_serving.proofs.Turning.{sent, sent_part}
use Rattle.wb_serving.proofs.turn.send.Goals as goal

pub returns-in-Done-clause-sends : goal.returns-in-Done-clause-sends
returns-in-Done-clause-sends g c =
    let old = g.D.Door.told c.args.door.now in
    let new = g.D.Door.told c.write.new.self in
    let end = ending (stops_with c.args.reply.now) c.args.is_last (closes_with c.args.reply.now) in
    subst (λ (piece : List ℕ). Sends piece end c.end.result old new) c.text.ensures (sent c.text.result.now end c.end.result old new c.end.ensures c.in-Done.ensures.to_come c.in-Done.ensures.taken)

pub returns-in-Failed-clause-sends : goal.returns-in-Failed-clause-sends
returns-in-Failed-clause-sends g c =
    let old = g.D.Door.told c.args.door.now in
    let new = g.D.Door.told c.write.new.self in
    let end = ending (stops_with c.args.reply.now) c.args.is_last (closes_with c.args.reply.now) in
    subst (λ (piece : List ℕ). Sends piece end (Some Fault) old new) c.text.ensures (sent_part c.text.result.now end old new c.in-Failed.ensures.to_come c.in-Failed.ensures.taken)
