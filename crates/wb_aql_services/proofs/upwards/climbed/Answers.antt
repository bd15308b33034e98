use Rattle.std.proofs.Common.{◌+◌, ◌-◌, refl, sym, ap, ◌∙◌, arith}
use Rattle.wb_aql_values.specs.Readings.{contents}
use Rattle.wb_aql_values.specs.Runs.{run}
use Rattle.wb_aql_services.specs.Navigation.{climbed, height}
use Rattle.wb_aql_services.proofs.Climbs.{climb_more, climb_end, climb_spent}
use Rattle.wb_aql_services.proofs.upwards.climbed.Goals as goal

pub loop-level-init : goal.loop-level-init
loop-level-init c = rw c.new-met.ensures refl

pub returns-in_default : goal.returns-in_default
returns-in_default c =
    climb_end c.args.model.now height c.loop-level._level c.loop-level.met c.loop-level.below c.loop-level.reads c.note.new.self _
    (omega arith) (sym c.in_default.is ∙ c.holder.ensures) c.in_ok-note.ensures.ok c.loop-level.invariant

pub loop-level-preserved : goal.loop-level-preserved
loop-level-preserved c =
    let l = c.loop-level in
    let place = c.in-Some.place in
    ap (λ met. run (climbed (height - (l._level + 1)) met place.0) (contents c.args.model.now) c.note.new.self) c.in_ok-push.ensures.ok
    ∙ climb_more c.args.model.now height l._level l.met l.below place l.reads c.note.new.self _ (omega arith) c.in-Some.ensures c.in_ok-note.ensures.ok l.invariant

pub returns : goal.returns
returns c =
    climb_spent c.args.model.now height c.loop-level._level c.loop-level.met c.loop-level.below c.loop-level.reads _ (omega arith) c.loop-level.invariant
