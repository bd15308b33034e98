use Rattle.std.proofs.Common.{◌-◌, refl, sym, ◌∙◌, arith}
use Rattle.wb_aql_services.specs.Navigation.{height}
use Rattle.wb_aql_services.proofs.Climbs.{nearest_more, nearest_found, nearest_end, nearest_spent}
use Rattle.wb_aql_services.proofs.upwards.nearest.Goals as goal

pub loop-level-init : goal.loop-level-init
loop-level-init c = refl

pub returns-in_default : goal.returns-in_default
returns-in_default c =
    nearest_end c.args.model.now c.args.model.now.metamodel c.args.asked.now height c.loop-level._level c.loop-level.below c.loop-level.reads c.note.new.self _
    (omega arith) (sym c.in_default.is ∙ c.holder.ensures) c.in_ok-note.ensures.ok c.loop-level.invariant

pub returns-then-branch : goal.returns-then-branch
returns-then-branch c =
    let l = c.loop-level in
    nearest_found c.args.model.now c.args.model.now.metamodel c.args.asked.now height l._level l.below c.in-Some.place l.reads c.note.new.self c.look_whether_of.new.reads _
    (omega arith) c.in-Some.ensures c.in_ok-note.ensures.ok (sym c.if-branch.true ∙ c.in_ok-look_whether_of.ensures.value) c.in_ok-look_whether_of.ensures.read l.invariant

pub loop-level-preserved : goal.loop-level-preserved
loop-level-preserved c =
    let l = c.loop-level in
    nearest_more c.args.model.now c.args.model.now.metamodel c.args.asked.now height l._level l.below c.in-Some.place l.reads c.note.new.self c.look_whether_of.new.reads _
    (omega arith) c.in-Some.ensures c.in_ok-note.ensures.ok (sym c.if-branch.false ∙ c.in_ok-look_whether_of.ensures.value) c.in_ok-look_whether_of.ensures.read l.invariant

pub returns : goal.returns
returns c =
    nearest_spent c.args.model.now c.args.model.now.metamodel c.args.asked.now height c.loop-level._level c.loop-level.below c.loop-level.reads _ (omega arith) c.loop-level.invariant
