use Rattle.std.proofs.Common.{◌∙◌, ap}
use Rattle.wb_store.specs.Contents.{Contents, slot}
use Rattle.wb_store.specs.LinkSteps.{without_slot}
use Rattle.wb_store.proofs.Relinks.{empty_shown, held_is, known_inside}
use Rattle.wb_store.proofs.store.Store.take_values.Goals as goal

pub returns-clause-taken : goal.returns-clause-taken
returns-clause-taken c =
    let s = c.self.inside in
    let known = known_inside _ _ c.args.f c.self.view_is c.requires in
    c.take_from.ensures.taken ∙ held_is s.metamodel s.next s.roots s.records.items c.take_from.new.records.items c.args.o c.args.f known c.self.invariant ∙ ap (λ (m : Contents). slot m c.args.o c.args.f) c.self.view_is

pub returns-clause-left : goal.returns-clause-left
returns-clause-left c =
    let s = c.self.inside in
    let known = known_inside _ _ c.args.f c.self.view_is c.requires in
    empty_shown s.metamodel s.next s.roots s.records.items c.take_from.new.records.items c.args.o c.args.f known c.self.invariant c.take_from.ensures.left ∙ ap (λ (m : Contents). without_slot c.args.o c.args.f m) c.self.view_is
