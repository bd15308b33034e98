use Rattle.std.proofs.Common.{◌∙◌, ap}
use Rattle.wb_store.specs.Contents.{Contents}
use Rattle.wb_store.specs.Relinking.{link}
use Rattle.wb_store.specs.LinkSteps.{without_link}
use Rattle.wb_store.proofs.Relinks.{drop_shown, known_inside}
use Rattle.wb_store.proofs.store.Store.drop_value.Goals as goal

pub returns : goal.returns
returns c =
    let s = c.self.inside in
    let known = known_inside _ _ c.args.f c.self.view_is c.requires in
    drop_shown s.metamodel s.next s.roots s.records.items c.drop_from.new.records.items c.args.o c.args.f known c.self.invariant c.args.value.now c.drop_from.ensures ∙ ap (λ (m : Contents). without_link (link c.args.o c.args.f c.args.value.now) m) c.self.view_is
