use Rattle.std.proofs.Common.{◌∙◌, ap}
use Rattle.wb_store.specs.Contents.{Contents}
use Rattle.wb_store.specs.Relinking.{link}
use Rattle.wb_store.specs.LinkSteps.{with_link}
use Rattle.wb_store.proofs.RecordLemmas.{on_ok, on_err}
use Rattle.wb_store.proofs.Relinks.{put_shown, same_shown, live_numbered, known_inside}
use Rattle.wb_store.proofs.store.Store.put_last.Goals as goal

pub push_to-requires-clause-live : goal.push_to-requires-clause-live
push_to-requires-clause-live c = live_numbered c.self.inside.metamodel c.self.inside.next c.self.inside.records.items c.self.inside.roots _ c.args.o c.self.view_is c.requires.live

pub returns-clause-ok : goal.returns-clause-ok
returns-clause-ok c =
    let s = c.self.inside in
    let known = known_inside _ _ c.args.f c.self.view_is c.requires.known in
    on_ok c.push_to.result (λ change. put_shown s.metamodel s.next s.roots s.records.items c.push_to.new.records.items c.args.o c.args.f known c.self.invariant c.args.value change ∙ ap (λ (m : Contents). with_link (link c.args.o c.args.f c.args.value) m) c.self.view_is) c.push_to.ensures.ok

pub returns-clause-err : goal.returns-clause-err
returns-clause-err c =
    let s = c.self.inside in
    let known = known_inside _ _ c.args.f c.self.view_is c.requires.known in
    on_err c.push_to.result (λ change. same_shown s.metamodel s.next s.roots s.records.items c.push_to.new.records.items c.args.o c.args.f known c.self.invariant change ∙ c.self.view_is) c.push_to.ensures.err
