use Rattle.std.proofs.Common.{◌∙◌, ap}
use Rattle.wb_store.specs.Contents.{Contents}
use Rattle.wb_store.specs.Relinking.{link}
use Rattle.wb_store.specs.LinkSteps.{with_only}
use Rattle.wb_store.proofs.RecordLemmas.{on_ok, on_err, records_is}
use Rattle.wb_store.proofs.Relinks.{only_shown, same_shown, live_numbered, known_inside}
use Rattle.wb_store.proofs.store.Store.put_alone.Goals as goal

pub replace_at-requires-clause-live : goal.replace_at-requires-clause-live
replace_at-requires-clause-live c = live_numbered c.self.inside.metamodel c.self.inside.next c.self.inside.records.items c.self.inside.roots _ c.args.o c.self.view_is c.requires.live

pub returns-clause-ok : goal.returns-clause-ok
returns-clause-ok c =
    let s = c.self.inside in
    let known = known_inside _ _ c.args.f c.self.view_is c.requires.known in
    on_ok c.replace_at.result (λ change. only_shown s.metamodel s.next s.roots s.records.items c.replace_at.new.records.items c.args.o c.args.f known c.self.invariant c.args.value (records_is c.in_ok-values.ensures change) ∙ ap (λ (m : Contents). with_only (link c.args.o c.args.f c.args.value) m) c.self.view_is) c.replace_at.ensures.ok

pub returns-clause-err : goal.returns-clause-err
returns-clause-err c =
    let s = c.self.inside in
    let known = known_inside _ _ c.args.f c.self.view_is c.requires.known in
    on_err c.replace_at.result (λ change. same_shown s.metamodel s.next s.roots s.records.items c.replace_at.new.records.items c.args.o c.args.f known c.self.invariant change ∙ c.self.view_is) c.replace_at.ensures.err
