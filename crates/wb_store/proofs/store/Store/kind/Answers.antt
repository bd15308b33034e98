use Rattle.std.proofs.Common.{sym, ap, ◌∙◌, subst, length, ◌<◌}
use Rattle.std.specs.Option.{option_map}
use Rattle.wb_store.specs.declared.records.Record.{Record}
use Rattle.wb_store.specs.Contents.{Contents, kind}
use Rattle.wb_store.specs.Places.{numbered}
use Rattle.wb_store.specs.Records.{id_of, is_known}
use Rattle.wb_store.proofs.Found.{all_numbered}
use Rattle.wb_store.proofs.Shown.{is_class_known}
use Rattle.wb_store.proofs.Maps.{kind-numbered}
use Rattle.wb_store.proofs.store.Store.kind.Goals as goal

pub returns-in-Some-clause-value : goal.returns-in-Some-clause-value
returns-in-Some-clause-value c =
    ap (option_map (λ (r : Record). r.class)) (c.in-Some.ensures ∙ ap (numbered id_of c.args.o) c.deref.ensures.value)
    ∙ sym (kind-numbered c.self.inside.metamodel c.self.inside.next c.self.inside.records.items c.self.inside.roots c.args.o)
    ∙ ap (λ m. kind m c.args.o) c.self.view_is

pub returns-in-None-clause-value : goal.returns-in-None-clause-value
returns-in-None-clause-value c =
    ap (option_map (λ (r : Record). r.class)) (c.in-None.ensures ∙ ap (numbered id_of c.args.o) c.deref.ensures.value)
    ∙ sym (kind-numbered c.self.inside.metamodel c.self.inside.next c.self.inside.records.items c.self.inside.roots c.args.o)
    ∙ ap (λ m. kind m c.args.o) c.self.view_is

pub returns-in-Some-clause-known : goal.returns-in-Some-clause-known
returns-in-Some-clause-known c =
    let known = all_numbered id_of (is_known c.self.inside.metamodel) _ c.args.o c.in-Some.record.now c.self.invariant.known (c.in-Some.ensures ∙ ap (numbered id_of c.args.o) c.deref.ensures.value) in
    subst (λ (m : Contents). c.in-Some.record.now.class < length m.metamodel.classes) c.self.view_is (is_class_known c.self.inside.metamodel c.in-Some.record.now known)
