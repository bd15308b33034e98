use Rattle.std.proofs.Common.{◌<◌, ◌^◌, ◌∙◌, ap, sym, subst, length, suc}
use Rattle.std.specs.List.{list_all}
use Rattle.wb_metamodel.specs.Metamodel.{Metamodel}
use Rattle.wb_metamodel.specs.WellFormed.{WellFormed}
use Rattle.wb_store.specs.declared.scalars.Scalar.TheVariants.{Object}
use Rattle.wb_store.specs.Contents.{Contents}
use Rattle.wb_store.specs.Relinking.{link}
use Rattle.wb_store.specs.LinkSteps.{without_link, back_slots}
use Rattle.wb_store.specs.Records.{is_known_slot}
use Rattle.wb_model.proofs.Comings.{known_after, put_drop}
use Rattle.wb_model.proofs.Creating.{live_after, kind_linked, back_known, next_stands_nowhere, created_in}
use Rattle.wb_store.proofs.RecordLemmas.{on_ok, on_err, err_at}
use Rattle.wb_model.proofs.edits.creations.create_in.Goals as goal
use Rattle.wb_store.proofs.Relinked.{metamodel-relink, next-relink}

pub push_object-pushed-requires-clause-class : goal.push_object-pushed-requires-clause-class
push_object-pushed-requires-clause-class c =
    let m = c.args.store.now in
    subst (λ (metamodel : Metamodel). c.args.class < length metamodel.classes) (sym (ap (λ (m : Contents). m.metamodel) c.in_ok-put_last.ensures.ok ∙ metamodel-relink _ _ m)) c.requires.class

pub push_object-pushed-requires-clause-known : goal.push_object-pushed-requires-clause-known
push_object-pushed-requires-clause-known c =
    let m = c.args.store.now in
    let well = subst WellFormed c.metamodel.ensures c.well_formed-2.ensures in
    let same = ap (λ (m : Contents). m.metamodel) c.in_ok-put_last.ensures.ok ∙ metamodel-relink _ _ m in
    let slots = c.in_ok-slots.ensures ∙ ap (λ (metamodel : Metamodel). back_slots metamodel c.args.f c.args.p) c.metamodel-2.ensures in
    (λ i. list_all (is_known_slot (same i)) (slots i)) ∙ back_known m.metamodel well c.args.f c.args.p

pub push_object-pushed-requires-clause-fresh : goal.push_object-pushed-requires-clause-fresh
push_object-pushed-requires-clause-fresh c =
    let m = c.args.store.now in
    let l = link c.args.p c.args.f (Object c.next.result) in
    live_after m c.put_last.new.self c.requires.valid (kind_linked m c.put_last.new.self l c.in_ok-put_last.ensures.ok) (ap (λ (m : Contents). m.next) c.in_ok-put_last.ensures.ok ∙ next-relink _ _ m)

pub push_object-pushed-requires-clause-next : goal.push_object-pushed-requires-clause-next
push_object-pushed-requires-clause-next c =
    let m = c.args.store.now in
    subst (λ n. suc n < 2 ^ 32) (sym (ap (λ (m : Contents). m.next) c.in_ok-put_last.ensures.ok ∙ next-relink _ _ m)) c.requires.next

pub drop_value-requires : goal.drop_value-requires
drop_value-requires c =
    let m = c.args.store.now in
    let same = err_at c.push_object-pushed.result (sym c.is_err.ensures.value ∙ c.if-is_err.true) c.push_object-pushed.ensures.err in
    known_after m c.push_object-pushed.new.self c.args.f
    (ap (λ (m : Contents). m.metamodel) (same ∙ c.in_ok-put_last.ensures.ok) ∙ metamodel-relink _ _ m) c.requires.known

pub returns-then-is_err-clause-err : goal.returns-then-is_err-clause-err
returns-then-is_err-clause-err c =
    let m = c.args.store.now in
    let l = link c.args.p c.args.f (Object c.next.result) in
    on_err c.push_object-pushed.result
    (λ e. c.drop_value.ensures ∙ ap (without_link l) (e ∙ c.in_ok-put_last.ensures.ok) ∙ put_drop m l (next_stands_nowhere m c.requires.valid c.args.p c.args.f c.next.result c.next.ensures c.requires.containment))
    c.push_object-pushed.ensures.err

pub returns-else-is_err-clause-ok : goal.returns-else-is_err-clause-ok
returns-else-is_err-clause-ok c =
    let m = c.args.store.now in
    let slots = c.in_ok-slots.ensures ∙ ap (λ (metamodel : Metamodel). back_slots metamodel c.args.f c.args.p) c.metamodel-2.ensures in
    on_ok c.push_object-pushed.result
    (λ g. created_in m c.requires.valid c.args.p c.args.f c.requires.live c.put_last.new.self c.push_object-pushed.new.self c.args.class c.next.result c.in_ok-slots.slots c.next.ensures c.in_ok-put_last.ensures.ok slots g)
    c.push_object-pushed.ensures.ok
