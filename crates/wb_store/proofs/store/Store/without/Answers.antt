use Rattle.std.proofs.Common.{◌∙◌, ap, sym, subst, map, List}
use Rattle.wb_store.specs.declared.records.Record.{Record}
use Rattle.wb_store.specs.Records.{contents_of}
use Rattle.wb_store.specs.invariants.Plain.{IsPlain}
use Rattle.wb_store.specs.invariants.Removals.{record_left}
use Rattle.wb_store.specs.Relinking.{without}
use Rattle.wb_store.proofs.Removing.{left_plain, left_shown}
use Rattle.wb_store.proofs.store.Store.without.Goals as goal

pub invariant_of-self : goal.invariant_of-self
invariant_of-self c =
    let s = c.self.inside in
    subst (λ (records : List Record). IsPlain s.metamodel records) (sym (c.drop_from_records.ensures ∙ ap (map (record_left c.args.dead.now)) c.drop_records.ensures))
    (left_plain s.metamodel s.next s.records.items s.roots c.args.dead.now c.self.invariant)

pub returns : goal.returns
returns c =
    let s = c.self.inside in
    let records = c.drop_from_records.ensures ∙ ap (map (record_left c.args.dead.now)) c.drop_records.ensures in
    (λ i. contents_of s.metamodel s.next (records i) (c.drop_objects.ensures i))
    ∙ left_shown s.metamodel s.next s.records.items s.roots c.args.dead.now c.self.invariant
    ∙ ap (without c.args.dead.now) c.self.view_is
