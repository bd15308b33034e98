use Rattle.std.proofs.Common.{◌≡◌, [], sym, ap, ◌∙◌, true, subst}
use Rattle.std.specs.Option.{option_map_or}
use Rattle.wb_store.specs.declared.records.Record.{Record}
use Rattle.wb_store.specs.Contents.{slot}
use Rattle.wb_store.specs.Places.{numbered, rises}
use Rattle.wb_store.specs.Records.{id_of, feature_of, values_in}
use Rattle.wb_store.proofs.Found.{all_numbered}
use Rattle.wb_store.proofs.Maps.{slot-numbered}
use Rattle.wb_store.proofs.store.Store.get.Goals as goal

pub values_of-requires : goal.values_of-requires
values_of-requires c =
    subst (λ slots. rises feature_of slots ≡ true) (sym c.as_slice.ensures)
    (all_numbered id_of (λ (r : Record). rises feature_of r.slots) _ c.args.o _ c.self.invariant.slots_rise (c.in-Some.ensures ∙ ap (numbered id_of c.args.o) c.deref.ensures.value))

pub returns-in-Some : goal.returns-in-Some
returns-in-Some c =
    c.values_of.ensures ∙ ap (values_in c.args.f) c.as_slice.ensures
    ∙ ap (λ o. option_map_or (λ (r : Record). values_in c.args.f r.slots) o []) (c.in-Some.ensures ∙ ap (numbered id_of c.args.o) c.deref.ensures.value)
    ∙ sym (slot-numbered c.self.inside.metamodel c.self.inside.next c.self.inside.records.items c.self.inside.roots c.args.o c.args.f c.self.invariant.objects_rise c.self.invariant.slots_rise)
    ∙ ap (λ m. slot m c.args.o c.args.f) c.self.view_is

pub returns-in-None : goal.returns-in-None
returns-in-None c =
    ap (λ o. option_map_or (λ (r : Record). values_in c.args.f r.slots) o []) (c.in-None.ensures ∙ ap (numbered id_of c.args.o) c.deref.ensures.value)
    ∙ sym (slot-numbered c.self.inside.metamodel c.self.inside.next c.self.inside.records.items c.self.inside.roots c.args.o c.args.f c.self.invariant.objects_rise c.self.invariant.slots_rise)
    ∙ ap (λ m. slot m c.args.o c.args.f) c.self.view_is
