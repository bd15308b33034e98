-- What the list of kept objects says of the contents that it shows.
use Rattle.std.proofs.Common.{◌≡◌, ◌<◌, true, length, List, map, ap, ◌∙◌}
use Rattle.std.proofs.lemmas.Bool.{and_parts, ltb-true}
use Rattle.wb_metamodel.specs.Metamodel.{Metamodel}
use Rattle.wb_store.specs.declared.records.Record.{Record}
use Rattle.std.specs.List.{flat_map}
use Rattle.std.specs.FinMap.{entries}
use Rattle.wb_store.specs.Contents.{Contents}
use Rattle.wb_store.specs.Records.{is_known, contents_of, kind_entry, slot_entries}
use Rattle.wb_store.specs.invariants.Plain.{IsPlain}
use Rattle.wb_store.proofs.Maps.{entries-kinds, entries-slots}

pub is_class_known : (metamodel : Metamodel) (r : Record) → is_known metamodel r ≡ true → r.class < length metamodel.classes
is_class_known metamodel r h = ltb-true _ _ (and_parts _ _ h).0

module _ (m : Contents) (rs : List Record) (shown : m ≡ contents_of m.metamodel m.next rs m.roots) (plain : IsPlain m.metamodel rs) where
  pub shown-kinds : entries m.kinds ≡ map kind_entry rs
  shown-kinds = ap (λ (m : Contents). entries m.kinds) shown ∙ entries-kinds m.metamodel m.next rs m.roots plain.objects_rise

  pub shown-slots : entries m.slots ≡ flat_map slot_entries rs
  shown-slots = ap (λ (m : Contents). entries m.slots) shown ∙ entries-slots m.metamodel m.next rs m.roots plain.objects_rise plain.slots_rise
