use Rattle.std.proofs.Common.{◌≡◌, ◌∙◌, sym, subst, true, List}
use Rattle.std.proofs.lemmas.Bool.{and_parts}
use Rattle.std.proofs.lemmas.List.Folds.{list_all-map}
use Rattle.std.specs.List.{list_all}
use Rattle.wb_store.specs.declared.parts.Part.{Part}
use Rattle.wb_store.specs.declared.parts.SlotPart.{SlotPart}
use Rattle.wb_store.specs.Parts.{slot_of, record_of}
use Rattle.wb_store.specs.Records.{is_known, is_known_slot}
use Rattle.wb_store.proofs.Found.{all_at}
use Rattle.wb_model.proofs.building.miswritten.Goals as goal

pub slots_are_listed-requires : goal.slots_are_listed-requires
slots_are_listed-requires c =
    let metamodel = c.args.metamodel.now in
    let part = subst (λ (p : Part). is_known metamodel (record_of p) ≡ true) (sym c.part-item.is) (all_at (λ (p : Part). 0) (λ (p : Part). is_known metamodel (record_of p)) c.args.parts.now c.loop-part.part-index c.part-item.result c.requires c.loop-part-test.true) in
    subst (λ (slots : List SlotPart). list_all (λ s. is_known_slot metamodel (slot_of s)) slots ≡ true) (sym c.as_slice.ensures)
    (sym (list_all-map (is_known_slot metamodel) slot_of c.part-item.result.slots) ∙ (and_parts _ _ part).1)
