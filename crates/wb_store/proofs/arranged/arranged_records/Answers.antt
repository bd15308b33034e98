use Rattle.std.proofs.Common.{◌≡◌, ◌++◌, sym, subst, refl, map, List, [], ◌∷◌, true}
use Rattle.std.proofs.lemmas.Bool.{and_parts}
use Rattle.std.proofs.lemmas.List.{map-append}
use Rattle.std.proofs.lemmas.List.Elements.{AllZip-push}
use Rattle.std.specs.List.{AllZip, list_all}
use Rattle.wb_store.specs.declared.parts.Part.{Part}
use Rattle.wb_store.specs.declared.records.Record.{Record}
use Rattle.wb_store.specs.invariants.Arranged.{IsArranged}
use Rattle.wb_store.specs.Parts.{record_of}
use Rattle.wb_store.specs.Records.{feature_of}
use Rattle.wb_store.specs.Places.{once}
use Rattle.wb_store.proofs.arranged.arranged_records.Goals as goal

pub arranged_slots-requires : goal.arranged_slots-requires
arranged_slots-requires c =
    let left = subst (λ (parts : List Part). list_all (λ (r : Record). once (map feature_of r.slots)) (map record_of parts) ≡ true) c.in-Some.ensures.steps.0 c.loop-part.invariant.left in
    (and_parts _ _ left).0

pub loop-part-preserved : goal.loop-part-preserved
loop-part-preserved c =
    let left = subst (λ (parts : List Part). list_all (λ (r : Record). once (map feature_of r.slots)) (map record_of parts) ≡ true) c.in-Some.ensures.steps.0 c.loop-part.invariant.left in
    let done = AllZip-push IsArranged _ _ (record_of c.in-Some.part) _ c.loop-part.invariant.done (record { id = refl; class = refl; slots = c.in_ok-slots.ensures }) in
    record {
      left = (and_parts _ _ left).1;
      done = rw map-append (subst (AllZip IsArranged (map record_of c.loop-part.yielded ++ record_of c.in-Some.part ∷ [])) (sym c.in_ok-push.ensures.items) done);
    }
