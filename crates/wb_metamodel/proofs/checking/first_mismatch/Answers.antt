use Rattle.std.proofs.Common.{length, refl, sym, ap, ◌∙◌, false, arith}
use Rattle.std.specs.List.{slice_get}
use Rattle.std.specs.Option.{option_map_or}
use Rattle.std.proofs.lemmas.Option.{slice_get_read}
use Rattle.wb_ecore.specs.declared.features.Feature.{Feature}
use Rattle.wb_metamodel.specs.Checks.{has_mismatch, is_mismatched}
use Rattle.wb_ecore.proofs.Taken.{find-on}
use Rattle.wb_metamodel.proofs.checking.first_mismatch.Goals as goal

pub loop-number-preserved : goal.loop-number-preserved
loop-number-preserved c =
    let mm = c.args.elements.now in
    let i = c.loop-number.number in
    let slice = c.as_slice-feature-items.result.now in
    let n = ap length c.as_slice-feature-items.ensures in
    let at = ap (λ fs. slice_get fs i) (sym c.as_slice-feature-items.ensures) ∙ slice_get_read slice (length slice) i c.feature-item.result refl (omega arith) c.feature-item.is in
    let clear = ap (λ o. option_map_or (λ (feature : Feature). is_mismatched mm i feature feature.opposite) o false) at ∙ sym c.if-has_mismatch.ensures in
    c.loop-number.invariant ∙ find-on (has_mismatch mm) (length mm.features) i (omega arith) clear
