use Rattle.std.proofs.Common.{drop}
use Rattle.std.specs.List.{enumerate_from}
use Rattle.wb_json.proofs.Turns.{Goes}
use Rattle.wb_ecore.specs.declared.document.FeaturePart.{FeaturePart}
use Rattle.wb_ecore.specs.Resolving.{in_place, walked, feature_resolved}
use Rattle.wb_ecore.proofs.resolving_classes.features.Given as goal

abbrev pub invariant-loop-number : goal.invariant-loop-number
invariant-loop-number l =
    Goes (in_place (λ (part : FeaturePart). feature_resolved l.document l.class part part.target)) l.features.items (enumerate_from l.number (drop l.number l.parts)) (walked (λ (part : FeaturePart). feature_resolved l.document l.class part part.target) l.parts)
