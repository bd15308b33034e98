use Rattle.std.proofs.Common.{◌≡◌, ℕ, List, ◌++◌, drop}
use Rattle.std.specs.List.{AllZip}
use Rattle.wb_ecore.specs.declared.document.FeaturePart.{FeaturePart}
use Rattle.wb_ecore.specs.Resolving.{numbered}
use Rattle.wb_ecore.specs.invariants.Index.{HasOwn}
use Rattle.wb_ecore.proofs.index.class_features.Given as goal

abbrev pub invariant-loop-class : goal.invariant-loop-class
invariant-loop-class l =
    (done : List (ℕ × List FeaturePart)) × AllZip HasOwn l.features.items done × (numbered 0 l.classes ≡ done ++ numbered l.first (drop l.class-index l.classes))
