use Rattle.std.proofs.Common.{◌≡◌, map, take}
use Rattle.std.specs.Prelude.{unwrap_or}
use Rattle.wb_ecore.specs.declared.features.Feature.{Feature}
use Rattle.wb_ecore.specs.invariants.NumberedNames.{number_of}
use Rattle.wb_metamodel.proofs.tables.places.Given as goal

abbrev pub invariant-loop-feature : goal.invariant-loop-feature
invariant-loop-feature l = l.places.items ≡ map (λ (feature : Feature). unwrap_or (number_of l.names feature.name) 0) (take l.feature-index l.features)
