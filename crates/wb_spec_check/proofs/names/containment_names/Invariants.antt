use Rattle.std.proofs.Common.{◌≡◌, ℕ, List, take, ◌&&◌}
use Rattle.std.specs.Prelude.{is_some}
use Rattle.std.specs.List.{list_any}
use Rattle.wb_base.specs.Names.{same_name}
use Rattle.wb_ecore.specs.declared.features.Feature.{Feature}
use Rattle.wb_ecore.specs.invariants.NumberedNames.{number_of}
use Rattle.wb_spec_check.proofs.names.containment_names.Given as goal

-- the names of the containment references so far
abbrev pub invariant-loop-number : goal.invariant-loop-number
invariant-loop-number l = (name : List ℕ) → is_some (number_of l.names name) ≡ list_any (λ (feature : Feature). feature.containment && same_name feature.name name) (take l.number l.metamodel.features)
