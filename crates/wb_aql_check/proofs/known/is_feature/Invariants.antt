use Rattle.std.proofs.Common.{◌≡◌, drop}
use Rattle.std.specs.List.{list_any}
use Rattle.wb_metamodel.specs.Metamodel.{same_name}
use Rattle.wb_ecore.specs.declared.features.Feature.{Feature}
use Rattle.wb_aql_check.specs.Names.{is_feature}
use Rattle.wb_aql_check.proofs.known.is_feature.Given as goal

-- it is among those that are left where it is among all
abbrev pub invariant-loop-number : goal.invariant-loop-number
invariant-loop-number l = list_any (λ (feature : Feature). same_name feature.name l.name) (drop l.number l.metamodel.features) ≡ is_feature l.metamodel l.name
