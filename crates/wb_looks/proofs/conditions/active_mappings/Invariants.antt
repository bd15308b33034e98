use Rattle.std.proofs.Common.{◌≡◌, take, map}
use Rattle.wb_spec_check.specs.declared.checked_mappings.CheckedMapping.{CheckedMapping}
use Rattle.wb_looks.specs.Visible.{is_active}
use Rattle.wb_looks.proofs.conditions.active_mappings.Given as goal

abbrev pub invariant-loop-mapping : goal.invariant-loop-mapping
invariant-loop-mapping l = l.active.items ≡ map (λ (it : CheckedMapping). is_active l.layers it.layer) (take l.mapping-index l.mappings)
