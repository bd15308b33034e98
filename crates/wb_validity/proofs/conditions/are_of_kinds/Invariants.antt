use Rattle.std.proofs.Common.{◌≡◌, drop}
use Rattle.std.specs.List.{list_all}
use Rattle.wb_validity.specs.Valid.{is_of_feature}
use Rattle.wb_validity.proofs.conditions.are_of_kinds.Given as goal

abbrev pub invariant-loop-value : goal.invariant-loop-value
invariant-loop-value l = list_all (is_of_feature l.store l.f) (drop l.value-index l.values) ≡ list_all (is_of_feature l.store l.f) l.values
