use Rattle.std.proofs.Common.{◌≡◌, true, take}
use Rattle.std.specs.List.{list_all}
use Rattle.wb_validity.specs.Ranges.{is_in_range}
use Rattle.wb_model_json.proofs.ranges.values_are_in_range.Given as goal

abbrev pub invariant-loop-value : goal.invariant-loop-value
invariant-loop-value l = list_all is_in_range (take l.value-index l.values) ≡ true
