use Rattle.std.proofs.Common.{◌≡◌, ◌-◌, length}
use Rattle.std.specs.List.{find, range_with_len}
use Rattle.wb_metamodel.specs.Metamodel.{numbers}
use Rattle.wb_metamodel.specs.Checks.{is_name_of}
use Rattle.wb_model_json.proofs.features.feature_anywhere.Given as goal

abbrev pub invariant-loop-number : goal.invariant-loop-number
invariant-loop-number l = find (is_name_of l.metamodel l.name) (numbers (length l.metamodel.features)) ≡ find (is_name_of l.metamodel l.name) (range_with_len l.number (length l.metamodel.features - l.number))
