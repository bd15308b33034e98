use Rattle.std.proofs.Common.{◌≡◌, drop}
use Rattle.std.specs.List.{list_all}
use Rattle.wb_validity.specs.Valid.{is_held_back}
use Rattle.wb_validity.proofs.conditions.are_held_back.Given as goal

abbrev pub invariant-loop-value : goal.invariant-loop-value
invariant-loop-value l = list_all (is_held_back l.store l.o l.f) (drop l.value-index l.values) ≡ list_all (is_held_back l.store l.o l.f) l.values
