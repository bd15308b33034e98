use Rattle.std.proofs.Common.{◌≡◌, take}
use Rattle.std.specs.List.{filter_map}
use Rattle.wb_diagram.specs.declared.units.Unit.{Unit as Place}
use Rattle.wb_aql_eval.specs.declared.env.Outcome.{Outcome}
use Rattle.wb_refresh.specs.Faults.{problem_of}
use Rattle.wb_refresh.specs.Tables.{row_with}
use Rattle.wb_refresh.proofs.faults.problems.Given as goal

abbrev pub invariant-loop-row : goal.invariant-loop-row
invariant-loop-row l = l.found.items ≡ filter_map (λ (p : Place × Outcome). problem_of l.metamodel (row_with p)) (take l.row-index l.outcomes)
