use Rattle.std.specs.Prelude.{Ok}
use Rattle.wb_tools.specs.Doings.{done, edited}
use Rattle.wb_tools.specs.Runs.{work}
use Rattle.wb_tools.proofs.RunLemmas.{run_done, stopped_first, went_next}
use Rattle.wb_tools.proofs.editing.edit_by.Goals as goal

pub returns-in_err-edit-clause-done : goal.returns-in_err-edit-clause-done
returns-in_err-edit-clause-done c =
    λ out. stopped_first out (edited c.args.place c.args.change) (λ _. done (tt {0})) (work c.args.model.now c.args.tally.now) c.from_residual.result c.in_err-edit.field-0.0 c.edit.new.model c.edit.new.tally c.from_residual.ensures.1 (c.in_err-edit.ensures.done out)

pub returns-clause-done : goal.returns-clause-done
returns-clause-done c =
    λ out. went_next out (λ _. done (tt {0})) (edited c.args.place c.args.change) (work c.args.model.now c.args.tally.now) c.in_ok-edit.field-0 (work c.edit.new.model c.edit.new.tally) (Ok (tt {0})) c.edit.new.model c.edit.new.tally (c.in_ok-edit.ensures.done out) (run_done out (tt {0}) (work c.edit.new.model c.edit.new.tally))
