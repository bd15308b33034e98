use Rattle.wb_tools.proofs.RunLemmas.{edit_counted, edit_uncounted}
use Rattle.wb_tools.proofs.editing.edit.Goals as goal

pub returns-in_err-count_edit-clause-done : goal.returns-in_err-count_edit-clause-done
returns-in_err-count_edit-clause-done c =
    λ out. edit_uncounted out c.args.place c.args.change c.args.model.now c.args.model.now c.args.tally.now c.count_edit.new.tally c.from_residual.result c.in_err-count_edit.field-0.0 c.from_residual.ensures.1 c.in_err-count_edit.ensures

pub returns-clause-done : goal.returns-clause-done
returns-clause-done c =
    λ out. edit_counted out c.args.place c.args.change c.args.model.now c.make.new.model c.args.tally.now c.count_edit.new.tally c.make.result c.in_ok-count_edit.ensures (c.make.ensures.done c.count_edit.new.tally)
