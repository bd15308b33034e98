use Rattle.std.proofs.Common.{ap, refl}
use Rattle.wb_refresh.specs.Subjects.{setting, subject}
use Rattle.wb_refresh.specs.Tables.{Evaluated}
use Rattle.wb_refresh.proofs.Opened.{opened}
use Rattle.wb_refresh.proofs.refresh.Refresh.open.Goals as goal

pub returns-clause-opened : goal.returns-clause-opened
returns-clause-opened g c =
    let s = subject c.args.spec.now c.args.model.now c.args.root c.args.shown.now in
    opened g.E.Evaluator.outcome_by c.new-table.result.setting (setting c.args.spec.now c.args.model.now c.args.root) s c.in_ok-declared.declared c.evaluate_all.new.table c.in_ok-new.field-0 _ _ refl (ap (λ (t : Evaluated). t.setting) c.new-table.ensures)
    c.in_ok-declared.ensures.declared c.in_ok-declared.ensures.ends c.in_ok-new.ensures
