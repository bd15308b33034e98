use Rattle.std.proofs.Common.{sym, subst}
use Rattle.wb_history.specs.Stacks.{Stacks}
use Rattle.wb_picture.specs.Opening.{opening_layers}
use Rattle.wb_marks.specs.Marks.{unmarked}
use Rattle.wb_marks.specs.declared.marks.Marks.{Marks}
use Rattle.wb_session.specs.declared.entries.Entry.{Entry}
use Rattle.wb_session.specs.Opening.{opened_state}
use Rattle.wb_session.specs.invariants.Keeping.{IsKept}
use Rattle.wb_session.proofs.First.{first_kept, fits_of}
use Rattle.wb_session.proofs.session.Session.open_from.Goals as goal

pub invariant_of-result : goal.invariant_of-result
invariant_of-result g c =
    let gives = g.E.Evaluator.outcome_by in
    let it = c.in-Ok.ensures in
    subst (λ (marks : Marks). IsKept gives c.args.spec c.args.root c.args.model marks 0 c.in-Ok.begun.history c.in-Ok.begun.diagram) (sym it.marks)
    (subst (λ (h : Stacks Entry). IsKept gives c.args.spec c.args.root c.args.model (unmarked (opening_layers c.args.spec)) 0 h c.in-Ok.begun.diagram) (sym it.history)
    (first_kept gives c.args.spec c.args.model c.args.root c.valid.ensures c.requires.checked c.requires.root
    (fits_of gives c.args.spec c.args.model c.args.root (opened_state c.args.spec c.args.model c.args.root) it.given) c.in-Ok.begun.diagram it.diagram))
