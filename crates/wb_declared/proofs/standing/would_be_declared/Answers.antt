use Rattle.std.proofs.Common.{◌∙◌, ◌∷◌, [], ◌++◌, length, ap, sym}
use Rattle.std.proofs.lemmas.Result.{IfOk-weaker}
use Rattle.wb_refresh.specs.Subjects.{setting, subject}
use Rattle.wb_declared.proofs.OneKey.{none_without_pairs, one_mark_more}
use Rattle.wb_declared.proofs.standing.would_be_declared.Goals as goal

pub returns-in-Some : goal.returns-in-Some
returns-in-Some g c =
    IfOk-weaker c.would_stand.result _ _
    (λ b is. is ∙ one_mark_more g.E.Evaluator.outcome_by (setting c.args.spec.now c.args.model.now c.args._root) c.args._shown.now c.args.diagram.now c.requires.opened c.args.key.now c.in-Some.path.now c.in-Some.own.now (sym c.as_slice.ensures ∙ c.in-Some.ensures.cases.0))
    c.would_stand.ensures

pub returns-in-None : goal.returns-in-None
returns-in-None g c =
    none_without_pairs g.E.Evaluator.outcome_by (subject c.args.spec.now c.args.model.now c.args._root (c.args._shown.now ++ c.args.key.now ∷ [])) c.args.key.now
    (ap length (sym c.as_slice.ensures) ∙ c.in-None.ensures.cases)
