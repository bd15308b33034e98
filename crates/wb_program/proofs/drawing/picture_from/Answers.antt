use Rattle.std.proofs.Common.{◌≡◌, ◌∙◌, sym, ap, subst, Option, Some, Err}
use Rattle.wb_base.specs.Answering.{IsRefusal}
use Rattle.wb_aql_eval.specs.Outcomes.{outcome_of}
use Rattle.wb_session.specs.declared.opening.OpenRefusal.{OpenRefusal}
use Rattle.wb_session.specs.Opening.{open_named, opening}
use Rattle.wb_program.specs.declared.answer.Answer.{Answer}
use Rattle.wb_program.specs.Answers.{diagram_too_large, no_root_element}
use Rattle.wb_program.specs.Course.{Course, gives, stops}
use Rattle.wb_program.specs.Steps.{Reaches}
use Rattle.wb_program.proofs.Drawings.{draws, has_no_root, is_large}
use Rattle.wb_program.proofs.StepLemmas.{ends_with}
use Rattle.wb_program.proofs.drawing.picture_from.Goals as goal

pub returns-in_ok-picture_answer-in-Ok : goal.returns-in_ok-picture_answer-in-Ok
returns-in_ok-picture_answer-in-Ok g c =
    let drawn = draws c.args.spec c.args.model c.args.name.now c.in-Ok.session c.in-Ok.ensures in
    ap (λ (course : Course Answer). Some course) (drawn ∙ ap (λ (a : Answer). gives a) (sym c.in_ok-picture_answer-in-Ok.ensures))

pub returns-in-Err-NoRoot : goal.returns-in-Err-NoRoot
returns-in-Err-NoRoot g c =
    subst (λ (course : Course Answer). Reaches {A = Answer} (Err c.ended_by.result) (Some course)) (sym (has_no_root c.args.spec c.args.model c.args.name.now (subst (λ (e : OpenRefusal). IsRefusal (open_named e) (opening outcome_of c.args.spec c.args.model)) c.in-Err-NoRoot.field-0-is c.in-Err-NoRoot.ensures)))
    (ends_with Answer c.ended_by.result (no_root_element c.args.name.now) (c.ended_by.ensures (no_root_element c.args.name.now) c.no_root_element.ensures))

pub returns-in-Err-TooLarge : goal.returns-in-Err-TooLarge
returns-in-Err-TooLarge g c =
    subst (λ (course : Course Answer). Reaches {A = Answer} (Err c.ended_by-in-Err-TooLarge.result) (Some course)) (sym (is_large c.args.spec c.args.model c.args.name.now (subst (λ (e : OpenRefusal). IsRefusal (open_named e) (opening outcome_of c.args.spec c.args.model)) c.in-Err-TooLarge.field-0-is c.in-Err-TooLarge.ensures)))
    (ends_with Answer c.ended_by-in-Err-TooLarge.result diagram_too_large (c.ended_by-in-Err-TooLarge.ensures diagram_too_large c.diagram_too_large.ensures))
