use Rattle.std.proofs.Common.{sym, subst, Err}
use Rattle.wb_program.specs.declared.answer.Answer.{Answer}
use Rattle.wb_program.specs.declared.words.Task.{Task}
use Rattle.wb_program.specs.Answers.{not_built}
use Rattle.wb_program.specs.Course.{stops}
use Rattle.wb_program.specs.Opening.{task_course}
use Rattle.wb_program.specs.Steps.{Went}
use Rattle.wb_program.specs.Tasks.{shown}
use Rattle.wb_program.proofs.StepLemmas.{went_nowhere, ends_with}
use Rattle.wb_program.proofs.run.perform.Goals as goal

pub returns-in-Serve : goal.returns-in-Serve
returns-in-Serve g c =
    let told = g.H.Shelf.told c.args.shelf.now in
    let stopped = went_nowhere {A = Answer} (Err c.ended_by.result) (stops not_built) told (ends_with Answer c.ended_by.result not_built (c.ended_by.ensures not_built c.not_built.ensures)) in
    subst (λ (task : Task). Went {A = Answer} (Err c.ended_by.result) (task_course (shown task)) told told) (sym c.in-Serve.is) stopped

pub returns-in-Big : goal.returns-in-Big
returns-in-Big g c =
    let told = g.H.Shelf.told c.args.shelf.now in
    let stopped = went_nowhere {A = Answer} (Err c.ended_by-in-Big.result) (stops not_built) told (ends_with Answer c.ended_by-in-Big.result not_built (c.ended_by-in-Big.ensures not_built c.not_built-in-Big.ensures)) in
    subst (λ (task : Task). Went {A = Answer} (Err c.ended_by-in-Big.result) (task_course (shown task)) told told) (sym c.in-Big.is) stopped
