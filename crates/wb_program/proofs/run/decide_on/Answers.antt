use Rattle.std.proofs.Common.{◌∙◌, sym, ap, ℕ, List, map, option_map, Bor}
use Rattle.wb_program.specs.Tasks.{shown}
use Rattle.wb_program.specs.Words.{task_in}
use Rattle.wb_program.proofs.Lawful.{decided_task, decided_none}
use Rattle.wb_program.proofs.run.decide_on.Goals as goal

abbrev texts : List (Bor (List ℕ)) → List (List ℕ)
texts = map (λ (text : Bor (List ℕ)). text.now)

pub returns-in-Some : goal.returns-in-Some
returns-in-Some g c =
    decided_task (task_in (texts c.args.words.now)) (shown c.in-Some.task) c.perform.result c.conclude.result _ _
    (sym (ap (option_map shown) c.in-Some.is) ∙ c.in_ok-task.ensures) c.perform.ensures c.conclude.ensures

pub returns-in-None : goal.returns-in-None
returns-in-None g c = decided_none (task_in (texts c.args.words.now)) c.usage.result _ (sym (ap (option_map shown) c.in-None.is) ∙ c.in_ok-task.ensures) c.usage.ensures
