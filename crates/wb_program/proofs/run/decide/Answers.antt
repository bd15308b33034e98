use Rattle.std.proofs.Common.{◌∙◌, sym, ap, subst, ℕ, List, map, option_map, Bor, Vec, Global}
use Rattle.wb_program.specs.Opening.{course_for}
use Rattle.wb_program.specs.Runs.{IsDecision}
use Rattle.wb_program.specs.Words.{task_in}
use Rattle.wb_program.proofs.Lawful.{decided_texts, decided_no_texts}
use Rattle.wb_program.proofs.run.decide.Goals as goal

abbrev texts : List (Bor (List ℕ)) → List (List ℕ)
texts = map (λ (text : Bor (List ℕ)). text.now)

abbrev kept : Vec (Bor (List ℕ)) Global → List (List ℕ)
kept found = texts found.items

pub returns-in-Some : goal.returns-in-Some
returns-in-Some g c =
    decided_texts c.args.words.now (texts c.in-Some.texts.items) c.decide_on.result _ _ (sym (ap (option_map kept) c.in-Some.is) ∙ c.in_ok-texts.ensures)
    (subst (λ (items : List (Bor (List ℕ))). IsDecision c.decide_on.result (course_for (task_in (texts items))) (g.H.Shelf.told c.args.shelf.now) (g.H.Shelf.told c.decide_on.new.shelf)) c.as_slice.ensures.value c.decide_on.ensures)

pub returns-in-None : goal.returns-in-None
returns-in-None g c = decided_no_texts c.args.words.now c.usage.result _ (sym (ap (option_map kept) c.in-None.is) ∙ c.in_ok-texts.ensures) c.usage.ensures
