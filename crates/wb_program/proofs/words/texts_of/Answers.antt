use Rattle.std.proofs.Common.{◌≡◌, ◌∙◌, sym, ap, subst, ℕ, ◌+◌, List, [], ◌∷◌, map, Some, Bor}
use Rattle.std.proofs.lemmas.List.{map-append}
use Rattle.wb_program.specs.Words.{text_in}
use Rattle.wb_program.proofs.Texts.{AreTexts, none_yet, one_more, all_are}
use Rattle.wb_program.proofs.words.texts_of.Goals as goal

abbrev texts : List (Bor (List ℕ)) → List (List ℕ)
texts = map (λ (text : Bor (List ℕ)). text.now)

pub loop-word-init : goal.loop-word-init
loop-word-init c = subst (λ (items : List (Bor (List ℕ))). AreTexts (texts items) c.args.words.now 0) (sym c.new-texts.ensures.items) (none_yet c.args.words.now)

pub loop-word-preserved : goal.loop-word-preserved
loop-word-preserved c =
    let given : Some c.in-Some.text.now ≡ text_in c.word-item.result = c.in-Some.ensures ∙ ap text_in c.as_slice.ensures in
    let more = one_more (texts c.loop-word.texts.items) c.args.words.now c.loop-word.word-index c.word-item.result c.in-Some.text.now c.loop-word.invariant c.loop-word-test.true c.word-item.is given in
    let pushed = ap texts c.in_ok-push-in-Some.ensures.items ∙ map-append (λ (text : Bor (List ℕ)). text.now) c.loop-word.texts.items (c.in-Some.text ∷ []) in
    subst (λ (ts : List (List ℕ)). AreTexts ts c.args.words.now (c.loop-word.word-index + 1)) (sym pushed) more

pub returns : goal.returns
returns c = all_are (texts c.loop-word.texts.items) c.args.words.now c.loop-word.word-index c.loop-word-test.false c.loop-word.invariant
