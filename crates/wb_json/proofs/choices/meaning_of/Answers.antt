use Rattle.std.proofs.Common.{◌≡◌, ◌∷◌, ◌+◌, drop, sym, ap, ◌∙◌}
use Rattle.std.proofs.lemmas.List.{drop_more}
use Rattle.wb_json.proofs.Turns.{meaning_skips, meaning_found}
use Rattle.wb_json.proofs.choices.meaning_of.Goals as goal

pub returns-then-is_same : goal.returns-then-is_same
returns-then-is_same g c =
    let rest = drop (c.loop-word.word-index + 1) c.args.words.now in
    let here : drop c.loop-word.word-index c.args.words.now ≡ c.word-item.result ∷ rest =
    drop_more c.args.words.now c.loop-word.word-index c.word-item.result c.loop-word-test.true ∙ ap (λ w. w ∷ rest) (sym c.word-item.is) in
    meaning_found c.args.text.now _ rest c.word-item.result here (sym c.is_same.ensures ∙ c.if-is_same.true) ∙ sym c.loop-word.invariant

pub loop-word-preserved : goal.loop-word-preserved
loop-word-preserved g c =
    let rest = drop (c.loop-word.word-index + 1) c.args.words.now in
    let here : drop c.loop-word.word-index c.args.words.now ≡ c.word-item.result ∷ rest =
    drop_more c.args.words.now c.loop-word.word-index c.word-item.result c.loop-word-test.true ∙ ap (λ w. w ∷ rest) (sym c.word-item.is) in
    c.loop-word.invariant ∙ meaning_skips c.args.text.now _ rest c.word-item.result here (sym c.is_same.ensures ∙ c.if-is_same.false)
