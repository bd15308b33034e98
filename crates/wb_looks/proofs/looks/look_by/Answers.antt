use Rattle.std.proofs.Common.{◌∙◌, ◌++◌, [], append-nil, ap, sym, length}
use Rattle.wb_answers.specs.Seen.{after}
use Rattle.wb_answers.proofs.SeenLaws.{passed_on, short}
use Rattle.wb_answers.proofs.SeenLoops.{asked_both, metamodel_of, not_over, refused_first, told_of}
use Rattle.wb_looks.specs.Looks.{label_units, style_at, style_units, style_used}
use Rattle.wb_looks.proofs.InStyle.{all_units, look_in_style, units_in_style, units_split}
use Rattle.wb_looks.proofs.looks.look_by.Goals as goal

pub returns-in_err-number-clause-asks : goal.returns-in_err-number-clause-asks
returns-in_err-number-clause-asks g c =
    let looks = c.args.looks.now in
    let key = c.args.key.now in
    let s = g.A.Answers.seen c.args.answers.now in
    let used = style_used looks s.told key in
    refused_first s _ (style_units s.told key 1 (length looks.styles)) (label_units key used (style_at looks used)) _ _ _ c.from_residual.ensures (all_units looks s.told key) c.in_err-number.ensures.asks

pub label_of-requires-clause-metamodel : goal.label_of-requires-clause-metamodel
label_of-requires-clause-metamodel g c = c.requires.metamodel ∙ sym (metamodel_of _ _ _ c.in_ok-number.ensures.asks)

pub label_of-requires-clause-fine : goal.label_of-requires-clause-fine
label_of-requires-clause-fine g c = not_over _ _ _ c.in_ok-number.ensures.asks c.requires.fine

pub returns-in_err-label-clause-asks : goal.returns-in_err-label-clause-asks
returns-in_err-label-clause-asks g c =
    let looks = c.args.looks.now in
    let key = c.args.key.now in
    let s = g.A.Answers.seen c.args.answers.now in
    passed_on s _ _ (style_units s.told key 1 (length looks.styles)) (label_units key c.in_ok-number.number c.style_at-style.result.now) [] _ _ _ c.from_residual-in_err-label.ensures c.in_ok-number.ensures.asks
    (units_split looks s.told key _ _ c.in_ok-number.ensures.style c.style_at-style.ensures) c.in_err-label.ensures.asks

pub returns-in_err-in_style-clause-asks : goal.returns-in_err-in_style-clause-asks
returns-in_err-in_style-clause-asks g c =
    let looks = c.args.looks.now in
    let key = c.args.key.now in
    let s = g.A.Answers.seen c.args.answers.now in
    let units = style_units s.told key 1 (length looks.styles) ++ label_units key c.in_ok-number.number c.style_at-style.result.now in
    short s _ units [] _ _ c.from_residual-in_err-in_style.ensures (asked_both _ _ _ _ _ c.in_ok-number.ensures.asks c.in_ok-label.ensures.asks)
    (append-nil units ∙ units_in_style looks s.told key _ _ c.in_ok-number.ensures.style c.style_at-style.ensures)

pub returns-clause-look : goal.returns-clause-look
returns-clause-look g c =
    look_in_style c.args.looks.now (g.A.Answers.seen c.args.answers.now).told c.args.key.now c.in_ok-number.number c.style_at-style.result.now c.in_ok-number.ensures.style c.style_at-style.ensures
    c.args.metamodel.now (g.A.Answers.seen c.style_used.new.answers).told c.in_ok-label.label c.in_ok-in_style.field-0
    (told_of _ _ _ c.in_ok-number.ensures.asks) c.in_ok-label.ensures.label c.in_ok-in_style.ensures

pub returns-clause-asks : goal.returns-clause-asks
returns-clause-asks g c =
    let s = g.A.Answers.seen c.args.answers.now in
    asked_both _ _ _ _ _ c.in_ok-number.ensures.asks c.in_ok-label.ensures.asks
    ∙ ap (after s) (units_in_style c.args.looks.now s.told c.args.key.now _ _ c.in_ok-number.ensures.style c.style_at-style.ensures)
