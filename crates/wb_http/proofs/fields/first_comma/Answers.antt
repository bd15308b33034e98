use Rattle.std.proofs.Common.{◌≡◌, ◌∙◌, sym, ap, subst, ◌+◌, ◌∷◌, ◌++◌, true, false, get_or, take, drop, arith}
use Rattle.std.specs.List.{All, slice_split}
use Rattle.std.proofs.lemmas.List.{take_all, take-append-drop, drop_more}
use Rattle.std.proofs.lemmas.List.Elements.{All-more}
use Rattle.std.proofs.lemmas.List.Splits.{slice_split_at, slice_split_none}
use Rattle.std.proofs.lemmas.Bool.Decides.{nat_tests}
use Rattle.wb_http.specs.Fields.{is_comma}
use Rattle.wb_http.proofs.fields.first_comma.Goals as goal

pub returns-then-value-at-eq44-clause-split : goal.returns-then-value-at-eq44-clause-split
returns-then-value-at-eq44-clause-split c =
    let value = c.args.value.now in
    let at = c.loop-at.at in
    let comma : is_comma (get_or value at 0) ≡ true = ap is_comma c.if-value-at-eq44.true in
    let split = slice_split_at is_comma (take at value) (get_or value at 0) (drop (at + 1) value) c.loop-at.invariant comma in
    let whole : value ≡ take at value ++ get_or value at 0 ∷ drop (at + 1) value = sym (take-append-drop at value) ∙ ap (λ rest. take at value ++ rest) (drop_more value at 0 c.loop-at-test.true) in
    (c.loop-at-test.true, ap (slice_split is_comma) whole ∙ split)

pub loop-at-preserved : goal.loop-at-preserved
loop-at-preserved c =
    let value = c.args.value.now in
    let other : is_comma (get_or value c.loop-at.at 0) ≡ false = grind (arith, nat_tests) in
    All-more (λ b. is_comma b ≡ false) value c.loop-at.at 0 c.loop-at-test.true c.loop-at.invariant other

pub returns-clause-split : goal.returns-clause-split
returns-clause-split c =
    let value = c.args.value.now in
    slice_split_none is_comma value (subst (All (λ b. is_comma b ≡ false)) (take_all c.loop-at.at value (omega (arith, c.loop-at-test.false))) c.loop-at.invariant)
