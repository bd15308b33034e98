use Rattle.std.proofs.Common.{◌≡◌, ◌∷◌, ◌+◌, drop, sym, ap, ◌∙◌, arith}
use Rattle.std.proofs.lemmas.List.{drop_more, drop_all}
use Rattle.wb_tools.specs.FeatureEdits.{with_value}
use Rattle.wb_tools.specs.Runs.{work}
use Rattle.wb_tools.proofs.RunLemmas.{turn_next, turn_stopped, turns_over}
use Rattle.wb_tools.proofs.setting.with_values.Goals as goal

pub loop-value-preserved : goal.loop-value-preserved
loop-value-preserved c =
    let l = c.loop-value in
    let xs = c.args.values.now in
    let x = c.value-item.result in
    let here : drop l.value-index xs ≡ x ∷ drop (l.value-index + 1) xs = drop_more xs l.value-index x (omega arith) ∙ ap (λ y. y ∷ drop (l.value-index + 1) xs) (sym c.value-item.is) in
    record {
      same = λ out. turn_next out (with_value c.args.way c.args.place c.args.o c.args.f) (drop l.value-index xs) x (drop (l.value-index + 1) xs) (work l.model l.tally) (tt {0}) (work c.with_value.new.model c.with_value.new.tally) _ here (c.in_ok-with_value.ensures.done out) (l.invariant.same out);
      counted = c.in_ok-with_value.ensures.counted ∙ l.invariant.counted;
      metamodel = c.in_ok-with_value.ensures.same ∙ l.invariant.metamodel;
    }

pub returns-in_err-with_value-clause-done : goal.returns-in_err-with_value-clause-done
returns-in_err-with_value-clause-done c =
    let l = c.loop-value in
    let xs = c.args.values.now in
    let x = c.value-item.result in
    let here : drop l.value-index xs ≡ x ∷ drop (l.value-index + 1) xs = drop_more xs l.value-index x (omega arith) ∙ ap (λ y. y ∷ drop (l.value-index + 1) xs) (sym c.value-item.is) in
    λ out. turn_stopped out (with_value c.args.way c.args.place c.args.o c.args.f) (drop l.value-index xs) x (drop (l.value-index + 1) xs) (work l.model l.tally) c.from_residual.result c.in_err-with_value.field-0.0 c.with_value.new.model c.with_value.new.tally _ here c.from_residual.ensures.1 (c.in_err-with_value.ensures.done out) (l.invariant.same out)

pub returns-clause-done : goal.returns-clause-done
returns-clause-done c =
    let l = c.loop-value in
    λ out. turns_over out (with_value c.args.way c.args.place c.args.o c.args.f) (drop l.value-index c.args.values.now) (work l.model l.tally) _ (drop_all l.value-index c.args.values.now (omega arith)) (l.invariant.same out)
