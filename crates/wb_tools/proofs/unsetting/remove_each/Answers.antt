use Rattle.std.proofs.Common.{◌≡◌, ◌∷◌, ◌+◌, drop, sym, ap, ◌∙◌, arith}
use Rattle.std.proofs.lemmas.List.{drop_more, drop_all}
use Rattle.std.specs.Prelude.{Ok}
use Rattle.wb_model.specs.declared.edits.edit.Edit.TheVariants.{Remove}
use Rattle.wb_tools.specs.FeatureEdits.{edit_by}
use Rattle.wb_tools.specs.Runs.{work}
use Rattle.wb_tools.proofs.RunLemmas.{turn_next, turn_stopped, turns_over}
use Rattle.wb_tools.proofs.unsetting.remove_each.Goals as goal

pub loop-object-preserved : goal.loop-object-preserved
loop-object-preserved c =
    let l = c.loop-object in
    let xs = c.args.objects.now in
    let x = c.object-item.result in
    let here : drop l.object-index xs ≡ x ∷ drop (l.object-index + 1) xs = drop_more xs l.object-index x (omega arith) ∙ ap (λ y. y ∷ drop (l.object-index + 1) xs) (sym c.object-item.is) in
    record {
      same = λ out. turn_next out (λ p. edit_by c.args.place (Ok (Remove p))) (drop l.object-index xs) x (drop (l.object-index + 1) xs) (work l.model l.tally) (tt {0}) (work c.edit_by.new.model c.edit_by.new.tally) _ here (c.in_ok-edit_by.ensures.done out) (l.invariant.same out);
      counted = c.in_ok-edit_by.ensures.counted ∙ l.invariant.counted;
      metamodel = c.in_ok-edit_by.ensures.same ∙ l.invariant.metamodel;
    }

pub returns-in_err-edit_by-clause-done : goal.returns-in_err-edit_by-clause-done
returns-in_err-edit_by-clause-done c =
    let l = c.loop-object in
    let xs = c.args.objects.now in
    let x = c.object-item.result in
    let here : drop l.object-index xs ≡ x ∷ drop (l.object-index + 1) xs = drop_more xs l.object-index x (omega arith) ∙ ap (λ y. y ∷ drop (l.object-index + 1) xs) (sym c.object-item.is) in
    λ out. turn_stopped out (λ p. edit_by c.args.place (Ok (Remove p))) (drop l.object-index xs) x (drop (l.object-index + 1) xs) (work l.model l.tally) c.from_residual.result c.in_err-edit_by.field-0.0 c.edit_by.new.model c.edit_by.new.tally _ here c.from_residual.ensures.1 (c.in_err-edit_by.ensures.done out) (l.invariant.same out)

pub returns-clause-done : goal.returns-clause-done
returns-clause-done c =
    let l = c.loop-object in
    λ out. turns_over out (λ p. edit_by c.args.place (Ok (Remove p))) (drop l.object-index c.args.objects.now) (work l.model l.tally) _ (drop_all l.object-index c.args.objects.now (omega arith)) (l.invariant.same out)
