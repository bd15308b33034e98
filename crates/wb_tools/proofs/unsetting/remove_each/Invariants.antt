use Rattle.std.proofs.Common.{◌≡◌, drop}
use Rattle.std.specs.Prelude.{Ok}
use Rattle.wb_model.specs.declared.edits.edit.Edit.TheVariants.{Remove}
use Rattle.wb_tools.specs.FeatureEdits.{edit_by}
use Rattle.wb_tools.specs.Doings.{each}
use Rattle.wb_tools.specs.Runs.{Outcomes, run, work}
use Rattle.wb_tools.proofs.unsetting.remove_each.Given as goal

-- what is left, done on the work so far, ends as all of it does
abbrev pub invariant-loop-object : goal.invariant-loop-object
invariant-loop-object l = record {
  same : (out : Outcomes) → run out (each (λ p. edit_by l.place (Ok (Remove p))) (drop l.object-index l.objects)) (work l.model l.tally) ≡ run out (each (λ p. edit_by l.place (Ok (Remove p))) l.objects) (work l.fn.model l.fn.tally);
  counted : l.tally.expressions ≡ l.fn.tally.expressions;
  metamodel : l.model.metamodel ≡ l.fn.model.metamodel;
}
