use Rattle.std.proofs.Common.{[], ◌∷◌, Option, ap}
use Rattle.wb_diagram.specs.declared.keys.Key.{Key}
use Rattle.wb_diagram.specs.declared.units.Unit.TheVariants.{Candidates}
use Rattle.wb_answers.proofs.SeenLaws.{short}
use Rattle.wb_nodes.proofs.candidates.candidates_by.Goals as goal

pub returns-in_err-objects-clause-asks : goal.returns-in_err-objects-clause-asks
returns-in_err-objects-clause-asks g c = short _ _ _ [] _ _ c.from_residual-in_err-objects.ensures c.in_ok-answer.ensures.asks (ap (λ (p : Option Key). Candidates c.args.number p ∷ []) c.in_ok-parent_of.ensures)

pub returns-in_err-fitting-clause-asks : goal.returns-in_err-fitting-clause-asks
returns-in_err-fitting-clause-asks g c = short _ _ _ [] _ _ c.from_residual-in_err-fitting.ensures c.in_ok-answer.ensures.asks (ap (λ (p : Option Key). Candidates c.args.number p ∷ []) c.in_ok-parent_of.ensures)
