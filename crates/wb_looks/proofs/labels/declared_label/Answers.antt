use Rattle.std.proofs.Common.{◌∷◌, [], ap}
use Rattle.wb_diagram.specs.declared.keys.AnyKey.{AnyKey}
use Rattle.wb_diagram.specs.declared.units.Unit.TheVariants.{Label}
use Rattle.wb_answers.proofs.SeenLaws.{short}
use Rattle.wb_looks.proofs.labels.declared_label.Goals as goal

pub returns-in_err-form_of-clause-asks : goal.returns-in_err-form_of-clause-asks
returns-in_err-form_of-clause-asks g c = short _ _ _ [] _ _ c.from_residual-in_err-form_of.ensures c.in_ok-answer.ensures.asks (ap (λ (key : AnyKey). Label c.args.number key ∷ []) c.in_ok-copy.ensures)
