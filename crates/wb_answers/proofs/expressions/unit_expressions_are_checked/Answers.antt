use Rattle.std.proofs.Common.{Option, Some, None}
use Rattle.std.specs.Prelude.{IfSome}
use Rattle.wb_spec_check.specs.Units.{Expression, expression_of}
use Rattle.wb_answers.specs.UnitExpressions.{IsUnitExpression}
use Rattle.wb_answers.proofs.Yields.{OfSome}
use Rattle.wb_answers.proofs.CheckedParts.{unit_expression}
use Rattle.wb_answers.proofs.expressions.unit_expressions_are_checked.Goals as goal

pub returns : goal.returns
returns c = by (expression_of c.args.spec.now c.args.unit.now) (unit_expression c.args.metamodel.now c.args.spec.now c.requires c.args.unit.now)
  where
    by : (found : Option Expression) → OfSome (IsUnitExpression c.args.metamodel.now) found → IfSome found (IsUnitExpression c.args.metamodel.now)
    by None fits = tt
    by (Some e) fits = fits
