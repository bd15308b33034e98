use Rattle.std.proofs.Common.{ℕ, List, Option, sym, subst}
use Rattle.std.specs.Prelude.{IfSome}
use Rattle.wb_metamodel.specs.Metamodel.{Metamodel}
use Rattle.wb_spec_check.specs.Units.{Expression, expression_of}
use Rattle.wb_answers.specs.UnitExpressions.{IsUnitExpression, IsUnitScope}
use Rattle.wb_aql_eval.specs.Outcomes.{Binds}
use Rattle.wb_refresh.proofs.table.Table.evaluate.Goals as goal

pub evaluate-requires-clause-bound : goal.evaluate-requires-clause-bound
evaluate-requires-clause-bound g c =
    let m = c.self.inside.model.now.metamodel in
    let e = c.in-Some.e.now in
    let known : IfSome (expression_of c.self.inside.spec.now c.args.unit.now) (IsUnitExpression m) =
    subst (λ (mm : Metamodel). IfSome (expression_of c.self.inside.spec.now c.args.unit.now) (IsUnitExpression mm)) c.metamodel.ensures c.unit_expressions_are_checked.ensures in
    let own : IsUnitExpression m e = subst (λ (found : Option Expression). IfSome found (IsUnitExpression m)) (sym c.in-Some.ensures) known in
    let scoped : IsUnitScope c.scope.result.now = subst IsUnitScope (sym c.scope.ensures) own.0 in
    subst (λ (scope : List (List ℕ)). Binds m scope c.in_ok-env-in-Some.env) c.scope.ensures (c.in_ok-env-in-Some.ensures.binds m scoped)
