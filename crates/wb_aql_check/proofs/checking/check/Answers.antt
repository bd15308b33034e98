use Rattle.wb_aql_check.proofs.KnownNames.{known_is_not_wrong}
use Rattle.wb_aql_check.proofs.ScopeNames.{names_outer}
use Rattle.std.proofs.Common.{◌≡◌, ap, sym, ◌∙◌, Ok}
use Rattle.wb_aql_check.specs.Checked.{unless_wrong}
use Rattle.wb_aql_check.specs.declared.checked.Origin.TheVariants as o
use Rattle.wb_aql_check.proofs.WrongNames.{told_refusal}
use Rattle.wb_aql_check.proofs.checking.check.Goals as goal

pub returns-in_err-check_node-clause-answered : goal.returns-in_err-check_node-clause-answered
returns-in_err-check_node-clause-answered c =
    told_refusal c.from_residual.result c.in_err-check_node.field-0.0 _ _ c.from_residual.ensures.1
    (rw (names_outer, c.node.ensures.tree) at c.in_err-check_node.ensures)

pub new-requires : goal.new-requires
new-requires c =
    let none = rw (names_outer, c.node.ensures.tree) at c.in_ok-check_node.ensures in
    (c.args.metamodel.now, rw c.in_ok-scope.ensures ((known_is_not_wrong c.args.metamodel.now c.args.scope.now c.args.expr).1 none))

pub returns-clause-answered : goal.returns-clause-answered
returns-clause-answered c =
    let none = rw (names_outer, c.node.ensures.tree) at c.in_ok-check_node.ensures in
    ap (λ first. unless_wrong first (o.Expr c.args.expr, c.args.scope.now)) none ∙ ap Ok (sym (c.new.ensures ∙ ap (λ z. (o.Expr c.args.expr, z)) c.in_ok-scope.ensures))

pub returns-clause-checked : goal.returns-clause-checked
returns-clause-checked c =
    let none = rw (names_outer, c.node.ensures.tree) at c.in_ok-check_node.ensures in
    rw (c.new.ensures, c.in_ok-scope.ensures) ((known_is_not_wrong c.args.metamodel.now c.args.scope.now c.args.expr).1 none)
