-- An expression was checked in the scope that it was read for.
use Rattle.std.proofs.Common.{◌≡◌, ℕ, List, Option, Some, None, Result, Ok, Err, refl, subst}
use Rattle.wb_base.specs.Results.{◌>>=◌}
use Rattle.wb_expressions.specs.Expressions.{expression, known_tree, tree_of}
use Rattle.wb_expressions.specs.declared.problem.ProblemCode.{ProblemCode}
use Rattle.wb_metamodel.specs.Metamodel.{Metamodel}
use Rattle.wb_aql_check.proofs.KnownNames.{known_is_not_wrong}
use Rattle.wb_aql_check.specs.Checked.{IsChecked, unless_wrong}
use Rattle.wb_aql_check.specs.Names.{first_wrong}
use Rattle.wb_aql_check.specs.declared.checked.Origin.TheVariants as o
use Rattle.wb_aql_check.specs.declared.refusal.CheckRefusal.{CheckRefusal}
use Rattle.wb_aql_grammar.specs.Tree.{Tree}
use Rattle.wb_spec_check.specs.Units.{Expression}

-- what was checked in a scope
abbrev pub CheckedIn : Metamodel → List (List ℕ) → Expression → Type 0
CheckedIn mm scope e = (e.1 ≡ scope) × IsChecked mm e

named_rightly : (mm : Metamodel) (scope : List (List ℕ)) (x : Tree) (wrong : Option CheckRefusal) (e : Expression) → first_wrong mm scope x ≡ wrong → known_tree (unless_wrong wrong (o.Expr x, scope)) ≡ Ok e → CheckedIn mm scope e
named_rightly mm scope x None e none is =
    let same : (o.Expr x, scope) ≡ e = cc in
    let P : Expression → Type 0 = CheckedIn mm scope in
    subst P same (refl, (known_is_not_wrong mm scope x).1 none)
named_rightly mm scope x (Some refusal) e none is = cc

pub expression_checked : (mm : Metamodel) (scope : List (List ℕ)) (text : List ℕ) (e : Expression) → expression mm scope text ≡ Ok e → CheckedIn mm scope e
unfolding expression
expression_checked mm scope text e is = by (tree_of text) is
  where
    by : (tree : Result Tree (ProblemCode × List ℕ)) → (tree >>= (λ x. known_tree (unless_wrong (first_wrong mm scope x) (o.Expr x, scope)))) ≡ Ok e → CheckedIn mm scope e
    by (Err problem) is = cc
    by (Ok x) is = named_rightly mm scope x (first_wrong mm scope x) e refl is
