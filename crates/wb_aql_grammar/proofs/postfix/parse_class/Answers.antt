use Rattle.std.proofs.Common.{arith}
use Rattle.wb_aql_grammar.proofs.Parts.{exit, stop_by}
use Rattle.wb_aql_grammar.proofs.Shorter.{sign_within, name_within}
use Rattle.wb_aql_grammar.proofs.postfix.parse_class.Goals as goal

pub returns-in_err-package-clause-class : goal.returns-in_err-package-clause-class
returns-in_err-package-clause-class c n l = exit _ _ _ _ c.from_residual.ensures.1 (λ k x v xs. c.in_err-package.ensures n l _)

pub returns-in_err-rest-clause-class : goal.returns-in_err-rest-clause-class
returns-in_err-rest-clause-class c n l = exit _ _ _ _ c.from_residual-in_err-rest.ensures.1
    (λ k x v xs. stop_by _ (c.in_ok-package.ensures n l _) (c.in_err-rest.ensures n l _))

pub returns-in_err-class-clause-class : goal.returns-in_err-class-clause-class
returns-in_err-class-clause-class c n l = exit _ _ _ _ c.from_residual-in_err-class.ensures.1
    (λ k x v xs. stop_by _ (c.in_ok-package.ensures n l _) (stop_by _ (c.in_ok-rest.ensures n l _) (c.in_err-class.ensures n l _)))

pub returns-clause-within : goal.returns-clause-within
returns-clause-within c = omega (arith, name_within c.in_ok-package.ensures, sign_within c.in_ok-rest.ensures, name_within c.in_ok-class.ensures)
