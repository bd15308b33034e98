use Rattle.wb_aql_grammar.proofs.Parts.{exit, as_tree, stop_by}
use Rattle.wb_aql_grammar.specs.invariants.Runs as run
use Rattle.wb_aql_grammar.proofs.atom.parse_literal.Goals as goal

pub returns-in_err-enumeration : goal.returns-in_err-enumeration
returns-in_err-enumeration c n l = exit _ _ _ _ c.from_residual.ensures.1 (c.in_err-enumeration.ensures n l _)

pub returns-in_err-rest : goal.returns-in_err-rest
returns-in_err-rest c n l = exit _ _ _ _ c.from_residual-in_err-rest.ensures.1
    (stop_by _ (c.in_ok-enumeration.ensures n l _) (c.in_err-rest.ensures n l _))

pub returns-in_err-name : goal.returns-in_err-name
returns-in_err-name c n l = exit _ _ _ _ c.from_residual-in_err-name.ensures.1
    (stop_by _ (c.in_ok-enumeration.ensures n l _) (stop_by _ (c.in_ok-rest.ensures n l _) (c.in_err-name.ensures n l _)))

pub returns : goal.returns
returns c n l = as_tree c.literal.ensures
    (c.in_ok-enumeration.ensures n l _ _ (c.in_ok-rest.ensures n l _ _ (c.in_ok-name.ensures n l _ _ run.runs_done)))
