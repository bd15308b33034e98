use Rattle.wb_program.proofs.Problems.{bad_told}
use Rattle.wb_program.proofs.checking.good_viewpoint.Goals as goal

pub returns-in-Bad-clause-reaches : goal.returns-in-Bad-clause-reaches
returns-in-Bad-clause-reaches c =
    bad_told c.args.name.now c.args.metamodel.now c.args.viewpoint c.in_ok-checked.field-0 c.in-Bad.problems c.as_slice.result.now c.first_problem.result
    c.in_ok-checked.ensures c.in-Bad.is c.as_slice.ensures c.first_problem.ensures
