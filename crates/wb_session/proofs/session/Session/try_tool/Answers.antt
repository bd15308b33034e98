use Rattle.std.proofs.Common.{subst}
use Rattle.wb_aql_eval.specs.Outcomes.{Binds}
use Rattle.wb_tools.specs.Readiness.{variables_of}
use Rattle.wb_session.specs.States.{State}
use Rattle.wb_session.proofs.session.Session.try_tool.Goals as goal

pub run_asked-requires-clause-binds : goal.run_asked-requires-clause-binds
run_asked-requires-clause-binds g c =
    let asked = c.in_ok-asked.asked in
    subst (λ (z : State). Binds z.body.model.metamodel (variables_of z.spec asked.tool) asked.env) c.self.view_is (c.in_ok-asked.ensures.binds c.self.inside.model.metamodel)
