use Rattle.std.proofs.Common.{◌≡◌, subst, sym, rules}
use Rattle.wb_aql_eval.specs.Outcomes.{Binds}
use Rattle.wb_aql_eval.specs.declared.env.Env.{Env}
use Rattle.wb_answers.specs.Environments.{environment_of}
use Rattle.wb_answers.proofs.UnitScopes.{binds}
use Rattle.wb_answers.proofs.environments.environment.Goals as goal

pub returns-clause-binds : goal.returns-clause-binds
unfolding environment_of
returns-clause-binds c = λ mm is.
    let value : c.bind-2.new.env ≡ environment_of c.args.root c.args.unit.now c.args.scope.now = search rules in
    subst (λ (env : Env). Binds mm c.args.scope.now env) (sym value) (binds mm c.args.root c.args.unit.now c.args.scope.now is)
