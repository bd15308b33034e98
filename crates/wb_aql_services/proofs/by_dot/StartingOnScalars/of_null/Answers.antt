use Rattle.std.proofs.Common.{ℕ, List, subst}
use Rattle.wb_aql_values.specs.Readings.{contents}
use Rattle.wb_aql_values.specs.Runs.{Gives, run}
use Rattle.wb_aql_services.specs.Texts.{begins}
use Rattle.wb_aql_services.proofs.by_dot.StartingOnScalars.of_null.Goals as goal

pub returns : goal.returns
returns c = subst (λ (form : List ℕ). Gives (run (begins c.args.model.now.metamodel c.args.self.now.value.now form) (contents c.args.model.now) c.args.reads.now) c.begins.result c.begins.new.reads) c.new.ensures.bytes c.begins.ensures
