use Rattle.std.proofs.Common.{ℕ, ◌<◌, List, All, length, sym, subst}
use Rattle.wb_metamodel.proofs.Ranges.{features_in_range}
use Rattle.wb_aql_services.proofs.downwards.features_of.Goals as goal

pub returns-clause-known : goal.returns-clause-known
returns-clause-known c = subst (λ (fs : List ℕ). All (λ f. f < length c.args.metamodel.now.features) fs) (sym c.features_of.ensures) (features_in_range c.args.metamodel.now c.args.class)
