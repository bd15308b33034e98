use Rattle.wb_metamodel.proofs.FeatureLaws.{features-inherited, features-distinct, features-declared}
use Rattle.wb_metamodel.proofs.laws.features_are_inherited.Goals as goal

pub returns-clause-order : goal.returns-clause-order
returns-clause-order c = features-inherited

pub returns-clause-once : goal.returns-clause-once
returns-clause-once c = features-distinct

pub returns-clause-declared : goal.returns-clause-declared
returns-clause-declared c = features-declared
