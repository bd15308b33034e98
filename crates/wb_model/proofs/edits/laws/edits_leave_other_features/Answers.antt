use Rattle.wb_model.proofs.OtherFeatures.{set-only, add-only, take-only, unset-only}
use Rattle.wb_model.proofs.edits.laws.edits_leave_other_features.Goals as goal

pub returns-clause-set : goal.returns-clause-set
returns-clause-set c = λ m n well o f. set-only m well f n o

pub returns-clause-add : goal.returns-clause-add
returns-clause-add c = λ m n well o f. add-only m well f n o

pub returns-clause-take : goal.returns-clause-take
returns-clause-take c = λ m n well o f. take-only m well f n o

pub returns-clause-unset : goal.returns-clause-unset
returns-clause-unset c = λ m n well o f. unset-only m well f n o
