use Rattle.wb_model.proofs.PlainFeatures.{create-plain, move-plain, create-others, move-others}
use Rattle.wb_model.proofs.edits.laws.edits_of_objects_leave_plain_features.Goals as goal

pub returns-clause-create : goal.returns-clause-create
returns-clause-create c = λ m n well class place e o f plain. create-plain m well f plain o n class place e

pub returns-clause-move_to : goal.returns-clause-move_to
returns-clause-move_to c = λ m n well o p f e q g plain. move-plain m well g plain q n o p f e

pub returns-clause-created : goal.returns-clause-created
returns-clause-created c = create-others

pub returns-clause-moved : goal.returns-clause-moved
returns-clause-moved c = move-others
