use Rattle.wb_layout.proofs.Kept.{get-restricted}
use Rattle.wb_layout.proofs.laws.only_the_declared_stay.Goals as goal

pub returns : goal.returns
returns c = λ key. get-restricted c.args.layout.now c.args.declared.now key
