use Rattle.wb_marks.proofs.Settled.{settled_of, settled_stay, settled_once}
use Rattle.wb_marks.proofs.laws.marks_settle.Goals as goal

pub returns-clause-settled : goal.returns-clause-settled
returns-clause-settled c = settled_of

pub returns-clause-stay : goal.returns-clause-stay
returns-clause-stay c = settled_stay

pub returns-clause-once : goal.returns-clause-once
returns-clause-once c = settled_once
