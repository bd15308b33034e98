use Rattle.wb_marks.proofs.Apart as apart
use Rattle.wb_marks.proofs.laws.marks_are_distinct.Goals as goal

pub returns-clause-unmarked : goal.returns-clause-unmarked
returns-clause-unmarked c = apart.unmarked_apart

pub returns-clause-shown : goal.returns-clause-shown
returns-clause-shown c = apart.shown_apart

pub returns-clause-unshown : goal.returns-clause-unshown
returns-clause-unshown c = apart.unshown_apart

pub returns-clause-hidden : goal.returns-clause-hidden
returns-clause-hidden c = apart.hidden_apart

pub returns-clause-revealed : goal.returns-clause-revealed
returns-clause-revealed c = apart.revealed_apart

pub returns-clause-placed : goal.returns-clause-placed
returns-clause-placed c = apart.placed_apart

pub returns-clause-arranged : goal.returns-clause-arranged
returns-clause-arranged c = apart.arranged_apart

pub returns-clause-layer : goal.returns-clause-layer
returns-clause-layer c = apart.layer_apart

pub returns-clause-filter : goal.returns-clause-filter
returns-clause-filter c = apart.filter_apart

pub returns-clause-settled : goal.returns-clause-settled
returns-clause-settled c = apart.settled_apart
