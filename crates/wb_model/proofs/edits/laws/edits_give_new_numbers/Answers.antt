use Rattle.wb_model.proofs.EditLaws.{numbers-fresh, dead-stays}
use Rattle.wb_model.proofs.edits.laws.edits_give_new_numbers.Goals as goal

pub returns-clause-fresh : goal.returns-clause-fresh
returns-clause-fresh c = numbers-fresh

pub returns-clause-never_again : goal.returns-clause-never_again
returns-clause-never_again c = dead-stays
