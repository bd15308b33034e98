use Rattle.wb_expressions.proofs.WantOfMemory.{wrong_name}
use Rattle.wb_expressions.proofs.laws.wrong_names_are_no_want_of_memory.Goals as goal

pub returns : goal.returns
returns c = wrong_name
