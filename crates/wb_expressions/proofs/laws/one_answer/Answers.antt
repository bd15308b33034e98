use Rattle.wb_expressions.proofs.OneAnswer.{the_answer}
use Rattle.wb_expressions.proofs.laws.one_answer.Goals as goal

pub returns : goal.returns
returns c = the_answer
