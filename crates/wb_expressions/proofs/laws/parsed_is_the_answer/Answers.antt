use Rattle.wb_expressions.specs.Parsed.{parsed_answers}
use Rattle.wb_expressions.proofs.laws.parsed_is_the_answer.Goals as goal

pub returns : goal.returns
returns c = parsed_answers
