use Rattle.wb_http.proofs.Deciding as deciding
use Rattle.wb_http.proofs.laws.one_answer.Goals as goal

pub returns : goal.returns
returns c = deciding.one_answer
