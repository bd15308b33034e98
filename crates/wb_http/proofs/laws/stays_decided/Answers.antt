use Rattle.wb_http.proofs.Deciding as deciding
use Rattle.wb_http.proofs.laws.stays_decided.Goals as goal

pub returns : goal.returns
returns c = deciding.stays_decided
