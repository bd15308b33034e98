use Rattle.wb_http.proofs.Deciding as deciding
use Rattle.wb_http.proofs.laws.less_is_short.Goals as goal

pub returns : goal.returns
returns c = deciding.short_within
