use Rattle.wb_http.specs.Requests.{head_limit}
use Rattle.wb_http.proofs.Fronting.{taken_within}
use Rattle.wb_http.proofs.requests.in_limit.Goals as goal

pub returns : goal.returns
returns c = taken_within head_limit c.min.result c.args.bytes.now c.min.ensures
