use Rattle.wb_http.proofs.Targets.{key_part}
use Rattle.wb_http.proofs.routes.key_of.Goals as goal

pub from_slice-requires : goal.from_slice-requires
from_slice-requires c = key_part c.args.target.now c.as_bytes.result.now c.as_bytes.ensures.value c.requires c.as_bytes.ensures.utf8
