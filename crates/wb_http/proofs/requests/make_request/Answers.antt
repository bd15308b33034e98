use Rattle.std.proofs.Common.{subst, sym}
use Rattle.std.specs.Str.{IsUtf8}
use Rattle.wb_http.proofs.Fronting.{front_text}
use Rattle.wb_http.proofs.requests.make_request.Goals as goal

pub from_slice-requires : goal.from_slice-requires
from_slice-requires c = subst IsUtf8 (sym c.of.ensures) (front_text c.args.bytes.now c.args.front c.requires.front)
