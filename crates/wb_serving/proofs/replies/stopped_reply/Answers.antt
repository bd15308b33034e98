use Rattle.std.proofs.Common.{refl}
use Rattle.std.specs.Fmt.{digits}
use Rattle.wb_serving.proofs.replies.stopped_reply.Goals as goal

pub returns : goal.returns
unfolding digits
returns c = refl
