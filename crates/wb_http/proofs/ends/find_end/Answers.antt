use Rattle.std.proofs.Common.{◌+◌, refl, None, get_or, arith}
use Rattle.wb_http.proofs.Ending.{tells_on, ends_here, no_end}
use Rattle.wb_http.proofs.ends.find_end.Goals as goal

pub returns-in-None-clause-found : goal.returns-in-None-clause-found
returns-in-None-clause-found c = ends_here c.args.bytes.now (c.loop-progress.progress.seen + 1) (omega arith)
    (tells_on c.loop-progress.progress.mark None c.args.bytes.now c.loop-progress.progress.seen (get_or c.args.bytes.now c.loop-progress.progress.seen 0) c.loop-progress-test.true refl c.loop-progress.invariant.tells c.in-None.ensures)

pub returns-clause-found : goal.returns-clause-found
returns-clause-found c = no_end c.loop-progress.progress.mark c.args.bytes.now c.loop-progress.progress.seen c.loop-progress-test.false c.loop-progress.invariant.tells
