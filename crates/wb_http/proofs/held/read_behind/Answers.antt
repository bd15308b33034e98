use Rattle.std.proofs.Common.{arith}
use Rattle.wb_http.specs.Fronts.{read_of}
use Rattle.wb_http.proofs.Moving.{behind, fits_count}
use Rattle.wb_http.proofs.held.read_behind.Goals as goal

pub returns-clause-reads : goal.returns-clause-reads
returns-clause-reads g c =
    (c.read.new.room, c.read.ensures, behind c.args.len _ (read_of c.read.result) c.args.room.now c.read.new.room (omega arith) (fits_count c.read.result c.read.new.room c.read.ensures.fits))
