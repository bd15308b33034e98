use Rattle.std.proofs.Common.{Some}
use Rattle.wb_diagram.proofs.Spelling.{cut_ends}
use Rattle.wb_diagram.proofs.key_reader.read_ends.Goals as goal

pub returns-in_default-clause-complete : goal.returns-in_default-clause-complete
returns-in_default-clause-complete c = λ key paths small own is.
    absurd (rw c.in_default.is at (cut_ends c.args.ends.now c.split_once.result c.split_once.ensures.cases key.source key.target small.1 is))

pub returns-clause-complete : goal.returns-clause-complete
returns-clause-complete c = λ key paths small own is.
    let cut = cut_ends c.args.ends.now (Some (c.in-Some.source, c.in-Some.target)) c.in-Some.ensures.cases key.source key.target small.1 is in
    c.joined.ensures.complete key own
    (c.in_ok-source.ensures.complete key.source paths.source.not_empty small.1 cut.0)
    (c.in_ok-target.ensures.complete key.target paths.target.not_empty small.2 cut.1)
