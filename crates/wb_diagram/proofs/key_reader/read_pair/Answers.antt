use Rattle.std.proofs.Common.{None, Some}
use Rattle.wb_diagram.proofs.Spelling.{cut_pair}
use Rattle.wb_diagram.proofs.key_reader.read_pair.Goals as goal

pub returns-in-None-clause-complete : goal.returns-in-None-clause-complete
returns-in-None-clause-complete c = λ pair small is. absurd (cut_pair c.args.text.now None c.in-None.ensures.cases pair small is)

pub returns-in-Some-clause-complete : goal.returns-in-Some-clause-complete
returns-in-Some-clause-complete c = λ pair small is.
    let cut = cut_pair c.args.text.now (Some (c.in-Some.mapping, c.in-Some.object)) c.in-Some.ensures.cases pair small is in
    c.pair_of.ensures.complete pair small cut.0 cut.1
