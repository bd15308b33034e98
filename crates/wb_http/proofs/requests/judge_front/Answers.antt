use Rattle.std.proofs.Common.{refl, sym}
use Rattle.std.proofs.lemmas.List.{length-take-le}
use Rattle.wb_http.proofs.Staying.{front_fits}
use Rattle.wb_http.proofs.Fronting.{front_small, takes_bad}
use Rattle.wb_http.proofs.requests.judge_front.Goals as goal

pub slice_bounds-judge-end : goal.slice_bounds-judge-end
slice_bounds-judge-end c =
    let fits = front_fits c.args.bytes.now c.args.end c.requires in
    sym (length-take-le c.args.end c.args.bytes.now fits.1)

pub returns-in-Ok-clause-small : goal.returns-in-Ok-clause-small
returns-in-Ok-clause-small c = front_small c.args.bytes.now c.args.end c.in-Ok.head c.requires c.in-Ok.ensures

pub returns-in-Err-clause-refused : goal.returns-in-Err-clause-refused
returns-in-Err-clause-refused c = (c.in-Err.refusal, refl, takes_bad c.args.bytes.now c.args.end c.in-Err.refusal c.requires c.in-Err.ensures)
