use Rattle.wb_http.proofs.Fronting.{one_missed, one_taken}
use Rattle.wb_http.proofs.requests.read_one.Goals as goal

pub returns-in-Err : goal.returns-in-Err
returns-in-Err g c = one_missed _ _ _ _ c.in-Err.end c.in-Err.ensures.fills c.in-Err.ensures.misses

pub returns-in-Ok : goal.returns-in-Ok
returns-in-Ok g c =
    one_taken _ _ _ _ _ c.in-Ok.front c.take_front.result c.in-Ok.ensures.fills c.in-Ok.ensures.front c.in-Ok.ensures.whole c.take_front.ensures.made c.take_front.ensures.rest c.take_front.ensures.same c.take_front.ensures.no_memory
