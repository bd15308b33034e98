use Rattle.wb_http.proofs.Fronting.{front_filled, front_short, misses_by}
use Rattle.wb_http.proofs.requests.read_body.Goals as goal

pub returns-in-Ok-clause-front : goal.returns-in-Ok-clause-front
returns-in-Ok-clause-front g c = front_filled _ _ _ _ _ c.args.front c.in-Ok.ensures.fills c.requires.front

pub returns-in-Err-clause-misses : goal.returns-in-Err-clause-misses
returns-in-Err-clause-misses g c =
    misses_by _ _ c.in-Err.ensures.ends (front_short _ c.args.front (front_filled _ _ _ _ _ c.args.front c.in-Err.ensures.fills c.requires.front) c.in-Err.ensures.short)
