use Rattle.std.proofs.Common.{◌∙◌}
use Rattle.wb_http.proofs.Moving.{fills_on}
use Rattle.wb_http.proofs.Fronting.{misses_by}
use Rattle.wb_http.proofs.requests.read_front.Goals as goal

pub read_found-requires-clause-at_hand : goal.read_found-requires-clause-at_hand
read_found-requires-clause-at_hand g c = c.in-Ok.ensures.fills.gives.last ∙ c.requires

pub returns-in-Ok-clause-fills : goal.returns-in-Ok-clause-fills
returns-in-Ok-clause-fills g c = fills_on _ _ _ _ _ _ _ c.in-Ok.ensures.fills c.read_found.ensures.fills

pub returns-in-Err-clause-misses : goal.returns-in-Err-clause-misses
returns-in-Err-clause-misses g c = misses_by _ c.in-Err.end c.in-Err.ensures.ends c.in-Err.ensures.short
