use Rattle.std.proofs.Common.{subst, List, ℕ}
use Rattle.wb_http.specs.Fronts.{HasFront, Misses}
use Rattle.wb_http.proofs.Moving.{fills_none, fills_own}
use Rattle.wb_http.proofs.Fronting.{own_bad, misses_bad}
use Rattle.wb_http.proofs.requests.read_behind_head.Goals as goal

pub read_body-requires-clause-front : goal.read_body-requires-clause-front
read_body-requires-clause-front g c = subst (λ (bytes : List ℕ). HasFront bytes c.in-Ok.front) c.as_slice.ensures c.in-Ok.ensures.front

pub returns-in-Err-clause-fills : goal.returns-in-Err-clause-fills
returns-in-Err-clause-fills g c = fills_own c.in-Err.end _ _ _ _ (own_bad _ c.in-Err.end c.in-Err.ensures.refused) (fills_none c.args.held.now (g.D.Door.told c.args.door.now))

pub returns-in-Err-clause-misses : goal.returns-in-Err-clause-misses
returns-in-Err-clause-misses g c = subst (λ (bytes : List ℕ). Misses bytes c.in-Err.end) c.as_slice.ensures (misses_bad _ c.in-Err.end c.in-Err.ensures.refused)
