use Rattle.wb_http.specs.declared.requests.RequestEnd.TheVariants as ends
use Rattle.wb_http.specs.declared.refusals.HttpRefusal.TheVariants.{HeadTooLarge}
use Rattle.std.proofs.Common.{subst}
use Rattle.wb_http.specs.Fronts.{IsEnd}
use Rattle.wb_http.proofs.Moving.{fills_none, fills_own}
use Rattle.wb_http.proofs.Fronting.{takes_long}
use Rattle.wb_http.proofs.requests.read_found.Goals as goal

pub returns-in-None-clause-fills : goal.returns-in-None-clause-fills
returns-in-None-clause-fills g c = fills_own (ends.Bad HeadTooLarge) _ _ _ _ tt (fills_none c.args.held.now (g.D.Door.told c.args.door.now))

pub returns-in-None-clause-misses : goal.returns-in-None-clause-misses
returns-in-None-clause-misses g c = takes_long c.args.held.now (subst (IsEnd c.args.held.now) c.in-None.is c.requires.found)
