use Rattle.std.proofs.Common.{◌∙◌, None}
use Rattle.wb_http.proofs.Moving.{fills_none, fills_on}
use Rattle.wb_http.proofs.requests.read_up_to.Goals as goal

pub reads-init : goal.reads-init
reads-init g c = fills_none c.args.held.now (g.D.Door.told c.args.door.now)

pub fill-requires-clause-at_hand : goal.fill-requires-clause-at_hand
fill-requires-clause-at_hand g c = c.reads.invariant.gives.last ∙ c.requires.at_hand

pub reads-preserved : goal.reads-preserved
reads-preserved g c = fills_on _ _ _ _ _ _ None c.reads.invariant c.in-Ok.ensures.fills

pub returns-in-Err-clause-fills : goal.returns-in-Err-clause-fills
returns-in-Err-clause-fills g c = fills_on _ _ _ _ _ _ _ c.reads.invariant c.in-Err.ensures.fills
