use Rattle.std.proofs.Common.{◌≡◌, subst, Option}
use Rattle.std.specs.FinMap.{get}
use Rattle.wb_layout.specs.Positions.{Position}
use Rattle.wb_layout.specs.invariants.Kept.{kept_too}
use Rattle.wb_layout.proofs.Kept.{placed_too}
use Rattle.wb_layout.proofs.restricting.keep.Goals as goal

pub returns-in_ok-put : goal.returns-in_ok-put
returns-in_ok-put c = λ q. subst (λ (found : Option Position). get c.put.new.self q ≡ kept_too c.args.key.now found (get c.args.kept.now q) q) c.in-Some.ensures.position
    (placed_too c.args.kept.now c.put.new.self c.args.key.now c.in_ok-copy.field-0 c.in-Some.at q c.in_ok-put.ensures.ok c.in_ok-copy.ensures)
