use Rattle.std.proofs.Common.{subst, Option}
use Rattle.std.specs.Prelude.{IfSome}
use Rattle.wb_layout.specs.Positions.{Position, IsInRange}
use Rattle.wb_layout.proofs.Maps.{found_at}
use Rattle.wb_layout.proofs.layout.Layout.keeps_in_range.Goals as goal

pub returns : goal.returns
returns c = λ key. subst (λ (found : Option Position). IfSome found IsInRange)
    (found_at c.self.inside.positions.items c.args.self.now c.self.view_is c.self.invariant.0 key) (c.self.invariant.1 key)
