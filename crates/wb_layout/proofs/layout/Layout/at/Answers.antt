use Rattle.std.proofs.Common.{◌∙◌, ap, sym, subst, Option}
use Rattle.std.specs.Prelude.{IfSome}
use Rattle.std.specs.FinMap.{find}
use Rattle.wb_layout.specs.Orders.{key_cmp}
use Rattle.wb_layout.specs.Positions.{Position, IsInRange}
use Rattle.wb_layout.proofs.Maps.{found_at}
use Rattle.wb_layout.proofs.layout.Layout.at.Goals as goal

pub returns-clause-position : goal.returns-clause-position
returns-clause-position c = c.found.ensures ∙ (ap (find key_cmp c.args.key.now) c.as_slice.ensures.value ∙ found_at c.self.inside.positions.items c.args.self.now c.self.view_is c.self.invariant.0 c.args.key.now)

pub returns-clause-in_range : goal.returns-clause-in_range
returns-clause-in_range c = subst (λ (found : Option Position). IfSome found IsInRange)
    (sym (c.found.ensures ∙ ap (find key_cmp c.args.key.now) c.as_slice.ensures.value)) (c.self.invariant.1 c.args.key.now)
