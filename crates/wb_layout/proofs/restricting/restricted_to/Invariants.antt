use Rattle.std.proofs.Common.{◌≡◌, take, cond, None}
use Rattle.std.specs.FinMap.{get}
use Rattle.wb_diagram.specs.declared.keys.Key.{Key}
use Rattle.wb_layout.specs.Orders.{is_key}
use Rattle.wb_layout.proofs.restricting.restricted_to.Given as goal

-- those so far have their positions, and no others
abbrev pub invariant-loop-key : goal.invariant-loop-key
invariant-loop-key l = (q : Key) → get l.kept q ≡ cond (is_key (take l.key-index l.declared) q) (get l.layout q) None
