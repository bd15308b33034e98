use Rattle.std.proofs.Common.{rules}
use Rattle.wb_spec_check.specs.Tools.{maybe_expression}
use Rattle.wb_spec_check.proofs.Joined.{joined2}
use Rattle.wb_spec_check.proofs.Steps.{place_member}
use Rattle.wb_spec_check.proofs.operations.unset_at.Goals as goal

pub returns : goal.returns
returns c = joined2 (λ _ checked. maybe_expression checked) c.row_where.result c.in_ok-known.ensures (rw (place_member, c.metamodel.ensures) at c.in_ok-checked.ensures) (grind (rules, c.row_where.ensures, c.maybe_expression.ensures))
