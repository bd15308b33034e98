use Rattle.std.proofs.Common.{sym, subst}
use Rattle.wb_outer.specs.Keeper.{IsAscending}
use Rattle.wb_outer.proofs.KeptRows.{IsAscending-changed}
use Rattle.wb_outer.proofs.sure_keeper.SureKeeperKeeper.commit.Goals as goal

pub invariant_of-self : goal.invariant_of-self
invariant_of-self c = subst IsAscending (sym c.in-Ok.ensures) (IsAscending-changed c.args.changes.now c.self.inside.rows c.self.invariant)
