use Rattle.std.proofs.Common.{sym, subst}
use Rattle.wb_outer.specs.Keeper.{IsAscending}
use Rattle.wb_outer.proofs.KeptRows.{IsAscending-changed}
use Rattle.wb_keepers.proofs.memory_keeper.commit_to.Goals as goal

pub returns-in-Ok-clause-ascending : goal.returns-in-Ok-clause-ascending
returns-in-Ok-clause-ascending c = subst IsAscending (sym c.in-Ok.ensures) (IsAscending-changed c.args.changes.now c.args.rows.now c.requires)
