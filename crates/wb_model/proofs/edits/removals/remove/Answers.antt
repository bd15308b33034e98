use Rattle.std.proofs.Common.{sym, ◌∙◌}
use Rattle.wb_model.proofs.Permuted.{removes}
use Rattle.wb_model.proofs.edits.removals.remove.Goals as goal

pub returns : goal.returns
returns c =
    removes c.args.store.now c.without.new.self c.args.o c.in_ok-objects.objects.items c.in_ok-dead.dead
    (sym c.is_live.ensures ∙ c.if-not-is_live.false) c.in_ok-objects.ensures c.in_ok-dead.ensures c.without.ensures
