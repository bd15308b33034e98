use Rattle.std.proofs.Common.{◌≡◌, true, take}
use Rattle.wb_looks.specs.Conditions.{is_unblocked}
use Rattle.wb_looks.specs.Visible.{is_path_visible}
use Rattle.wb_looks.proofs.visibility.is_unblocked.Given as goal

abbrev pub invariant-loop-pair : goal.invariant-loop-pair
invariant-loop-pair l = record {
  above : l.above.pairs ≡ take l.pair-index l.path;
  so_far : is_path_visible (is_unblocked l.blocked.keys) l.pair-index (take l.pair-index l.path) ≡ true;
}
