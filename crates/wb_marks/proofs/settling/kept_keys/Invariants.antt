use Rattle.std.proofs.Common.{◌≡◌, filter, take}
use Rattle.wb_marks.specs.Marks.{is_declared}
use Rattle.wb_marks.proofs.settling.kept_keys.Given as goal

abbrev pub invariant-loop-key : goal.invariant-loop-key
invariant-loop-key l = l.kept ≡ filter (is_declared l.declared.nodes.keys l.declared.edges.keys) (take l.key-index l.keys)
