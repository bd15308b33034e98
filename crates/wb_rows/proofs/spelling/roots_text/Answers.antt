use Rattle.std.proofs.Common.{arith}
use Rattle.std.proofs.lemmas.Grind.{common_steps}
use Rattle.wb_rows.proofs.Roots.{first_root, more_roots}
use Rattle.wb_rows.proofs.spelling.roots_text.Goals as goal
use Rattle.wb_rows.proofs.spelling.roots_text.Goals.{then-place-gt0+in_ok-push_str, else-place-gt0}

pub loop-place-preserved : goal.loop-place-preserved
loop-place-preserved c =
    elim c.if-place-gt0.branch [
      | then-place-gt0+in_ok-push_str w ↦ grind (arith, common_steps, more_roots)
      | else-place-gt0 w ↦ grind (arith, common_steps, first_root)
    ]
