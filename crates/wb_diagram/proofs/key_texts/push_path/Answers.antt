use Rattle.std.proofs.Common.{arith}
use Rattle.std.proofs.lemmas.Grind.{common_steps}
use Rattle.wb_diagram.proofs.Paths.{path_text-none, path_text-first, path_text-more}
use Rattle.wb_diagram.proofs.key_texts.push_path.Goals as goal
use Rattle.wb_diagram.proofs.key_texts.push_path.Goals.{then-place-gt0+in_ok-push_str, else-place-gt0}

pub loop-place-init : goal.loop-place-init
loop-place-init c = grind (arith, common_steps, path_text-none)

pub loop-place-preserved : goal.loop-place-preserved
loop-place-preserved c =
    elim c.if-place-gt0.branch [
      | then-place-gt0+in_ok-push_str w ↦ grind (arith, common_steps, path_text-more)
      | else-place-gt0 w ↦ grind (arith, common_steps, path_text-none, path_text-first)
    ]
