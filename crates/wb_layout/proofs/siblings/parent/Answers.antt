use Rattle.std.proofs.Common.{◌∙◌, ap, List, length, take, ◌-◌}
use Rattle.wb_diagram.specs.Keys.{parent_pairs}
use Rattle.wb_diagram.specs.declared.keys.Pair.{Pair}
use Rattle.wb_diagram.specs.declared.keys.Key.{Key}
use Rattle.wb_layout.proofs.siblings.parent.Goals as goal

pub returns : goal.returns
unfolding parent_pairs
returns c = ap (λ pairs. let k : Key = record { pairs = pairs } in k)
    (c.from_vec.ensures ∙ c.in_ok-pairs.ensures.items ∙ c.all_but_last.ensures ∙ ap (λ (ps : List Pair). take (length ps - 1) ps) c.as_slice.ensures)
