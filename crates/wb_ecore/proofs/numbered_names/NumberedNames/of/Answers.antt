use Rattle.std.proofs.Common.{cond, Some, None, take, ap, ◌∙◌, sym, arith}
use Rattle.std.specs.List.{position}
use Rattle.std.specs.Option.{option_or}
use Rattle.wb_ecore.specs.Naming.{same_name}
use Rattle.wb_base.proofs.Positions.{position_more}
use Rattle.wb_ecore.proofs.numbered_names.NumberedNames.of.Goals as goal

pub loop-number-preserved : goal.loop-number-preserved
loop-number-preserved g c = λ name.
    let i = c.loop-number.number in
    let item = c.index-items-number.result in
    let passes : g.row.T.Denot → _ = λ x. same_name (g.T.Named.name_of x) name in
    c.in_ok-add.ensures name
    ∙ ap (λ o. option_or o (cond (same_name c.name.result.now name) (Some i) None)) (c.loop-number.invariant name)
    ∙ ap (λ n. option_or (position passes (take i c.args.items.now)) (cond (same_name n name) (Some i) None)) c.name.ensures
    ∙ sym (position_more passes c.args.items.now i item (omega arith) c.index-items-number.is)
