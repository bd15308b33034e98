use Rattle.std.proofs.Common.{◌≡◌, cond, Some, None, take, ap, ◌∙◌, sym, arith}
use Rattle.std.proofs.lemmas.List.{take_all}
use Rattle.std.specs.List.{position}
use Rattle.std.specs.Option.{option_or}
use Rattle.wb_base.specs.Names.{same_name}
use Rattle.wb_base.proofs.Positions.{position_more}
use Rattle.wb_spec_check.proofs.OwnNames.{placed}
use Rattle.wb_spec_check.proofs.own_names.numbered.Goals as goal

pub loop-number-preserved : goal.loop-number-preserved
loop-number-preserved g c = λ name.
    let i = c.loop-number.number in
    let item = c.index-items-number.result in
    let passes : g.row.T.Denot → _ = λ x. same_name (g.T.Titled.title x) name in
    let text : c.as_bytes.result.now ≡ g.T.Titled.title item = c.as_bytes.ensures.value ∙ c.as_str.ensures.same ∙ c.title.ensures in
    c.in_ok-add.ensures name
    ∙ ap (λ o. option_or o (cond (same_name c.as_bytes.result.now name) (Some i) None)) (c.loop-number.invariant name)
    ∙ ap (λ n. option_or (position passes (take i c.args.items.now)) (cond (same_name n name) (Some i) None)) text
    ∙ sym (position_more passes c.args.items.now i item (omega arith) c.index-items-number.is)

pub returns : goal.returns
returns g c = λ name.
    let passes : g.row.T.Denot → _ = λ x. same_name (g.T.Titled.title x) name in
    c.loop-number.invariant name
    ∙ ap (position passes) (take_all c.loop-number.number c.args.items.now (omega arith))
    ∙ sym (placed g.T.Titled.title c.args.items.now name)
