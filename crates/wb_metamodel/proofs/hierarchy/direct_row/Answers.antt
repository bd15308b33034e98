use Rattle.std.proofs.Common.{eqb, false, ap, ◌∙◌, arith}
use Rattle.std.proofs.lemmas.List.{take_all}
use Rattle.std.proofs.lemmas.List.FromFn.{fill_by_all}
use Rattle.std.specs.List.{list_any}
use Rattle.wb_metamodel.proofs.hierarchy.direct_row.Goals as goal

pub returns : goal.returns
returns c =
    let all = c.args.supertypes.now in
    c.from_vec.ensures
    ∙ fill_by_all (λ b. list_any (eqb b) all) c.loop-class.row.items c.args.count false c.loop-class.invariant.0
    (λ b h. c.loop-class.invariant.1 b h ∙ ap (list_any (eqb b)) (take_all c.loop-class.class-index all (omega arith)))
