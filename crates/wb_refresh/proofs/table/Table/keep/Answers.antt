use Rattle.std.proofs.Common.{ap, subst, sym}
use Rattle.std.specs.Prelude.{IfOk}
use Rattle.wb_metamodel.specs.Metamodel.{Metamodel}
use Rattle.wb_aql_values.specs.Bounds.{IsBounded}
use Rattle.wb_aql_values.specs.Runs.{answered}
use Rattle.wb_refresh.specs.Tables.{Evaluated}
use Rattle.wb_refresh.proofs.RowLaws.{weighed_more, within_more}
use Rattle.wb_refresh.proofs.table.Table.keep.Goals as goal

pub invariant_of-self-2 : goal.invariant_of-self-2
invariant_of-self-2 c =
    let old = c.self.inside.outcomes.items in
    let new = c.push.new.self.items in
    let own = ap (λ (t : Evaluated). t.setting.model.metamodel) (sym c.self.view_is) in
    let bounded = subst (λ (mm : Metamodel). IfOk (answered c.args.outcome.answer) (IsBounded mm)) own c.requires in
    let pushed = c.in_ok-push.ensures.items in (
      c.self.invariant.0,
      within_more old new (c.args.unit, c.args.outcome) pushed c.self.inside.model.now.metamodel c.self.invariant.1 bounded,
      weighed_more old new (c.args.unit, c.args.outcome) pushed c.self.inside.weight c.weight_of.result c.saturating_add-weight.result c.self.invariant.2 c.weight_of.ensures c.saturating_add-weight.ensures,
    )
