use Rattle.std.proofs.Common.{◌+◌, take, sym, subst, arith}
use Rattle.std.specs.List.{AllZip}
use Rattle.wb_metamodel.specs.invariants.Tables.{HasRow}
use Rattle.wb_base.proofs.Zips.{zip_more}
use Rattle.wb_metamodel.proofs.tables.rows.Goals as goal

pub loop-own-preserved : goal.loop-own-preserved
loop-own-preserved c =
    let places = c.args.places.now in
    let all = c.args.class_features.now in
    let i = c.loop-own.own-index in
    let has = subst (HasRow places c.in_ok-row.field-0) c.as_slice.ensures c.in_ok-row.ensures in
    subst (λ rs. AllZip (HasRow places) rs (take (i + 1) all)) (sym c.in_ok-push.ensures.items)
    (zip_more (HasRow places) c.loop-own.rows.items all i c.in_ok-row.field-0 c.own-item.result c.loop-own.invariant (omega arith) c.own-item.is has)
