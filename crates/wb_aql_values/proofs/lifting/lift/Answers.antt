use Rattle.std.proofs.Common.{sym, subst}
use Rattle.wb_aql_values.specs.Readings.{contents, lifted, of_each}
use Rattle.wb_aql_values.specs.Runs.{Gives, run}
use Rattle.wb_aql_values.specs.declared.values.Sort.TheVariants as sort
use Rattle.wb_aql_values.proofs.lifting.lift.Goals as goal

pub returns-in-Null : goal.returns-in-Null
unfolding lifted
returns-in-Null g c =
    let f = g.F.OnScalars.on_scalar c.args.function.now c.args.model.now.metamodel in
    let null = g.F.OnScalars.on_null c.args.function.now c.args.model.now.metamodel in
    subst (λ v. Gives (run (lifted null f v) (contents c.args.model.now) c.args.reads.now) c.of_null.result c.of_null.new.reads) (sym c.in-Null.is) c.of_null.ensures

pub returns-in-One : goal.returns-in-One
unfolding lifted
returns-in-One g c =
    let f = g.F.OnScalars.on_scalar c.args.function.now c.args.model.now.metamodel in
    let null = g.F.OnScalars.on_null c.args.function.now c.args.model.now.metamodel in
    subst (λ v. Gives (run (lifted null f v) (contents c.args.model.now) c.args.reads.now) c.of_scalar.result c.of_scalar.new.reads) (sym c.in-One.is) c.of_scalar.ensures

pub returns-in-Sequence : goal.returns-in-Sequence
unfolding lifted
returns-in-Sequence g c =
    let f = g.F.OnScalars.on_scalar c.args.function.now c.args.model.now.metamodel in
    let null = g.F.OnScalars.on_null c.args.function.now c.args.model.now.metamodel in
    subst (λ v. Gives (run (lifted null f v) (contents c.args.model.now) c.args.reads.now) c.of_each.result c.of_each.new.reads) (sym c.in-Sequence.is)
    (subst (λ xs. Gives (run (of_each sort.Sequence f xs) (contents c.args.model.now) c.args.reads.now) c.of_each.result c.of_each.new.reads) c.as_slice.ensures c.of_each.ensures)

pub returns-in-OrderedSet : goal.returns-in-OrderedSet
unfolding lifted
returns-in-OrderedSet g c =
    let f = g.F.OnScalars.on_scalar c.args.function.now c.args.model.now.metamodel in
    let null = g.F.OnScalars.on_null c.args.function.now c.args.model.now.metamodel in
    subst (λ v. Gives (run (lifted null f v) (contents c.args.model.now) c.args.reads.now) c.of_each-in-OrderedSet.result c.of_each-in-OrderedSet.new.reads) (sym c.in-OrderedSet.is)
    (subst (λ xs. Gives (run (of_each sort.OrderedSet f xs) (contents c.args.model.now) c.args.reads.now) c.of_each-in-OrderedSet.result c.of_each-in-OrderedSet.new.reads) c.as_slice-in-OrderedSet.ensures c.of_each-in-OrderedSet.ensures)
