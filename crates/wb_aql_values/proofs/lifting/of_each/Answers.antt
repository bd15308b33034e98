use Rattle.std.proofs.Common.{◌≡◌, ◌+◌, [], ◌∷◌, drop, Ok, Err, refl, sym, ap, subst, ◌∙◌, arith}
use Rattle.std.proofs.lemmas.List.{drop_more, drop_all}
use Rattle.wb_aql_values.specs.Values.{collection}
use Rattle.wb_aql_values.specs.Readings.{contents, done, each, gather, of_each}
use Rattle.wb_aql_values.specs.Runs.{run, Gives}
use Rattle.wb_aql_values.proofs.RunLemmas.{followed, stopped, returned, nothing_left, run_done, loop_next, loop_stopped, loop_done}
use Rattle.wb_aql_values.proofs.lifting.of_each.Goals as goal

pub loop-x-init : goal.loop-x-init
loop-x-init g c = rw c.new-gathered.ensures (record { sort = refl; rest = refl })

pub returns-in_err-gather : goal.returns-in_err-gather
unfolding of_each
returns-in_err-gather g c =
    let l = c.loop-x in
    let xs = c.args.xs.now in
    let x = c.x-item.result in
    let m = contents c.args.model.now in
    let step = gather c.args.sort (g.F.OnScalars.on_scalar c.args.function.now c.args.model.now.metamodel) in
    let here : drop l.x-index xs ≡ x ∷ drop (l.x-index + 1) xs = drop_more xs l.x-index x (omega arith) ∙ ap (λ y. y ∷ drop (l.x-index + 1) xs) (sym c.x-item.is) in
    let one = subst (λ k. Gives (run (gather k (g.F.OnScalars.on_scalar c.args.function.now c.args.model.now.metamodel) l.gathered.1 x) m l.reads) (Err c.in_err-gather.field-0.0) c.gather.new.reads)
    l.invariant.sort (nothing_left _ Unit c.in_err-gather.field-0.0 c.gather.new.gathered.1 c.gather.new.reads c.in_err-gather.ensures.members) in
    returned _ c.from_residual.result c.in_err-gather.field-0.0 c.gather.new.reads c.from_residual.ensures.1
    (stopped (λ ys. done (collection c.args.sort ys)) m (each step [] xs) c.args.reads.now c.in_err-gather.field-0.0 c.gather.new.reads
    (loop_stopped step m l.gathered.1 (drop l.x-index xs) x (drop (l.x-index + 1) xs) l.reads c.in_err-gather.field-0.0 c.gather.new.reads _ here one l.invariant.rest))

pub loop-x-preserved : goal.loop-x-preserved
loop-x-preserved g c =
    let l = c.loop-x in
    let xs = c.args.xs.now in
    let x = c.x-item.result in
    let m = contents c.args.model.now in
    let step = gather c.args.sort (g.F.OnScalars.on_scalar c.args.function.now c.args.model.now.metamodel) in
    let here : drop l.x-index xs ≡ x ∷ drop (l.x-index + 1) xs = drop_more xs l.x-index x (omega arith) ∙ ap (λ y. y ∷ drop (l.x-index + 1) xs) (sym c.x-item.is) in
    let one = subst (λ k. run (gather k (g.F.OnScalars.on_scalar c.args.function.now c.args.model.now.metamodel) l.gathered.1 x) m l.reads ≡ record { gave = Ok c.gather.new.gathered.1; reads = c.gather.new.reads })
    l.invariant.sort c.in_ok-gather.ensures.members in
    record {
      sort = c.in_ok-gather.ensures.sort ∙ l.invariant.sort;
      rest = loop_next step m l.gathered.1 (drop l.x-index xs) x (drop (l.x-index + 1) xs) l.reads c.gather.new.gathered.1 c.gather.new.reads _ here one l.invariant.rest;
    }

pub returns : goal.returns
unfolding of_each
returns g c =
    let l = c.loop-x in
    let xs = c.args.xs.now in
    let m = contents c.args.model.now in
    let step = gather c.args.sort (g.F.OnScalars.on_scalar c.args.function.now c.args.model.now.metamodel) in
    let none : drop l.x-index xs ≡ [] = drop_all l.x-index xs (omega arith) in
    let all = loop_done step m l.gathered.1 (drop l.x-index xs) l.reads _ none l.invariant.rest in
    let value : collection c.args.sort l.gathered.1 ≡ c.in_ok-into_value.field-0 = ap (λ k. collection k l.gathered.1) (sym l.invariant.sort) ∙ sym c.in_ok-into_value.ensures in
    followed (λ ys. done (collection c.args.sort ys)) m (each step [] xs) c.args.reads.now l.gathered.1 l.reads all
    ∙ (run_done m (collection c.args.sort l.gathered.1) l.reads ∙ ap (λ v. record { gave = Ok v; reads = l.reads }) value)
