use Rattle.std.proofs.Common.{◌≡◌, Ok, Err, sym, ap, subst, ◌∙◌}
use Rattle.wb_aql_values.specs.Values.{members, sort_of, collection}
use Rattle.wb_aql_values.specs.Readings.{contents, done}
use Rattle.wb_aql_values.specs.Runs.{Gives, run}
use Rattle.wb_aql_values.proofs.RunLemmas.{followed, returned, stopped}
use Rattle.wb_aql_services.specs.Types.{kept}
use Rattle.wb_aql_services.specs.Collections.{filtered}
use Rattle.wb_aql_services.proofs.collections.filtered.Goals as goal

pub returns-in_err-kept : goal.returns-in_err-kept
unfolding filtered
returns-in_err-kept c =
    let mm = c.args.model.now.metamodel in
    let m = contents c.args.model.now in
    returned _ c.from_residual.result c.in_err-kept.field-0.0 c.kept.new.reads c.from_residual.ensures.1
    (stopped (λ xs. done (collection (sort_of c.args.receiver.now) xs)) m (kept mm c.args.asked.now (members c.args.receiver.now)) c.args.reads.now c.in_err-kept.field-0.0 c.kept.new.reads
    (subst (λ xs. Gives (run (kept mm c.args.asked.now xs) m c.args.reads.now) (Err c.in_err-kept.field-0.0) c.kept.new.reads) c.members.ensures c.in_err-kept.ensures))

pub returns : goal.returns
unfolding filtered run
returns c =
    let mm = c.args.model.now.metamodel in
    let m = contents c.args.model.now in
    followed (λ xs. done (collection (sort_of c.args.receiver.now) xs)) m (kept mm c.args.asked.now (members c.args.receiver.now)) c.args.reads.now c.in_ok-kept.kept c.kept.new.reads
    (subst (λ xs. run (kept mm c.args.asked.now xs) m c.args.reads.now ≡ record { gave = Ok c.in_ok-kept.kept; reads = c.kept.new.reads }) c.members.ensures c.in_ok-kept.ensures)
    ∙ ap (λ value. record { gave = Ok value; reads = c.kept.new.reads }) (ap (λ k. collection k c.in_ok-kept.kept) (sym c.sort.ensures) ∙ sym c.collection.ensures)
