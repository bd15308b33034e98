use Rattle.std.proofs.Common.{◌≡◌, ◌≤◌, Ok, Err, length, map, subst, ◌∙◌, arith}
use Rattle.wb_store.specs.declared.scalars.Scalar.TheVariants.{Object}
use Rattle.wb_aql_values.specs.declared.values.Value.TheVariants.{Sequence}
use Rattle.wb_aql_values.specs.Readings.{contents, done}
use Rattle.wb_aql_values.specs.Runs.{Gives, run}
use Rattle.wb_aql_values.proofs.RunLemmas.{followed, returned, stopped, run_done}
use Rattle.wb_aql_services.specs.Types.{narrowed}
use Rattle.wb_aql_services.proofs.Choices.{as_given}
use Rattle.wb_aql_services.proofs.Sequencing.{sequence_long, sequence_short}
use Rattle.wb_aql_services.proofs.sequences.sequence.Goals as goal

pub returns-then-os-gt-MAX_MEMBERS : goal.returns-then-os-gt-MAX_MEMBERS
returns-then-os-gt-MAX_MEMBERS c =
    sequence_long c.args.model.now.metamodel c.args.asked.now (contents c.args.model.now) c.args.os.now c.args.reads.now (omega arith)

pub returns-in_err-ys : goal.returns-in_err-ys
returns-in_err-ys c =
    let mm = c.args.model.now.metamodel in
    let m = contents c.args.model.now in
    let short : length c.args.os.now ≤ 65536 = omega arith in
    returned _ c.from_residual-in_err-ys.result c.in_err-ys.field-0.0 c.narrowed.new.reads c.from_residual-in_err-ys.ensures.1
    (as_given _ _ (Err c.in_err-ys.field-0.0) c.narrowed.new.reads (sequence_short mm c.args.asked.now m c.args.os.now c.args.reads.now short)
    (stopped (λ ys. done (Sequence ys)) m (narrowed mm c.args.asked.now (map Object c.args.os.now)) c.args.reads.now c.in_err-ys.field-0.0 c.narrowed.new.reads
    (subst (λ xs. Gives (run (narrowed mm c.args.asked.now xs) m c.args.reads.now) (Err c.in_err-ys.field-0.0) c.narrowed.new.reads) c.in_ok-xs.ensures c.in_err-ys.ensures)))

pub returns : goal.returns
returns c =
    let mm = c.args.model.now.metamodel in
    let m = contents c.args.model.now in
    let short : length c.args.os.now ≤ 65536 = omega arith in
    sequence_short mm c.args.asked.now m c.args.os.now c.args.reads.now short
    ∙ (followed (λ ys. done (Sequence ys)) m (narrowed mm c.args.asked.now (map Object c.args.os.now)) c.args.reads.now c.in_ok-ys.ys c.narrowed.new.reads
    (subst (λ xs. run (narrowed mm c.args.asked.now xs) m c.args.reads.now ≡ record { gave = Ok c.in_ok-ys.ys; reads = c.narrowed.new.reads }) c.in_ok-xs.ensures c.in_ok-ys.ensures)
    ∙ run_done m (Sequence c.in_ok-ys.ys) c.narrowed.new.reads)
