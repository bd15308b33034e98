use Rattle.std.proofs.Common.{◌++◌, true, false, Ok, sym, ap, ◌∙◌, if◌then◌else◌}
use Rattle.wb_store.specs.declared.scalars.Cell.TheVariants.{Slot}
use Rattle.wb_store.specs.Cells.{objects_in}
use Rattle.wb_store.specs.Contents.{is_containment}
use Rattle.wb_aql_values.specs.Readings.{contents, done, held, ◌>>=◌}
use Rattle.wb_aql_values.specs.Runs.{run}
use Rattle.wb_aql_services.specs.Navigation.{with_slot}
use Rattle.wb_aql_services.proofs.Choices.{noted}
use Rattle.wb_aql_services.proofs.downwards.push_slot.Goals as goal

pub returns-then-not-is_containment : goal.returns-then-not-is_containment
unfolding with_slot run
returns-then-not-is_containment c =
    ap (λ b. run (if b then (held (Slot c.args.o c.args.f) >>= λ values. done (c.args.content.now ++ objects_in values)) else done c.args.content.now) (contents c.args.model.now) c.args.reads.now)
    (ap (λ mm. is_containment mm c.args.f) (sym c.metamodel.ensures) ∙ (sym c.is_containment.ensures ∙ c.if-not-is_containment.true))

pub returns : goal.returns
unfolding with_slot run
returns c =
    ap (λ b. run (if b then (held (Slot c.args.o c.args.f) >>= λ values. done (c.args.content.now ++ objects_in values)) else done c.args.content.now) (contents c.args.model.now) c.args.reads.now)
    (ap (λ mm. is_containment mm c.args.f) (sym c.metamodel.ensures) ∙ (sym c.is_containment.ensures ∙ c.if-not-is_containment.false))
    ∙ (noted (contents c.args.model.now) (Slot c.args.o c.args.f) (λ values. done (c.args.content.now ++ objects_in values)) c.args.reads.now c.note.new.self c.in_ok-note.ensures.ok
    ∙ ap (λ os. record { gave = Ok os; reads = c.note.new.self }) (ap (λ values. c.args.content.now ++ objects_in values) (sym c.get.ensures) ∙ sym c.in_ok-push_objects.ensures))
