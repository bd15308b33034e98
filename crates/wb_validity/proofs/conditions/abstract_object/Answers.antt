use Rattle.wb_validity.specs.Valid.{is_abstract}
use Rattle.wb_validity.proofs.Breaches.{least_begins}
use Rattle.wb_validity.proofs.conditions.abstract_object.Goals as goal

pub loop-record-init : goal.loop-record-init
loop-record-init c =
    let records = c.records-record-items in
    least_begins c.args.store.now records.result.now (record { shown = records.ensures.shown; plain = records.ensures.plain }) (λ o k. is_abstract c.args.store.now.metamodel k)
