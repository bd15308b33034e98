use Rattle.std.proofs.Common.{◌≡◌, [], map, Ok, Err, sym, ap, subst, ◌∙◌}
use Rattle.wb_store.specs.declared.scalars.Cell.TheVariants.{Extent}
use Rattle.wb_store.specs.declared.scalars.Scalar.TheVariants.{Object}
use Rattle.wb_store.specs.Cells.{extent}
use Rattle.wb_aql_values.specs.declared.values.Sort.TheVariants as sort
use Rattle.wb_aql_values.specs.declared.values.Value.TheVariants.{Sequence, OrderedSet}
use Rattle.wb_aql_values.specs.Bounds.{IsBounded}
use Rattle.wb_aql_values.specs.Values.{put, collection}
use Rattle.wb_aql_values.specs.Readings.{contents}
use Rattle.wb_aql_values.specs.Runs.{run, with_read, Gives}
use Rattle.wb_aql_values.proofs.RunLemmas.{returned}
use Rattle.wb_aql_eval.specs.Outcomes.{objects_of}
use Rattle.wb_aql_services.proofs.BoundedServices.{objects_bounded}
use Rattle.wb_aql_eval.proofs.Objects.{became_is, objects_given, objects_stopped}
use Rattle.wb_aql_values.proofs.Putting.{put_bounded, empty_bounded}
use Rattle.wb_aql_eval.proofs.evaluation.eval_objects.Goals as goal

pub returns-clause-value : goal.returns-clause-value
returns-clause-value c =
    let m = c.args.model.now in
    let ms : c.in_ok-members.members ≡ map Object (extent m c.args.class) = c.in_ok-members.ensures ∙ ap (map Object) (c.as_slice.ensures ∙ c.in_ok-found.ensures) in
    let start = ap (λ zs. put sort.OrderedSet [] (Sequence zs)) (sym ms) ∙ ap (λ g. put g.0 g.1 (Sequence c.in_ok-members.members)) (sym c.new-gathered.ensures) in
    let e = start ∙ c.in_ok-put.ensures.put in
    let v : OrderedSet c.put.new.self.1 ≡ c.in_ok-into_value.field-0 = ap (λ k. collection k c.put.new.self.1) (sym (c.in_ok-put.ensures.sort ∙ ap (λ g. g.0) c.new-gathered.ensures)) ∙ sym c.in_ok-into_value.ensures in
    objects_given m c.args.class c.args.reads.now c.put.new.self.1 e
    ∙ (ap (λ w. record { gave = Ok w; reads = with_read c.args.reads.now (Extent c.args.class) }) v ∙ ap (λ rs. record { gave = Ok c.in_ok-into_value.field-0; reads = rs }) (sym c.in_ok-note.ensures.ok))

pub returns-clause-bounded : goal.returns-clause-bounded
returns-clause-bounded c =
    let m = c.args.model.now in
    let ms : c.in_ok-members.members ≡ map Object (extent m c.args.class) = c.in_ok-members.ensures ∙ ap (map Object) (c.as_slice.ensures ∙ c.in_ok-found.ensures) in
    let start = ap (λ zs. put sort.OrderedSet [] (Sequence zs)) (sym ms) ∙ ap (λ g. put g.0 g.1 (Sequence c.in_ok-members.members)) (sym c.new-gathered.ensures) in
    let e = start ∙ c.in_ok-put.ensures.put in
    let v : OrderedSet c.put.new.self.1 ≡ c.in_ok-into_value.field-0 = ap (λ k. collection k c.put.new.self.1) (sym (c.in_ok-put.ensures.sort ∙ ap (λ g. g.0) c.new-gathered.ensures)) ∙ sym c.in_ok-into_value.ensures in
    subst (λ w. IsBounded m.metamodel w) v (put_bounded m.metamodel sort.OrderedSet [] c.put.new.self.1 (Sequence (map Object (extent m c.args.class))) (empty_bounded m.metamodel sort.OrderedSet) (objects_bounded m.metamodel (extent m c.args.class)) e)

pub returns-in_err-put-clause-value : goal.returns-in_err-put-clause-value
returns-in_err-put-clause-value c =
    let m = c.args.model.now in
    let ms : c.in_ok-members.members ≡ map Object (extent m c.args.class) = c.in_ok-members.ensures ∙ ap (map Object) (c.as_slice.ensures ∙ c.in_ok-found.ensures) in
    let start = ap (λ zs. put sort.OrderedSet [] (Sequence zs)) (sym ms) ∙ ap (λ g. put g.0 g.1 (Sequence c.in_ok-members.members)) (sym c.new-gathered.ensures) in
    returned _ c.from_residual-in_err-put.result c.in_err-put.field-0.0 c.note.new.self c.from_residual-in_err-put.ensures.1
    (subst (λ rs. Gives (run (objects_of c.args.class) (contents m) c.args.reads.now) (Err c.in_err-put.field-0.0) rs) (sym c.in_ok-note.ensures.ok)
    (objects_stopped m c.args.class c.args.reads.now c.in_err-put.field-0.0 (became_is c.in_err-put.field-0.0 _ c.put.new.self.1 (subst (λ x. Rattle.wb_aql_values.specs.Runs.Became (Err c.in_err-put.field-0.0) x c.put.new.self.1) (sym start) c.in_err-put.ensures.put))))
