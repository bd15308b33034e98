use Rattle.std.proofs.Common.{◌≡◌, ℕ, [], Ok, Err, map, sym, ap, subst, ◌∙◌}
use Rattle.wb_store.specs.declared.scalars.Scalar.TheVariants.{Object}
use Rattle.wb_store.specs.declared.scalars.Cell.TheVariants.{Inverse}
use Rattle.wb_store.specs.Cells.{inverse}
use Rattle.wb_aql_values.specs.declared.values.Sort.TheVariants as sort
use Rattle.wb_aql_values.specs.declared.values.Value.TheVariants.{Sequence, OrderedSet}
use Rattle.wb_aql_values.specs.Values.{collection, put}
use Rattle.wb_aql_values.specs.Readings.{contents, done, given, ◌>>=◌}
use Rattle.wb_aql_values.specs.Runs.{Became}
use Rattle.wb_aql_values.proofs.RunLemmas.{followed, returned, run_done, stopped}
use Rattle.wb_aql_services.specs.Navigation.{e_inverse}
use Rattle.wb_aql_services.proofs.Choices.{as_given, became_run, became_stopped, noted}
use Rattle.wb_aql_services.proofs.sidewards.e_inverse.Goals as goal

pub returns-in_err-put : goal.returns-in_err-put
unfolding e_inverse
returns-in_err-put c =
    let m = contents c.args.model.now in
    let f = λ (pair : ℕ × ℕ). Object pair.0 in
    let src : c.in_ok-sources_of.field-0 ≡ map f (inverse c.args.model.now c.args.o) = c.in_ok-sources_of.ensures ∙ ap (map f) (c.as_slice.ensures ∙ c.in_ok-pairs.ensures) in
    let expected = put sort.OrderedSet [] (Sequence (map f (inverse c.args.model.now c.args.o))) in
    let e : put c.new-sources.result.0 c.new-sources.result.1 (Sequence c.in_ok-sources_of.field-0) ≡ expected = λ i. put (c.new-sources.ensures i).0 (c.new-sources.ensures i).1 (Sequence (src i)) in
    returned _ c.from_residual-in_err-put.result c.in_err-put.field-0.0 c.note.new.self c.from_residual-in_err-put.ensures.1
    (as_given _ _ (Err c.in_err-put.field-0.0) c.note.new.self
    (noted m (Inverse c.args.o) (λ pairs. given (put sort.OrderedSet [] (Sequence (map f pairs))) >>= λ xs. done (OrderedSet xs)) c.args.reads.now c.note.new.self c.in_ok-note.ensures.ok)
    (stopped (λ xs. done (OrderedSet xs)) m (given expected) c.note.new.self c.in_err-put.field-0.0 c.note.new.self
    (became_stopped m expected c.in_err-put.field-0.0 c.put.new.self.1 c.note.new.self
    (subst (λ r. Became (Err c.in_err-put.field-0.0) r c.put.new.self.1) e c.in_err-put.ensures.put))))

pub returns : goal.returns
unfolding e_inverse
returns c =
    let m = contents c.args.model.now in
    let f = λ (pair : ℕ × ℕ). Object pair.0 in
    let src : c.in_ok-sources_of.field-0 ≡ map f (inverse c.args.model.now c.args.o) = c.in_ok-sources_of.ensures ∙ ap (map f) (c.as_slice.ensures ∙ c.in_ok-pairs.ensures) in
    let expected = put sort.OrderedSet [] (Sequence (map f (inverse c.args.model.now c.args.o))) in
    let e : put c.new-sources.result.0 c.new-sources.result.1 (Sequence c.in_ok-sources_of.field-0) ≡ expected = λ i. put (c.new-sources.ensures i).0 (c.new-sources.ensures i).1 (Sequence (src i)) in
    let xs = c.put.new.self.1 in
    let kind = c.in_ok-put.ensures.sort ∙ λ i. (c.new-sources.ensures i).0 in
    let value = ap (λ k. collection k xs) (sym kind) ∙ sym c.in_ok-into_value.ensures in
    noted m (Inverse c.args.o) (λ pairs. given (put sort.OrderedSet [] (Sequence (map f pairs))) >>= λ ys. done (OrderedSet ys)) c.args.reads.now c.note.new.self c.in_ok-note.ensures.ok
    ∙ (followed (λ ys. done (OrderedSet ys)) m (given expected) c.note.new.self xs c.note.new.self (became_run m expected xs c.note.new.self (sym e ∙ c.in_ok-put.ensures.put))
    ∙ (run_done m (OrderedSet xs) c.note.new.self ∙ ap (λ v. record { gave = Ok v; reads = c.note.new.self }) value))
