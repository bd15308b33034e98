-- The run over the objects of a class.
use Rattle.std.proofs.Common.{◌≡◌, ℕ, List, [], map, Result, Ok, Err, refl, sym, subst, ◌∙◌}
use Rattle.wb_store.specs.declared.scalars.Cell.{Cell}
use Rattle.wb_store.specs.declared.scalars.Cell.TheVariants.{Extent}
use Rattle.wb_store.specs.declared.scalars.Scalar.{Scalar}
use Rattle.wb_store.specs.declared.scalars.Scalar.TheVariants.{Object}
use Rattle.wb_store.specs.Contents.{Contents}
use Rattle.wb_store.specs.Cells.{extent}
use Rattle.wb_aql_values.specs.declared.faults.Fault.{Fault}
use Rattle.wb_aql_values.specs.declared.faults.Halt.{Halt}
use Rattle.wb_aql_values.specs.declared.faults.Halt.TheVariants as s
use Rattle.wb_aql_values.specs.declared.values.Sort.TheVariants as sort
use Rattle.wb_aql_values.specs.declared.values.Value.TheVariants.{Sequence, OrderedSet}
use Rattle.wb_aql_values.specs.Values.{put}
use Rattle.wb_aql_values.specs.Readings.{contents, done, given, ◌>>=◌}
use Rattle.wb_aql_values.specs.Runs.{run, with_read, Gives, Became}
use Rattle.wb_base.specs.Answering.{AsDefined}
use Rattle.wb_aql_values.specs.Runs.{fault_in}
use Rattle.wb_aql_eval.specs.Outcomes.{objects_of}
use Rattle.wb_aql_eval.proofs.Running.{given_next, given_stops}

pub became_is : (stop : Halt) (expected : Result (List Scalar) Fault) (xs : List Scalar) → Became (Err stop) expected xs → AsDefined fault_in expected (Err stop)
became_is (s.Fault fault) expected xs h = h
became_is s.NoMemory expected xs h = tt

module _ (m : Contents) (class : ℕ) (old : List Cell) where
  gathered : Result (List Scalar) Fault
  gathered = put sort.OrderedSet [] (Sequence (map Object (extent m class)))

  looked : run (objects_of class) (contents m) old ≡ run (given gathered >>= λ xs. done (OrderedSet xs)) (contents m) (with_read old (Extent class))
  unfolding objects_of gathered run ◌>>=◌
  looked = refl

  pub objects_given : (xs : List Scalar) → put sort.OrderedSet [] (Sequence (map Object (extent m class))) ≡ Ok xs → run (objects_of class) (contents m) old ≡ record { gave = Ok (OrderedSet xs); reads = with_read old (Extent class) }
  unfolding gathered run
  objects_given xs e = looked ∙ given_next (contents m) (with_read old (Extent class)) gathered xs (λ xs. done (OrderedSet xs)) e

  pub objects_stopped : (stop : Halt) → AsDefined fault_in (put sort.OrderedSet [] (Sequence (map Object (extent m class)))) (Err stop) → Gives (run (objects_of class) (contents m) old) (Err stop) (with_read old (Extent class))
  unfolding gathered
  objects_stopped stop h = subst (λ ran. Gives ran (Err stop) (with_read old (Extent class))) (sym looked) (given_stops (contents m) (with_read old (Extent class)) gathered stop (λ xs. done (OrderedSet xs)) h)
