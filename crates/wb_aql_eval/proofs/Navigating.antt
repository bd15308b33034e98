-- Runs of a feature of an object.
use Rattle.std.proofs.Common.{◌≡◌, ℕ, List, Some, None, Ok, Err, ap, ◌∙◌}
use Rattle.wb_metamodel.specs.Metamodel.{feature_named}
use Rattle.wb_store.specs.declared.scalars.Cell.{Cell}
use Rattle.wb_store.specs.declared.scalars.Cell.TheVariants.{Slot}
use Rattle.wb_store.specs.Contents.{Contents, slot}
use Rattle.wb_store.specs.Features.{is_many}
use Rattle.wb_aql_values.specs.declared.faults.Fault.TheVariants.{NoFeature}
use Rattle.wb_aql_values.specs.declared.faults.Halt.{Halt}
use Rattle.wb_aql_values.specs.declared.values.Value.{Value}
use Rattle.wb_aql_values.specs.Readings.{contents, Reading, done, held, given, class_of, ◌>>=◌}
use Rattle.wb_aql_values.specs.Runs.{run, with_read, Gives}
use Rattle.wb_aql_values.proofs.RunLemmas.{followed, stopped}
use Rattle.wb_aql_eval.specs.Features.{feature_of_object, known, shown}

module _ (m : Contents) (name : List ℕ) (o : ℕ) (old : List Cell) where
  -- what stands in the slot of a feature
  in_slot : ℕ → Reading Value
  in_slot f = held (Slot o f) >>= λ xs. done (shown (is_many m.metamodel f) xs)

  behind : ℕ → Reading Value
  behind class = given (known (feature_named m.metamodel class name)) >>= in_slot

  pub class_stopped : (stop : Halt) (reads : List Cell) → Gives (run (class_of o) (contents m) old) (Err stop) reads → Gives (run (feature_of_object m.metamodel name o) (contents m) old) (Err stop) reads
  unfolding feature_of_object behind in_slot
  class_stopped stop reads h = stopped behind (contents m) (class_of o) old stop reads h

  module _ (class : ℕ) (reads : List Cell) (e : run (class_of o) (contents m) old ≡ record { gave = Ok class; reads = reads }) where
    go : run (feature_of_object m.metamodel name o) (contents m) old ≡ run (behind class) (contents m) reads
    unfolding feature_of_object behind in_slot
    go = followed behind (contents m) (class_of o) old class reads e

    pub no_feature : feature_named m.metamodel class name ≡ None → run (feature_of_object m.metamodel name o) (contents m) old ≡ record { gave = Err NoFeature; reads = reads }
    unfolding behind run ◌>>=◌
    no_feature h = go ∙ ap (λ found. run (given (known found) >>= in_slot) (contents m) reads) h

    pub a_feature : (f : ℕ) → feature_named m.metamodel class name ≡ Some f → run (feature_of_object m.metamodel name o) (contents m) old ≡ record { gave = Ok (shown (is_many m.metamodel f) (slot m o f)); reads = with_read reads (Slot o f) }
    unfolding behind in_slot run ◌>>=◌
    a_feature f h = go ∙ ap (λ found. run (given (known found) >>= in_slot) (contents m) reads) h
