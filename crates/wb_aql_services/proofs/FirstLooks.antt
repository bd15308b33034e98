-- What starts by looking at the class of an object.
use Rattle.std.proofs.Common.{◌≡◌, ℕ, true, false, List, [], ◌∷◌, ◌++◌, Option, Some, None, Ok, Err, ap, ◌∙◌, if◌then◌else◌}
use Rattle.std.specs.Option.{option_map_or}
use Rattle.wb_metamodel.specs.Metamodel.{Metamodel}
use Rattle.wb_store.specs.declared.scalars.Scalar.{Scalar}
use Rattle.wb_store.specs.declared.scalars.Scalar.TheVariants.{Object}
use Rattle.wb_store.specs.declared.scalars.Cell.{Cell}
use Rattle.wb_store.specs.declared.scalars.Cell.TheVariants.{Kind}
use Rattle.wb_store.specs.Contents.{Contents, kind}
use Rattle.wb_aql_values.specs.declared.faults.Halt.{Halt}
use Rattle.wb_aql_values.specs.Readings.{Content, contents, Reading, done, held, ◌>>=◌, class_of}
use Rattle.wb_aql_values.specs.Runs.{run, with_read, Gives}
use Rattle.wb_aql_values.proofs.RunLemmas.{followed, stopped}
use Rattle.wb_aql_services.proofs.Choices.{as_given, at_some, at_none, noted}
use Rattle.wb_aql_services.specs.Types.{object_in, is_of, keep}

module _ {B : Type 0} (next : ℕ → ℕ → Reading B) (d : Reading B) (m : (c : Cell) → Content c) where
  -- no object
  pub first_none : (x : Scalar) (old : List Cell) → object_in x ≡ None → run (option_map_or (λ o. class_of o >>= next o) (object_in x) d) m old ≡ run d m old
  first_none x old e = at_none (λ o. class_of o >>= next o) d m (object_in x) old e

  -- an object without a class, or want of memory
  pub first_stopped : (x : Scalar) (o : ℕ) (old : List Cell) (stop : Halt) (new : List Cell) → object_in x ≡ Some o → Gives (run (class_of o) m old) (Err stop) new
      → Gives (run (option_map_or (λ o. class_of o >>= next o) (object_in x) d) m old) (Err stop) new
  first_stopped x o old stop new e h = as_given _ _ (Err stop) new (at_some (λ o. class_of o >>= next o) d m (object_in x) o old e) (stopped (next o) m (class_of o) old stop new h)

  -- an object with its class
  pub first_next : (x : Scalar) (o : ℕ) (old : List Cell) (class : ℕ) (new : List Cell) → object_in x ≡ Some o → run (class_of o) m old ≡ record { gave = Ok class; reads = new }
      → run (option_map_or (λ o. class_of o >>= next o) (object_in x) d) m old ≡ run (next o class) m new
  first_next x o old class new e h = at_some (λ o. class_of o >>= next o) d m (object_in x) o old e ∙ followed (next o) m (class_of o) old class new h

module _ (m : Contents) (mm : Metamodel) (t : Option ℕ) (xs : List Scalar) (x : Scalar) (old : List Cell) where
  pub keep_none : object_in x ≡ None → run (keep mm t xs x) (contents m) old ≡ record { gave = Ok xs; reads = old }
  unfolding keep run
  keep_none e = at_none (λ o. held (Kind o) >>= λ k. done (if is_of mm t k then xs ++ Object o ∷ [] else xs)) (done xs) (contents m) (object_in x) old e

  keep_one : (o : ℕ) (new : List Cell) → object_in x ≡ Some o → new ≡ with_read old (Kind o)
      → run (keep mm t xs x) (contents m) old ≡ run (done (if is_of mm t (kind m o) then xs ++ Object o ∷ [] else xs)) (contents m) new
  unfolding keep
  keep_one o new e r =
      at_some (λ o. held (Kind o) >>= λ k. done (if is_of mm t k then xs ++ Object o ∷ [] else xs)) (done xs) (contents m) (object_in x) o old e
      ∙ noted (contents m) (Kind o) (λ k. done (if is_of mm t k then xs ++ Object o ∷ [] else xs)) old new r

  pub keep_yes : (o : ℕ) (new : List Cell) → object_in x ≡ Some o → is_of mm t (kind m o) ≡ true → new ≡ with_read old (Kind o)
      → run (keep mm t xs x) (contents m) old ≡ record { gave = Ok (xs ++ Object o ∷ []); reads = new }
  unfolding run
  keep_yes o new e f r = keep_one o new e r ∙ ap (λ b. run (done (if b then xs ++ Object o ∷ [] else xs)) (contents m) new) f

  pub keep_no : (o : ℕ) (new : List Cell) → object_in x ≡ Some o → is_of mm t (kind m o) ≡ false → new ≡ with_read old (Kind o)
      → run (keep mm t xs x) (contents m) old ≡ record { gave = Ok xs; reads = new }
  unfolding run
  keep_no o new e f r = keep_one o new e r ∙ ap (λ b. run (done (if b then xs ++ Object o ∷ [] else xs)) (contents m) new) f
