-- Runs of readings that are put together.
use Rattle.std.proofs.Common.{◌≡◌, ℕ, List, [], ◌∷◌, Some, None, Result, Ok, Err, refl, sym, ap, subst, ◌∙◌}
use Rattle.std.specs.Result.{IsErrAnd}
use Rattle.wb_store.specs.declared.scalars.Scalar.{Scalar}
use Rattle.wb_store.specs.declared.scalars.Cell.{Cell}
use Rattle.wb_store.specs.declared.scalars.Cell.TheVariants.{Kind}
use Rattle.wb_store.specs.Contents.{Contents, kind}
use Rattle.wb_aql_values.specs.declared.faults.Fault.{Fault}
use Rattle.wb_aql_values.specs.declared.faults.Fault.TheVariants.{DeadObject}
use Rattle.wb_aql_values.specs.declared.faults.Halt.{Halt}
use Rattle.wb_aql_values.specs.declared.faults.Halt.TheVariants as s
use Rattle.wb_aql_values.specs.Readings.{Content, contents, Reading, done, fail, look, ◌>>=◌, held, given, live, each, class_of}
use Rattle.wb_aql_values.specs.Runs.{Ran, run, with_read, Gives, Leaves, Became}

-- what a run goes on with after what was given
abbrev pub onward : {A B : Type 0} → (A → Reading B) → ((c : Cell) → Content c) → Result A Fault → List Cell → Ran B
onward next m (Ok x) reads = run (next x) m reads
onward next m (Err fault) reads = record { gave = Err fault; reads = reads }

module _ {A B : Type 0} (next : A → Reading B) (m : (c : Cell) → Content c) where
  -- the run of one reading after another goes on with what the first gave, after its reads
  pub goes_on : (r : Reading A) (old : List Cell) → run (r >>= next) m old ≡ onward next m (run r m old).gave (run r m old).reads
  unfolding run ◌>>=◌
  goes_on (done y) old = refl
  goes_on (fail fault) old = refl
  goes_on (look c through) old = goes_on (through (m c)) (with_read old c)

  pub followed : (r : Reading A) (old : List Cell) (x : A) (reads : List Cell) → run r m old ≡ record { gave = Ok x; reads = reads } → run (r >>= next) m old ≡ run (next x) m reads
  followed r old x reads e = goes_on r old ∙ ap (λ (ran : Ran A). onward next m ran.gave ran.reads) e

  -- it ends with the fault of the first
  pub faulted : (r : Reading A) (old : List Cell) (fault : Fault) (reads : List Cell) → run r m old ≡ record { gave = Err fault; reads = reads } → run (r >>= next) m old ≡ record { gave = Err fault; reads = reads }
  faulted r old fault reads e = goes_on r old ∙ ap (λ (ran : Ran A). onward next m ran.gave ran.reads) e

  -- what stops the first stops both
  pub stopped : (r : Reading A) (old : List Cell) (stop : Halt) (reads : List Cell) → Gives (run r m old) (Err stop) reads → Gives (run (r >>= next) m old) (Err stop) reads
  stopped r old (s.Fault fault) reads h = faulted r old fault reads h
  stopped r old s.NoMemory reads h = tt

  -- after the first gave a value, both give what the second gives
  pub gives_next : (r : Reading A) (old : List Cell) (x : A) (reads : List Cell) (result : Result B Halt) (new : List Cell)
      → run r m old ≡ record { gave = Ok x; reads = reads } → Gives (run (next x) m reads) result new → Gives (run (r >>= next) m old) result new
  gives_next r old x reads result new e h = subst (λ ran. Gives ran result new) (sym (followed r old x reads e)) h

module _ {B : Type 0} (m : (c : Cell) → Content c) where
  -- a look goes on with what stands in the cell, which is read
  pub look_next : (c : Cell) (next : Content c → Reading B) (old : List Cell) → run (held c >>= next) m old ≡ run (next (m c)) m (with_read old c)
  unfolding run ◌>>=◌
  look_next c next old = refl

  -- what is given at once needs no read
  pub done_next : {A : Type 0} (x : A) (next : A → Reading B) (old : List Cell) → run (done x >>= next) m old ≡ run (next x) m old
  unfolding run ◌>>=◌
  done_next x next old = refl

  pub run_done : (x : B) (old : List Cell) → run (done x) m old ≡ record { gave = Ok x; reads = old }
  unfolding run
  run_done x old = refl

  pub run_fail : (fault : Fault) (old : List Cell) → run {A = B} (fail fault) m old ≡ record { gave = Err fault; reads = old }
  unfolding run
  run_fail fault old = refl

pub run_held : (m : (c : Cell) → Content c) (c : Cell) (old : List Cell) → run (held c) m old ≡ record { gave = Ok (m c); reads = with_read old c }
unfolding run
run_held m c old = refl

module _ {B : Type 0} (ran : Ran B) where
  -- a stop that is passed on
  pub returned : (result : Result B Halt) (stop : Halt) (reads : List Cell) → IsErrAnd result (λ other. other ≡ stop) → Gives ran (Err stop) reads → Gives ran result reads
  returned (Ok x) stop reads h g = absurd h
  returned (Err other) stop reads h g = subst (λ (y : Halt). Gives ran (Err y) reads) (sym h) g

  -- a stop leaves nothing in place
  pub nothing_left : (C : Type 0) (stop : Halt) (x : B) (reads : List Cell) → Leaves {B = C} ran (Err stop) x reads → Gives ran (Err stop) reads
  nothing_left C (s.Fault fault) x reads h = h
  nothing_left C s.NoMemory x reads h = tt

  pub left_stop : (C : Type 0) (stop : Halt) (x : B) (reads : List Cell) → Gives ran (Err stop) reads → Leaves {B = C} ran (Err stop) x reads
  left_stop C (s.Fault fault) x reads h = h
  left_stop C s.NoMemory x reads h = tt

  pub left_returned : (C : Type 0) (result : Result C Halt) (stop : Halt) (x : B) (reads : List Cell) → IsErrAnd result (λ other. other ≡ stop) → Gives ran (Err stop) reads → Leaves ran result x reads
  left_returned C (Ok y) stop x reads h g = absurd h
  left_returned C (Err other) stop x reads h g = subst (λ (y : Halt). Leaves {B = C} ran (Err y) x reads) (sym h) (left_stop C stop x reads g)

-- what was put together is left in place
pub became_left : (m : (c : Cell) → Content c) (expected : Result (List Scalar) Fault) (result : Result Unit Halt) (xs : List Scalar) (ran : Ran (List Scalar)) (reads : List Cell)
    → Became result expected xs → ran ≡ run (given expected) m reads → Leaves ran result xs reads
unfolding run
became_left m expected (Ok y) xs ran reads h e = e ∙ ap (λ r. run (given r) m reads) h
became_left m expected (Err (s.Fault fault)) xs ran reads h e = e ∙ ap (λ r. run (given r) m reads) h
became_left m expected (Err s.NoMemory) xs ran reads h e = tt

-- ---- steps taken in turn

module _ {A B : Type 0} (step : B → A → Reading B) (m : (c : Cell) → Content c) where
  pub each_none : (b : B) (old : List Cell) → run (each step b []) m old ≡ record { gave = Ok b; reads = old }
  unfolding run each
  each_none b old = refl

  -- after one step the others go on from it
  pub each_next : (b : B) (x : A) (xs : List A) (old : List Cell) (c : B) (reads : List Cell)
      → run (step b x) m old ≡ record { gave = Ok c; reads = reads } → run (each step b (x ∷ xs)) m old ≡ run (each step c xs) m reads
  unfolding each
  each_next b x xs old c reads e = followed (λ d. each step d xs) m (step b x) old c reads e

  -- what stops one step stops all
  pub each_stopped : (b : B) (x : A) (xs : List A) (old : List Cell) (stop : Halt) (reads : List Cell) → Gives (run (step b x) m old) (Err stop) reads → Gives (run (each step b (x ∷ xs)) m old) (Err stop) reads
  unfolding each
  each_stopped b x xs old stop reads h = stopped (λ d. each step d xs) m (step b x) old stop reads h

  -- ---- the same in a loop, whose steps from here on end as all of them do

  pub loop_next : (b : B) (ys : List A) (x : A) (xs : List A) (old : List Cell) (c : B) (reads : List Cell) (all : Ran B) → ys ≡ x ∷ xs
      → run (step b x) m old ≡ record { gave = Ok c; reads = reads } → run (each step b ys) m old ≡ all → run (each step c xs) m reads ≡ all
  loop_next b ys x xs old c reads all here e h = sym (each_next b x xs old c reads e) ∙ (ap (λ zs. run (each step b zs) m old) (sym here) ∙ h)

  pub loop_stopped : (b : B) (ys : List A) (x : A) (xs : List A) (old : List Cell) (stop : Halt) (reads : List Cell) (all : Ran B) → ys ≡ x ∷ xs
      → Gives (run (step b x) m old) (Err stop) reads → run (each step b ys) m old ≡ all → Gives all (Err stop) reads
  loop_stopped b ys x xs old stop reads all here e h =
      subst (λ ran. Gives ran (Err stop) reads) (ap (λ zs. run (each step b zs) m old) (sym here) ∙ h) (each_stopped b x xs old stop reads e)

  pub loop_done : (b : B) (ys : List A) (old : List Cell) (all : Ran B) → ys ≡ [] → run (each step b ys) m old ≡ all → all ≡ record { gave = Ok b; reads = old }
  loop_done b ys old all none h = sym h ∙ (ap (λ zs. run (each step b zs) m old) none ∙ each_none b old)

-- ---- the class of an object

module _ (m : Contents) (o : ℕ) (old : List Cell) where
  pub class_of_live : (c : ℕ) → kind m o ≡ Some c → run (class_of o) (contents m) old ≡ record { gave = Ok c; reads = with_read old (Kind o) }
  unfolding class_of run ◌>>=◌
  class_of_live c e = ap (λ k. run (given (live k)) (contents m) (with_read old (Kind o))) e

  pub class_of_dead : kind m o ≡ None → run (class_of o) (contents m) old ≡ record { gave = Err DeadObject; reads = with_read old (Kind o) }
  unfolding class_of run ◌>>=◌
  class_of_dead e = ap (λ k. run (given (live k)) (contents m) (with_read old (Kind o))) e
