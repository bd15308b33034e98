-- Runs of the readings that the nodes of an expression mean.
use Rattle.std.proofs.Common.{◌≡◌, Bool, true, false, List, [], ◌∷◌, ◌++◌, Option, Some, None, Result, Ok, Err, refl, sym, ap, subst, ◌∙◌, if◌then◌else◌}
use Rattle.std.specs.Bool.{beq}
use Rattle.wb_metamodel.specs.Metamodel.{Metamodel}
use Rattle.wb_store.specs.declared.scalars.Cell.{Cell}
use Rattle.wb_store.specs.declared.scalars.Scalar.{Scalar}
use Rattle.wb_aql_grammar.specs.declared.expr.Binary.{Binary}
use Rattle.wb_aql_values.specs.declared.faults.Fault.{Fault}
use Rattle.wb_aql_values.specs.declared.faults.Halt.{Halt}
use Rattle.wb_aql_values.specs.declared.faults.Halt.TheVariants as s
use Rattle.wb_aql_values.specs.declared.values.Value.{Value}
use Rattle.wb_aql_values.specs.Readings.{Content, Reading, done, given, ◌>>=◌}
use Rattle.wb_aql_values.specs.Runs.{Ran, run, Gives}
use Rattle.wb_aql_values.proofs.RunLemmas.{followed, stopped, gives_next, run_done}
use Rattle.wb_base.specs.Answering.{AsDefined}
use Rattle.wb_aql_values.specs.Runs.{fault_in}
use Rattle.wb_aql_eval.specs.Operators.{truth, decided, combined}
use Rattle.wb_aql_eval.specs.Iterations.{tested, kept, sift, first_that}
use Rattle.wb_aql_eval.specs.Meaning.{continued, chosen, unless_decided, after}

module _ (m : (c : Cell) → Content c) (old : List Cell) where
  -- ---- what looks at nothing

  pub run_given : {A : Type 0} (x : Result A Fault) → run (given x) m old ≡ record { gave = x; reads = old }
  unfolding run
  run_given (Ok x) = refl
  run_given (Err fault) = refl

  pub given_gives : {A : Type 0} (x : Result A Fault) (result : Result A Halt) → AsDefined fault_in x result → Gives (run (given x) m old) result old
  given_gives x (Ok y) h = run_given x ∙ ap (λ g. record { gave = g; reads = old }) h
  given_gives x (Err (s.Fault fault)) h = run_given x ∙ ap (λ g. record { gave = g; reads = old }) h
  given_gives x (Err s.NoMemory) h = tt

  pub given_next : {A B : Type 0} (x : Result A Fault) (y : A) (next : A → Reading B) → x ≡ Ok y → run (given x >>= next) m old ≡ run (next y) m old
  given_next x y next e = followed next m (given x) old y old (given_gives x (Ok y) e)

  pub given_stops : {A B : Type 0} (x : Result A Fault) (stop : Halt) (next : A → Reading B) → AsDefined fault_in x (Err stop) → Gives (run (given x >>= next) m old) (Err stop) old
  given_stops x stop next h = stopped next m (given x) old stop old (given_gives x (Err stop) h)

module _ {B : Type 0} (result : Result B Halt) (new : List Cell) where
  -- what is given by an equal run
  pub gives_equal : (one other : Ran B) → one ≡ other → Gives other result new → Gives one result new
  gives_equal one other e h = subst (λ ran. Gives ran result new) (sym e) h

-- ---- operators

module _ (mm : Metamodel) (o : Binary) (right : Reading Value) (m : (c : Cell) → Content c) (v : Value) (reads : List Cell) where
  behind : Option Value → Reading Value
  behind early = unless_decided early (right >>= λ w. given (combined mm o v w))

  pub not_decided : (stop : Halt) → AsDefined fault_in (decided o v) (Err stop) → Gives (run (continued mm o right v) m reads) (Err stop) reads
  unfolding continued behind
  not_decided stop h = given_stops m reads (decided o v) stop behind h

  pub decided_early : (w : Value) → decided o v ≡ Ok (Some w) → run (continued mm o right v) m reads ≡ record { gave = Ok w; reads = reads }
  unfolding continued behind run
  decided_early w h = given_next m reads (decided o v) (Some w) behind h

  pub goes_right : decided o v ≡ Ok None → run (continued mm o right v) m reads ≡ run (after right (λ w. given (combined mm o v w))) m reads
  unfolding continued behind
  goes_right h = given_next m reads (decided o v) None behind h

module _ (condition first second : Reading Value) (m : (c : Cell) → Content c) (old : List Cell) where
  choice : Bool → Reading Value
  choice b = if b then first else second

  pub condition_stopped : (stop : Halt) (reads : List Cell) → Gives (run condition m old) (Err stop) reads → Gives (run (chosen condition first second) m old) (Err stop) reads
  unfolding chosen choice
  condition_stopped stop reads h = stopped (λ v. given (truth v) >>= choice) m condition old stop reads h

  module _ (v : Value) (reads : List Cell) (e : run condition m old ≡ record { gave = Ok v; reads = reads }) where
    go_on : run (chosen condition first second) m old ≡ run (given (truth v) >>= choice) m reads
    unfolding chosen choice
    go_on = followed (λ v. given (truth v) >>= choice) m condition old v reads e

    pub not_true_or_false : (stop : Halt) → AsDefined fault_in (truth v) (Err stop) → Gives (run (chosen condition first second) m old) (Err stop) reads
    not_true_or_false stop h = gives_equal (Err stop) reads _ _ go_on (given_stops m reads (truth v) stop choice h)

    pub chose : (b : Bool) → truth v ≡ Ok b → run (chosen condition first second) m old ≡ run (if b then first else second) m reads
    unfolding choice
    chose b h = go_on ∙ given_next m reads (truth v) b choice h

-- ---- tests of members

module _ (f : Scalar → Reading Value) (m : (c : Cell) → Content c) (old : List Cell) (x : Scalar) where
  pub test_stopped : (stop : Halt) (reads : List Cell) → Gives (run (f x) m old) (Err stop) reads → Gives (run (tested f x) m old) (Err stop) reads
  unfolding tested
  test_stopped stop reads h = stopped (λ v. given (truth v)) m (f x) old stop reads h

  pub test_gives : (v : Value) (reads : List Cell) (result : Result Bool Halt) → run (f x) m old ≡ record { gave = Ok v; reads = reads } → AsDefined fault_in (truth v) result → Gives (run (tested f x) m old) result reads
  unfolding tested
  test_gives v reads result e h = gives_next (λ v. given (truth v)) m (f x) old v reads result reads e (given_gives m reads (truth v) result h)

  module _ (wanted : Bool) where
    pub sift_stopped : (xs : List Scalar) (stop : Halt) (reads : List Cell) → Gives (run (tested f x) m old) (Err stop) reads → Gives (run (sift f wanted xs x) m old) (Err stop) reads
    unfolding sift
    sift_stopped xs stop reads h = stopped (λ passes. done (kept wanted xs x passes)) m (tested f x) old stop reads h

    pub sift_gives : (xs : List Scalar) (b : Bool) (reads : List Cell) → run (tested f x) m old ≡ record { gave = Ok b; reads = reads } → run (sift f wanted xs x) m old ≡ record { gave = Ok (kept wanted xs x b); reads = reads }
    unfolding sift run
    sift_gives xs b reads e = followed (λ passes. done (kept wanted xs x passes)) m (tested f x) old b reads e

    pub first_stopped : (xs : List Scalar) (stop : Halt) (reads : List Cell) → Gives (run (tested f x) m old) (Err stop) reads → Gives (run (first_that f wanted (x ∷ xs)) m old) (Err stop) reads
    unfolding first_that
    first_stopped xs stop reads h = stopped (λ passes. if beq passes wanted then done (Some x) else first_that f wanted xs) m (tested f x) old stop reads h

    pub first_found : (xs : List Scalar) (b : Bool) (reads : List Cell) → run (tested f x) m old ≡ record { gave = Ok b; reads = reads } → beq b wanted ≡ true → run (first_that f wanted (x ∷ xs)) m old ≡ record { gave = Ok (Some x); reads = reads }
    unfolding first_that run
    first_found xs b reads e h = followed (λ passes. if beq passes wanted then done (Some x) else first_that f wanted xs) m (tested f x) old b reads e
        ∙ ap (λ (t : Bool). run (if t then done (Some x) else first_that f wanted xs) m reads) h

    pub first_passed_over : (xs : List Scalar) (b : Bool) (reads : List Cell) → run (tested f x) m old ≡ record { gave = Ok b; reads = reads } → beq b wanted ≡ false → run (first_that f wanted (x ∷ xs)) m old ≡ run (first_that f wanted xs) m reads
    unfolding first_that
    first_passed_over xs b reads e h = followed (λ passes. if beq passes wanted then done (Some x) else first_that f wanted xs) m (tested f x) old b reads e
        ∙ ap (λ (t : Bool). run (if t then done (Some x) else first_that f wanted xs) m reads) h

pub first_none : (f : Scalar → Reading Value) (m : (c : Cell) → Content c) (old : List Cell) (wanted : Bool) → run (first_that f wanted []) m old ≡ record { gave = Ok None; reads = old }
unfolding first_that run
first_none f m old wanted = refl

-- ---- two Bools

pub same_bools : (a b : Bool) → a ≡ b → beq a b ≡ true
same_bools true b e = subst (λ (x : Bool). beq true x ≡ true) e refl
same_bools false b e = subst (λ (x : Bool). beq false x ≡ true) e refl

pub other_bools : (a b : Bool) → ¬ (a ≡ b) → beq a b ≡ false
other_bools true true h = absurd (h refl)
other_bools true false h = refl
other_bools false true h = refl
other_bools false false h = absurd (h refl)

-- ---- searches, and calls with a list of arguments

pub searched : {A B : Type 0} (r : Reading A) (g : A → B) (m : (c : Cell) → Content c) (old : List Cell) (found : A) (reads : List Cell) →
    run r m old ≡ record { gave = Ok found; reads = reads } → run (r >>= λ x. done (g x)) m old ≡ record { gave = Ok (g found); reads = reads }
searched r g m old found reads e = followed (λ x. done (g x)) m r old found reads e ∙ run_done m (g found) reads

pub kept_more : (wanted b : Bool) (xs : List Scalar) (x : Scalar) → beq b wanted ≡ true → kept wanted xs x b ≡ xs ++ x ∷ []
kept_more wanted b xs x e = ap (λ (t : Bool). if t then xs ++ x ∷ [] else xs) e

pub kept_same : (wanted b : Bool) (xs : List Scalar) (x : Scalar) → beq b wanted ≡ false → kept wanted xs x b ≡ xs
kept_same wanted b xs x e = ap (λ (t : Bool). if t then xs ++ x ∷ [] else xs) e
