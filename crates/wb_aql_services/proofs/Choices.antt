-- Runs of readings that go on by what stands there.
use Rattle.std.proofs.Common.{◌≡◌, List, Option, Some, None, Result, Ok, Err, sym, ap, subst}
use Rattle.std.specs.Option.{option_map_or}
use Rattle.wb_store.specs.declared.scalars.Scalar.{Scalar}
use Rattle.wb_store.specs.declared.scalars.Cell.{Cell}
use Rattle.wb_aql_values.specs.declared.faults.Halt.{Halt}
use Rattle.wb_aql_values.specs.declared.faults.Fault.{Fault}
use Rattle.wb_aql_values.specs.declared.faults.Halt.TheVariants as s
use Rattle.wb_aql_values.specs.Readings.{Content, Reading, held, given, ◌>>=◌}
use Rattle.wb_aql_values.specs.Runs.{Ran, run, with_read, Gives, Became}

-- what another run gave that is the same
pub as_given : {B : Type 0} (ran other : Ran B) (result : Result B Halt) (new : List Cell) → ran ≡ other → Gives other result new → Gives ran result new
as_given ran other result new e h = subst (λ r. Gives r result new) (sym e) h

module _ {A B : Type 0} (f : A → Reading B) (d : Reading B) (m : (c : Cell) → Content c) where
  -- where there is one
  pub at_some : (o : Option A) (x : A) (old : List Cell) → o ≡ Some x → run (option_map_or f o d) m old ≡ run (f x) m old
  at_some o x old e = ap (λ k. run (option_map_or f k d) m old) e

  -- and where there is none
  pub at_none : (o : Option A) (old : List Cell) → o ≡ None → run (option_map_or f o d) m old ≡ run d m old
  at_none o old e = ap (λ k. run (option_map_or f k d) m old) e

module _ {B : Type 0} (m : (c : Cell) → Content c) where
  -- a look that was noted
  pub noted : (c : Cell) (next : Content c → Reading B) (old new : List Cell) → new ≡ with_read old c → run (held c >>= next) m old ≡ run (next (m c)) m new
  unfolding run ◌>>=◌
  noted c next old new e = ap (λ r. run (next (m c)) m r) (sym e)

-- what is put together at once, or is too long
module _ (m : (c : Cell) → Content c) (expected : Result (List Scalar) Fault) where
  pub became_run : (xs : List Scalar) (old : List Cell) → expected ≡ Ok xs → run (given expected) m old ≡ record { gave = Ok xs; reads = old }
  unfolding run
  became_run xs old e = ap (λ r. run (given r) m old) e

  pub became_stopped : (stop : Halt) (xs : List Scalar) (old : List Cell) → Became (Err stop) expected xs → Gives (run (given expected) m old) (Err stop) old
  unfolding run
  became_stopped (s.Fault fault) xs old h = ap (λ r. run (given r) m old) h
  became_stopped s.NoMemory xs old h = tt
