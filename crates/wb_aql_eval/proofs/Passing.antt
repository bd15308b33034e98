-- Answers that are passed on.
use Rattle.std.proofs.Common.{◌≡◌, Result, Ok, Err, sym, ap, subst}
use Rattle.std.specs.Result.{IsErrAnd}
use Rattle.wb_aql_values.specs.declared.faults.Fault.{Fault}
use Rattle.wb_aql_values.specs.declared.faults.Halt.{Halt}
use Rattle.wb_aql_values.specs.declared.faults.Halt.TheVariants as s
use Rattle.wb_base.specs.Answering.{AsDefined}
use Rattle.wb_aql_values.specs.Runs.{fault_in}
use Rattle.wb_base.specs.Results.{◌>>=◌}

module _ {A B : Type 0} (x : Result A Fault) (next : A → Result B Fault) where
  pub passes : (y : A) (result : Result B Halt) → x ≡ Ok y → AsDefined fault_in (next y) result → AsDefined fault_in (◌>>=◌ x next) result
  passes y result e h = subst (λ z. AsDefined fault_in (◌>>=◌ z next) result) (sym e) h

  pub passes_not : (stop : Halt) → AsDefined fault_in x (Err stop) → AsDefined {A = B} fault_in (◌>>=◌ x next) (Err stop)
  passes_not (s.Fault fault) h = ap (λ z. ◌>>=◌ z next) h
  passes_not s.NoMemory h = tt

pub is_returned : {B : Type 0} (x : Result B Fault) (result : Result B Halt) (stop : Halt) → IsErrAnd result (λ other. other ≡ stop) → AsDefined fault_in x (Err stop) → AsDefined fault_in x result
is_returned x (Ok y) stop h i = absurd h
is_returned x (Err other) stop h i = subst (λ (z : Halt). AsDefined fault_in x (Err z)) (sym h) i
