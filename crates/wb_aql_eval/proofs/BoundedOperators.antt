-- What an operator gives is within the bounds of a value.
use Rattle.std.proofs.Common.{◌≡◌, ℕ, Bool, true, false, not, ◌||◌, nat_le, List, ◌++◌, length, Some, None, Result, Ok, Err, IfOk, refl, subst, if◌then◌else◌}
use Rattle.std.specs.Prelude.{ℤ, pos, int_div, neg_ℤ, ◌+ℤ◌, ◌-ℤ◌, ◌*ℤ◌}
use Rattle.std.specs.Ordering.{int_eq}
use Rattle.wb_metamodel.specs.Metamodel.{Metamodel}
use Rattle.wb_store.specs.declared.scalars.Scalar.TheVariants.{Int, Text}
use Rattle.wb_aql_grammar.specs.declared.expr.Unary.{Unary}
use Rattle.wb_aql_grammar.specs.declared.expr.Unary.TheVariants as u
use Rattle.wb_aql_grammar.specs.declared.expr.Binary.{Binary}
use Rattle.wb_aql_grammar.specs.declared.expr.Binary.TheVariants as o
use Rattle.wb_aql_eval.specs.declared.operators.Connective.{Connective}
use Rattle.wb_aql_eval.specs.declared.operators.Connective.TheVariants as n
use Rattle.wb_aql_eval.specs.declared.operators.Comparison.{Comparison}
use Rattle.wb_aql_eval.specs.declared.operators.Comparison.TheVariants as p
use Rattle.wb_aql_eval.specs.declared.operators.Calculation.{Calculation}
use Rattle.wb_aql_eval.specs.declared.operators.Calculation.TheVariants as c
use Rattle.wb_aql_values.specs.declared.faults.Fault.{Fault}
use Rattle.wb_aql_values.specs.declared.faults.Fault.TheVariants.{Overflow, DivideByZero}
use Rattle.wb_aql_values.specs.declared.faults.Halt.{Halt}
use Rattle.wb_aql_values.specs.declared.values.Value.{Value}
use Rattle.wb_aql_values.specs.declared.values.Value.TheVariants.{One}
use Rattle.wb_aql_values.specs.Bounds.{IsBounded}
use Rattle.wb_aql_values.specs.TextForms.{bounded_text, full_form, joined_forms, made}
use Rattle.wb_base.specs.Answering.{AsDefined}
use Rattle.wb_aql_values.specs.Runs.{fault_in}
use Rattle.wb_aql_eval.specs.Operators.{truth, integer, is_text, is_within, number, unary, joined, connected, ordered, compared, divided, arithmetic, calculated, added, combined}
use Rattle.wb_aql_values.specs.Values.{flag}
use Rattle.wb_base.specs.Results.{◌>>=◌}

module _ (mm : Metamodel) where
  -- each value that an answer can be
  abbrev pub AreBound : Result Value Fault → Type 0
  AreBound x = (v : Value) → x ≡ Ok v → IsBounded mm v

  pub bounded_answer : (x : Result Value Fault) (result : Result Value Halt) → AreBound x → AsDefined fault_in x result → IfOk result (IsBounded mm)
  bounded_answer x (Ok v) h i = h v i
  bounded_answer x (Err stop) h i = tt

  of_value : (w : Value) → IsBounded mm w → AreBound (Ok w)
  of_value w h v e = subst (λ z. IsBounded mm z) (let g : w ≡ v = cc in g) h

  of_fault : (fault : Fault) → AreBound (Err fault)
  of_fault fault v e = absurd (let g : ⊥ = cc in g)

  of_passing : {A : Type 0} (x : Result A Fault) (next : A → Result Value Fault) → ((y : A) → AreBound (next y)) → AreBound (◌>>=◌ x next)
  of_passing (Ok y) next h = h y
  of_passing (Err fault) next h = of_fault fault

  of_flag : (b : Bool) → AreBound (Ok (flag b))
  of_flag b = of_value (flag b) refl

  pub of_number : (z : ℤ) → AreBound (number z)
  of_number z = one (is_within z)
    where
      one : (b : Bool) → AreBound (if b then Ok (One (Int z)) else Err Overflow)
      one true = of_value (One (Int z)) refl
      one false = of_fault Overflow

  of_connected : (k : Connective) (v w : Value) → AreBound (connected k v w)
  of_connected k v w = of_passing (truth v) (λ a. ◌>>=◌ (truth w) (λ b. Ok (flag (joined k a b)))) (λ a. of_passing (truth w) (λ b. Ok (flag (joined k a b))) (λ b. of_flag (joined k a b)))

  of_compared : (k : Comparison) (v w : Value) → AreBound (compared k v w)
  of_compared k v w = of_passing (integer v) (λ a. ◌>>=◌ (integer w) (λ b. Ok (flag (ordered k a b)))) (λ a. of_passing (integer w) (λ b. Ok (flag (ordered k a b))) (λ b. of_flag (ordered k a b)))

  of_divided : (a b : ℤ) → AreBound (divided a b)
  of_divided a b = one (int_eq b (pos 0))
    where
      one : (zero : Bool) → AreBound (if zero then Err DivideByZero else number (int_div a b))
      one true = of_fault DivideByZero
      one false = of_number (int_div a b)

  of_arithmetic : (k : Calculation) (a b : ℤ) → AreBound (arithmetic k a b)
  of_arithmetic c.Subtract a b = of_number (a -ℤ b)
  of_arithmetic c.Multiply a b = of_number (a *ℤ b)
  of_arithmetic c.Divide a b = of_divided a b
  of_arithmetic c.Add a b = of_number (a +ℤ b)

  of_calculated : (k : Calculation) (v w : Value) → AreBound (calculated k v w)
  of_calculated k v w = of_passing (integer v) (λ a. ◌>>=◌ (integer w) (λ b. arithmetic k a b)) (λ a. of_passing (integer w) (λ b. arithmetic k a b) (λ b. of_arithmetic k a b))

  of_text : (bytes : List ℕ) → AreBound (◌>>=◌ (made (bounded_text bytes)) (λ bytes. Ok (One (Text bytes))))
  of_text bytes = one (nat_le (length bytes) 65536) refl
    where
      one : (short_enough : Bool) → nat_le (length bytes) 65536 ≡ short_enough → AreBound (◌>>=◌ (made (if short_enough then Some bytes else None)) (λ bytes. Ok (One (Text bytes))))
      one true e = of_value (One (Text bytes)) e
      one false e = of_fault _

  of_added : (v w : Value) → AreBound (added mm v w)
  unfolding joined_forms
  of_added v w = one (is_text v || is_text w)
    where
      one : (text : Bool) → AreBound (if text then ◌>>=◌ (made (bounded_text (full_form mm v ++ full_form mm w))) (λ bytes. Ok (One (Text bytes))) else calculated c.Add v w)
      one true = of_text (full_form mm v ++ full_form mm w)
      one false = of_calculated c.Add v w

  pub of_unary : (k : Unary) (v : Value) → AreBound (unary k v)
  of_unary u.Not v = of_passing (truth v) (λ b. Ok (flag (not b))) (λ b. of_flag (not b))
  of_unary u.Negate v = of_passing (integer v) (λ n. number (neg_ℤ n)) (λ n. of_number (neg_ℤ n))

  pub of_combined : (k : Binary) (v w : Value) → AreBound (combined mm k v w)
  of_combined o.And v w = of_connected n.And v w
  of_combined o.Or v w = of_connected n.Or v w
  of_combined o.Implies v w = of_connected n.Implies v w
  of_combined o.Xor v w = of_connected n.Xor v w
  of_combined o.Equal v w = of_flag _
  of_combined o.NotEqual v w = of_flag _
  of_combined o.Less v w = of_compared p.Less v w
  of_combined o.LessEqual v w = of_compared p.LessEqual v w
  of_combined o.Greater v w = of_compared p.Greater v w
  of_combined o.GreaterEqual v w = of_compared p.GreaterEqual v w
  of_combined o.Add v w = of_added v w
  of_combined o.Subtract v w = of_calculated c.Subtract v w
  of_combined o.Multiply v w = of_calculated c.Multiply v w
  of_combined o.Divide v w = of_calculated c.Divide v w
