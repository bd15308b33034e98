-- Integers within 64 signed bits.
use Rattle.std.proofs.Common.{◌≡◌, ℕ, ◌<◌, ◌^◌, Bool, true, false, nat_lt, Result, Ok, Err, ap, arith, w64, if◌then◌else◌}
use Rattle.std.proofs.lemmas.Bool.Decides.{nat_tests}
use Rattle.std.specs.Prelude.{ℤ, pos, negsuc, FitsSigned}
use Rattle.wb_store.specs.declared.scalars.Scalar.TheVariants.{Int}
use Rattle.wb_aql_values.specs.declared.faults.Fault.{Fault}
use Rattle.wb_aql_values.specs.declared.faults.Fault.TheVariants.{Overflow}
use Rattle.wb_aql_values.specs.declared.values.Value.{Value}
use Rattle.wb_aql_values.specs.declared.values.Value.TheVariants.{One}
use Rattle.wb_aql_eval.specs.Operators.{is_within, number}

below : (n : ℕ) → n < 2 ^ 63 → nat_lt n (2 ^ 63) ≡ true
below n h = grind (arith, nat_tests)

not_below : (n : ℕ) → ¬ (n < 2 ^ 63) → nat_lt n (2 ^ 63) ≡ false
not_below n h = grind (arith, nat_tests)

within_fits : (z : ℤ) → FitsSigned w64 z → is_within z ≡ true
within_fits (pos n) h = below n h.sfits
within_fits (negsuc n) h = below n h.sfits

within_overflows : (z : ℤ) → ¬ (FitsSigned w64 z) → is_within z ≡ false
within_overflows (pos n) h = not_below n (λ e. h (record { sfits = e }))
within_overflows (negsuc n) h = not_below n (λ e. h (record { sfits = e }))

pick : ℤ → Bool → Result Value Fault
pick z b = if b then Ok (One (Int z)) else Err Overflow

pub number_fits : (z : ℤ) → FitsSigned w64 z → number z ≡ Ok (One (Int z))
unfolding pick
number_fits z h = ap (pick z) (within_fits z h)

pub number_overflows : (z : ℤ) → ¬ (FitsSigned w64 z) → number z ≡ Err Overflow
unfolding pick
number_overflows z h = ap (pick z) (within_overflows z h)
