-- Decimal digits without a leading zero are read as the number that they write.
use Rattle.std.proofs.Common.{◌≡◌, refl, ℕ, ◌<◌, ◌≤◌, Bool, true, false, nat_le, List, [], ◌∷◌, length, Result, Ok, Err, IfOk, arith}
use Rattle.std.specs.List.{list_all}
use Rattle.std.specs.Result.{OkIff, IsOk}
use Rattle.std.specs.Str.Parse.{AllDigits, IsNumeral, ParsesUnsigned, digits_value, without_leading_plus}
use Rattle.std.specs.Char.{digit_value}
use Rattle.std.proofs.lemmas.Bool.{and_parts, leb-true, le-leb}
use Rattle.std.proofs.lemmas.Bool.Decides.{nat_tests}
use Rattle.std.specs.Cmp.Derive.{both_true}
use Rattle.wb_program.specs.Words.{is_digit, is_numeral, is_number}

digit_in_radix : (c : ℕ) → is_digit c ≡ true → digit_value c < 10
digit_in_radix c h = let parts = and_parts (nat_le 48 c) (nat_le c 57) h in let low = leb-true 48 c parts.0 in let high = leb-true c 57 parts.1 in grind (arith, nat_tests)

all_in_radix : (ds : List ℕ) → list_all is_digit ds ≡ true → AllDigits 10 ds
all_in_radix [] h = tt
all_in_radix (c ∷ cs) h = let parts = and_parts (is_digit c) (list_all is_digit cs) h in (digit_in_radix c parts.0, all_in_radix cs parts.1)

no_plus : (ds : List ℕ) → list_all is_digit ds ≡ true → without_leading_plus ds ≡ ds
no_plus [] h = refl
no_plus (c ∷ cs) h =
    let parts = and_parts (is_digit c) (list_all is_digit cs) h in
    let high = leb-true 48 c (and_parts (nat_le 48 c) (nat_le c 57) parts.0).0 in grind (arith, nat_tests)

numeral_parts : (ds : List ℕ) → is_numeral ds ≡ true → (0 < length ds) × (list_all is_digit ds ≡ true)
numeral_parts [] h = cc
numeral_parts (c ∷ cs) h = (omega arith, (and_parts _ (list_all is_digit (c ∷ cs)) h).1)

-- what `parse` answers of a numeral
pub parsed : {E : Type 0} (ds : List ℕ) (r : Result ℕ E) → is_numeral ds ≡ true → ParsesUnsigned 32 10 ds r → OkIff r (digits_value 10 ds < 4294967296) (digits_value 10 ds)
parsed {E} ds r h parses = by r (rw (no_plus ds (numeral_parts ds h).1) at parses)
  where
    by : (s : Result ℕ E) → OkIff s (IsNumeral 10 ds × (digits_value 10 ds < 4294967296)) (digits_value 10 ds) → OkIff s (digits_value 10 ds < 4294967296) (digits_value 10 ds)
    by (Ok n) is = (is.0.1, is.1)
    by (Err e) is = λ small. is (((numeral_parts ds h).0, all_in_radix ds (numeral_parts ds h).1), small)

-- what is not read is more than any number of 32 bits
pub unread : {E : Type 0} (ds : List ℕ) (e : E) (most : ℕ) → is_numeral ds ≡ true → most < 4294967296 → ParsesUnsigned 32 10 ds (Err e) → false ≡ nat_le (digits_value 10 ds) most
unread ds e most h small parses = let large = parsed ds (Err e) h parses in by (nat_le (digits_value 10 ds) most) refl large
  where
    by : (b : Bool) → nat_le (digits_value 10 ds) most ≡ b → ¬ (digits_value 10 ds < 4294967296) → false ≡ b
    by false is large = refl
    by true is large = let le = leb-true (digits_value 10 ds) most is in absurd (large (omega arith))

number_parts : (most : ℕ) (ds : List ℕ) → is_number most ds ≡ true → (is_numeral ds ≡ true) × (digits_value 10 ds ≤ most)
unfolding is_number
number_parts most ds h = let parts = and_parts (is_numeral ds) (nat_le (digits_value 10 ds) most) h in (parts.0, leb-true (digits_value 10 ds) most parts.1)

pub is_read : {E : Type 0} (ds : List ℕ) (r : Result ℕ E) → is_number 1000000 ds ≡ true → ParsesUnsigned 32 10 ds r → (IsOk r) × IfOk r (λ (n : ℕ). n ≡ digits_value 10 ds)
is_read {E} ds (Ok n) h parses = (refl, (parsed {E = E} ds (Ok n) (number_parts 1000000 ds h).0 parses).1)
is_read {E} ds (Err e) h parses = let parts = number_parts 1000000 ds h in absurd (parsed {E = E} ds (Err e) parts.0 parses (let le = parts.1 in omega arith))

-- a number of books is one of connections too
pub is_fewer : (ds : List ℕ) → is_number 2000 ds ≡ true → is_number 1000000 ds ≡ true
unfolding is_number
is_fewer ds h =
    let parts = and_parts (is_numeral ds) (nat_le (digits_value 10 ds) 2000) h in
    let few = leb-true (digits_value 10 ds) 2000 parts.1 in
    both_true parts.0 (le-leb (digits_value 10 ds) 1000000 (omega arith))
