-- The operators, on values: what each gives without a look at the model.
use Rattle.std.specs.Prelude.{◌^◌, nat_lt, Bool, true, false, not, ◌&&◌, ◌||◌, ℤ, pos, negsuc, ◌+ℤ◌, ◌-ℤ◌, ◌*ℤ◌, neg_ℤ, int_lt, int_le, int_div, Option, Some, None, Result, Ok, Err, if◌then◌else◌}
use Rattle.std.specs.Bool.{beq}
use Rattle.std.specs.Ordering.{int_eq}
use Rattle.wb_base.specs.Results.{◌>>=◌}
use Rattle.wb_metamodel.specs.Metamodel.{Metamodel}
use Rattle.wb_store.specs.declared.scalars.Scalar.TheVariants.{Int, Bool as Boolean, Text}
use Rattle.wb_aql_grammar.specs.declared.expr.Unary.{Unary}
use Rattle.wb_aql_grammar.specs.declared.expr.Unary.TheVariants as u
use Rattle.wb_aql_grammar.specs.declared.expr.Binary.{Binary}
use Rattle.wb_aql_grammar.specs.declared.expr.Binary.TheVariants as binary
use Rattle.wb_aql_values.specs.declared.faults.Fault.{Fault}
use Rattle.wb_aql_values.specs.declared.faults.Fault.TheVariants.{NotBool, NotInt, Overflow, DivideByZero}
use Rattle.wb_aql_values.specs.declared.values.Value.{Value}
use Rattle.wb_aql_values.specs.declared.values.Value.TheVariants.{One}
use Rattle.wb_aql_values.specs.Values.{flag, same_value}
use Rattle.wb_aql_values.specs.TextForms.{joined_forms, made}
use Rattle.wb_aql_eval.specs.declared.operators.Connective.{Connective}
use Rattle.wb_aql_eval.specs.declared.operators.Connective.TheVariants as n
use Rattle.wb_aql_eval.specs.declared.operators.Comparison.{Comparison}
use Rattle.wb_aql_eval.specs.declared.operators.Comparison.TheVariants as p
use Rattle.wb_aql_eval.specs.declared.operators.Calculation.{Calculation}
use Rattle.wb_aql_eval.specs.declared.operators.Calculation.TheVariants as c

-- ---- what a value is taken for

-- the Bool that a value is
abbrev pub truth : Value → Result Bool Fault
truth (One (Boolean b)) = Ok b
truth _ = Err NotBool

-- the Int that a value is
abbrev pub integer : Value → Result ℤ Fault
integer (One (Int n)) = Ok n
integer _ = Err NotInt

abbrev pub is_text : Value → Bool
is_text (One (Text bytes)) = true
is_text _ = false

-- is a number within 64 signed bits?
abbrev pub is_within : ℤ → Bool
is_within (pos n) = nat_lt n (2 ^ 63)
is_within (negsuc n) = nat_lt n (2 ^ 63)

abbrev pub number : ℤ → Result Value Fault
number n = if is_within n then Ok (One (Int n)) else Err Overflow

-- ---- operators of one side

abbrev pub unary : Unary → Value → Result Value Fault
unary u.Not v = truth v >>= λ b. Ok (flag (not b))
unary u.Negate v = integer v >>= λ n. number (neg_ℤ n)

-- ---- operators of two sides

-- an operator that stops at this left side, and then gives this
abbrev pub stopping : (at gives : Bool) → Value → Result (Option Value) Fault
stopping at gives v = truth v >>= λ b. Ok (if beq b at then Some (flag gives) else None)

-- what the left side gives by itself, none where the right side is wanted
abbrev pub decided : Binary → Value → Result (Option Value) Fault
decided binary.And v = stopping false false v
decided binary.Or v = stopping true true v
decided binary.Implies v = stopping false true v
decided binary.Xor v = truth v >>= λ b. Ok None
decided binary.Equal v = Ok None
decided binary.NotEqual v = Ok None
decided binary.Less v = Ok None
decided binary.LessEqual v = Ok None
decided binary.Greater v = Ok None
decided binary.GreaterEqual v = Ok None
decided binary.Add v = Ok None
decided binary.Subtract v = Ok None
decided binary.Multiply v = Ok None
decided binary.Divide v = Ok None

-- two Bools
abbrev pub joined : Connective → Bool → Bool → Bool
joined n.And a b = a && b
joined n.Or a b = a || b
joined n.Implies a b = not a || b
joined n.Xor a b = not (beq a b)

abbrev pub connected : Connective → Value → Value → Result Value Fault
connected o v w = truth v >>= λ a. truth w >>= λ b. Ok (flag (joined o a b))

-- two Ints that are compared
abbrev pub ordered : Comparison → ℤ → ℤ → Bool
ordered p.Less a b = int_lt a b
ordered p.LessEqual a b = int_le a b
ordered p.Greater a b = int_lt b a
ordered p.GreaterEqual a b = int_le b a

abbrev pub compared : Comparison → Value → Value → Result Value Fault
compared o v w = integer v >>= λ a. integer w >>= λ b. Ok (flag (ordered o a b))

-- a quotient is cut towards zero
abbrev pub divided : ℤ → ℤ → Result Value Fault
divided a b = if int_eq b (pos 0) then Err DivideByZero else number (int_div a b)

-- two Ints that are calculated with
abbrev pub arithmetic : Calculation → ℤ → ℤ → Result Value Fault
arithmetic c.Add x y = number (x +ℤ y)
arithmetic c.Subtract x y = number (x -ℤ y)
arithmetic c.Multiply x y = number (x *ℤ y)
arithmetic c.Divide x y = divided x y

abbrev pub calculated : Calculation → Value → Value → Result Value Fault
calculated o v w = integer v >>= λ a. integer w >>= λ b. arithmetic o a b

-- two Ints are added; where either side is a Text the text forms are joined
abbrev pub added : Metamodel → Value → Value → Result Value Fault
added mm v w =
    if is_text v || is_text w then (made (joined_forms mm v w) >>= λ bytes. Ok (One (Text bytes)))
    else calculated c.Add v w

abbrev pub combined : Metamodel → Binary → Value → Value → Result Value Fault
combined mm binary.And v w = connected n.And v w
combined mm binary.Or v w = connected n.Or v w
combined mm binary.Implies v w = connected n.Implies v w
combined mm binary.Xor v w = connected n.Xor v w
combined mm binary.Equal v w = Ok (flag (same_value v w))
combined mm binary.NotEqual v w = Ok (flag (not (same_value v w)))
combined mm binary.Less v w = compared p.Less v w
combined mm binary.LessEqual v w = compared p.LessEqual v w
combined mm binary.Greater v w = compared p.Greater v w
combined mm binary.GreaterEqual v w = compared p.GreaterEqual v w
combined mm binary.Add v w = added mm v w
combined mm binary.Subtract v w = calculated c.Subtract v w
combined mm binary.Multiply v w = calculated c.Multiply v w
combined mm binary.Divide v w = calculated c.Divide v w
