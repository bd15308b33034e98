-- Scalars: the values that stand in slots.
use Rattle.std.specs.Prelude.{ℤ, pos, negsuc, ◌^◌, Bool, false, ◌&&◌, ◌++◌, nat_eq, nat_lt}
use Rattle.std.specs.Bool.{beq}
use Rattle.std.specs.Ordering.{int_eq}
use Rattle.std.specs.Hash as fed
use Rattle.std.specs.Hash.{HashWrites}
use Rattle.std.specs.Cmp.Lexicographic.{pointwise}
use Rattle.wb_store.specs.declared.scalars.Scalar.{Scalar}
use Rattle.wb_store.specs.declared.scalars.Scalar.TheVariants.{Int, Bool as Boolean, Text, Literal, Object}

-- are two scalars the same value?
abbrev pub same : Scalar → Scalar → Bool
same (Int a) (Int b) = int_eq a b
same (Boolean a) (Boolean b) = beq a b
same (Text a) (Text b) = pointwise nat_eq a b
same (Literal a k) (Literal b l) = nat_eq a b && nat_eq k l
same (Object a) (Object b) = nat_eq a b
same _ _ = false

-- an integer of 64 signed bits
abbrev pub is_int64 : ℤ → Bool
is_int64 (pos n) = nat_lt n (2 ^ 63)
is_int64 (negsuc n) = nat_lt n (2 ^ 63)

-- what a scalar gives to a hasher
abbrev pub hashed : Scalar → HashWrites
hashed (Int n) = fed.i64 n
hashed (Boolean b) = fed.bool b
hashed (Text text) = fed.str text
hashed (Literal e l) = fed.u32 e ++ fed.u32 l
hashed (Object o) = fed.u32 o
