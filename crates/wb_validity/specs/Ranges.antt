-- What a model holds has the width of the types that hold it.
use Rattle.std.specs.Prelude.{◌≡◌, ◌^◌, Bool, true, nat_lt, length}
use Rattle.std.specs.List.{list_all}
use Rattle.std.specs.Str.{is_utf8}
use Rattle.wb_store.specs.declared.scalars.Scalar.{Scalar}
use Rattle.wb_store.specs.declared.scalars.Scalar.TheVariants.{Int, Bool as Boolean, Text, Literal, Object}
use Rattle.wb_store.specs.Scalars.{is_int64}
use Rattle.wb_store.specs.Contents.{Contents}
use Rattle.wb_validity.specs.Valid.{every_object, every_slot}

-- an integer of 64 signed bits, a text that is UTF-8, an object's number of 32 bits
abbrev pub is_in_range : Scalar → Bool
is_in_range (Int n) = is_int64 n
is_in_range (Boolean b) = true
is_in_range (Text text) = is_utf8 text
is_in_range (Literal e l) = true
is_in_range (Object o) = nat_lt o (2 ^ 32)

-- every class is one of the metamodel, and every value is in range
pub record AreInRange (m : Contents) : Type 0 where
  pub classes : every_object m (λ o c. nat_lt c (length m.metamodel.classes)) ≡ true
  pub scalars : every_slot m (λ o f values. list_all is_in_range values) ≡ true
