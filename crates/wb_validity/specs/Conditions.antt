-- The conditions of a valid model that speak of one slot at a time.
use Rattle.std.specs.Prelude.{ℕ, Bool, nat_le, List, length}
use Rattle.std.specs.List.{list_all}
use Rattle.wb_validity.specs.declared.conditions.Condition.{Condition}
use Rattle.wb_validity.specs.declared.conditions.Condition.TheVariants.{OfClass, HasRoom, OfKinds, Differ, HeldBack}
use Rattle.wb_store.specs.declared.scalars.Scalar.{Scalar}
use Rattle.wb_store.specs.Contents.{Contents}
use Rattle.wb_validity.specs.Valid.{is_of_class, room, is_of_feature, differ, is_held_back}

-- does the slot of an object and a feature, with these values, meet the condition?
abbrev pub meets : Contents → Condition → ℕ → ℕ → List Scalar → Bool
meets m OfClass o f values = is_of_class m o f
meets m HasRoom o f values = nat_le (length values) (room m.metamodel f)
meets m OfKinds o f values = list_all (is_of_feature m f) values
meets m Differ o f values = differ values
meets m HeldBack o f values = list_all (is_held_back m o f) values
