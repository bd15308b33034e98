-- What is written of a model has no float in it.
use Rattle.std.proofs.Common.{◌≡◌, ℕ, true, false, List, [], ◌∷◌, Option, Some, None, cond, refl, ap}
use Rattle.std.specs.Prelude.{◌||◌}
use Rattle.serde_json.specs.Written.{has_float}
use Rattle.wb_json.specs.ToJson.{list_json}
use Rattle.wb_json.specs.NoFloats.{integer_no_float, list_no_float, members_no_float}
use Rattle.wb_metamodel.specs.Metamodel.{Metamodel, features_of}
use Rattle.wb_store.specs.declared.scalars.Scalar.{Scalar}
use Rattle.wb_store.specs.declared.scalars.Scalar.TheVariants.{Int, Bool as Boolean, Text, Literal, Object}
use Rattle.wb_store.specs.Contents.{Contents, kind}
use Rattle.wb_store.specs.Features.{is_many}
use Rattle.std.specs.FinMap.{keys}
use Rattle.wb_model_json.specs.Written.{scalar_data, single_data, slot_data, named_slots, object_of_class, object_data, row_of_class, row_data, number_data, model_data}

scalar_no_float : (mm : Metamodel) (v : Scalar) → has_float (scalar_data mm v) ≡ false
scalar_no_float mm (Int z) = integer_no_float z
scalar_no_float mm (Boolean b) = refl
scalar_no_float mm (Text t) = refl
scalar_no_float mm (Literal e l) = refl
scalar_no_float mm (Object o) = refl

single_no_float : (mm : Metamodel) (values : List Scalar) → has_float (single_data mm values) ≡ false
single_no_float mm [] = refl
single_no_float mm (v ∷ values) = scalar_no_float mm v

pub slot_no_float : (mm : Metamodel) (s : ℕ × List Scalar) → has_float (slot_data mm s) ≡ false
unfolding slot_data
slot_no_float mm s =
    elim (is_many mm s.0) as (λ b. has_float (cond b (list_json (scalar_data mm) s.1) (single_data mm s.1)) ≡ false) [
      | true ↦ list_no_float (scalar_data mm) (scalar_no_float mm) s.1
      | false ↦ single_no_float mm s.1
    ]

object_no_float : (m : Contents) (o : ℕ) (k : Option ℕ) → has_float (object_of_class m o k) ≡ false
object_no_float m o None = refl
object_no_float m o (Some c) = ap (λ b. b || false) (members_no_float (slot_data m.metamodel) (slot_no_float m.metamodel) (named_slots m o (features_of m.metamodel c)))

row_of_no_float : (m : Contents) (o : ℕ) (k : Option ℕ) → has_float (row_of_class m o k) ≡ false
row_of_no_float m o None = refl
row_of_no_float m o (Some c) = ap (λ b. b || false) (members_no_float (slot_data m.metamodel) (slot_no_float m.metamodel) (named_slots m o (features_of m.metamodel c)))

pub row_no_float : (m : Contents) (o : ℕ) → has_float (row_data m o) ≡ false
unfolding row_data
row_no_float m o = row_of_no_float m o (kind m o)

objects_no_float : (m : Contents) (o : ℕ) → has_float (object_data m o) ≡ false
unfolding object_data
objects_no_float m o = object_no_float m o (kind m o)

pub model_no_float : (m : Contents) → has_float (model_data m) ≡ false
unfolding model_data
model_no_float m =
    (λ i. list_no_float (object_data m) (objects_no_float m) (keys m.kinds) i || (list_no_float number_data (λ n. refl) m.roots i || false))
