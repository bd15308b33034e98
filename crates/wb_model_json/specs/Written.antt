-- The text of a model: members ascend by their names, objects by their numbers, and empty slots are left out.
use Rattle.std.specs.Prelude.{ℕ, List, [], ◌∷◌, map, filter, length, nat_lt, Bool, Option, Some, None, slice_get, unwrap_or, if◌then◌else◌, codes}
use Rattle.std.specs.Option.{option_map_or}
use Rattle.std.specs.FinMap.{keys}
use Rattle.serde_json.specs.Data.{Data, null, boolean, number, string, object, no_members, member, unsigned}
use Rattle.serde_json.specs.Find.{of_integer}
use Rattle.serde_json.specs.Written.{compact_text}
use Rattle.wb_json.specs.ToJson.{list_json, members_json}
use Rattle.wb_metamodel.specs.Metamodel.{Metamodel, class_at, feature_at, features_of, literals_of}
use Rattle.wb_ecore.specs.declared.classes.Class.{Class}
use Rattle.wb_ecore.specs.declared.features.Feature.{Feature}
use Rattle.wb_store.specs.declared.scalars.Scalar.{Scalar}
use Rattle.wb_store.specs.declared.scalars.Scalar.TheVariants as scalars
use Rattle.wb_store.specs.Contents.{Contents, kind, slot}
use Rattle.wb_store.specs.Features.{is_many}

-- the name of a literal
abbrev pub literal_text : Metamodel → ℕ → ℕ → List ℕ
literal_text mm e l = unwrap_or (slice_get (literals_of mm e) l) []

abbrev pub scalar_data : Metamodel → Scalar → Data
scalar_data mm (scalars.Int z) = number (of_integer z)
scalar_data mm (scalars.Bool b) = boolean b
scalar_data mm (scalars.Text text) = string text
scalar_data mm (scalars.Literal e l) = string (literal_text mm e l)
scalar_data mm (scalars.Object o) = number (unsigned o)

abbrev pub single_data : Metamodel → List Scalar → Data
single_data mm [] = null
single_data mm (value ∷ values) = scalar_data mm value

-- one value, or the list of the values of a feature that may have many
unfoldable pub slot_data : Metamodel → ℕ × List Scalar → Data
slot_data mm s = if is_many mm s.0 then list_json (scalar_data mm) s.1 else single_data mm s.1

abbrev pub feature_name : Metamodel → ℕ → List ℕ
feature_name mm f = option_map_or (λ (feature : Feature). feature.name) (feature_at mm f) []

abbrev pub is_filled : Contents → ℕ → ℕ → Bool
is_filled m o f = nat_lt 0 (length (slot m o f))

-- the slots of an object by the names of their features, where there are values
abbrev pub named_slot : Contents → ℕ → ℕ → List ℕ × (ℕ × List Scalar)
named_slot m o f = (feature_name m.metamodel f, (f, slot m o f))

abbrev pub named_slots : Contents → ℕ → List ℕ → List (List ℕ × (ℕ × List Scalar))
named_slots m o fs = map (named_slot m o) (filter (is_filled m o) fs)

abbrev pub slots_data : Contents → ℕ → ℕ → Data
slots_data m o c = members_json (slot_data m.metamodel) (named_slots m o (features_of m.metamodel c))

abbrev pub class_name : Metamodel → ℕ → List ℕ
class_name mm c = option_map_or (λ (class : Class). class.name) (class_at mm c) []

abbrev pub object_of_class : Contents → ℕ → Option ℕ → Data
object_of_class m o None = null
object_of_class m o (Some c) =
    object (member (codes "class") (string (class_name m.metamodel c))
    (member (codes "id") (number (unsigned o))
    (member (codes "slots") (slots_data m o c) no_members)))

unfoldable pub object_data : Contents → ℕ → Data
object_data m o = object_of_class m o (kind m o)

-- an object alone, as one row of a model that is kept
abbrev pub row_of_class : Contents → ℕ → Option ℕ → Data
row_of_class m o None = null
row_of_class m o (Some c) =
    object (member (codes "class") (string (class_name m.metamodel c))
    (member (codes "slots") (slots_data m o c) no_members))

unfoldable pub row_data : Contents → ℕ → Data
row_data m o = row_of_class m o (kind m o)

abbrev pub number_data : ℕ → Data
number_data n = number (unsigned n)

unfoldable pub model_data : Contents → Data
model_data m =
    object (member (codes "next") (number_data m.next)
    (member (codes "objects") (list_json (object_data m) (keys m.kinds))
    (member (codes "roots") (list_json number_data m.roots) no_members)))

-- the canonical text
unfoldable pub text_of : Contents → List ℕ
text_of m = compact_text (model_data m)

unfoldable pub row_text : Contents → ℕ → List ℕ
row_text m o = compact_text (row_data m o)
