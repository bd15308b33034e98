-- A row: one object of a model by itself, with its class and its slots.
use Rattle.std.specs.Prelude.{◌≡◌, ℕ, ◌<◌, Bool, true, ◌&&◌, nat_eq, nat_lt, if◌then◌else◌, List, [], ◌∷◌, map, length, Some, Ok, codes}
use Rattle.std.specs.List.{list_all, AllByRecursion}
use Rattle.std.specs.Cmp.Lexicographic.{slice_cmp}
use Rattle.std.specs.Ordering.{nat_cmp, is_lt}
use Rattle.std.specs.Str.{is_utf8}
use Rattle.serde_json.specs.Data.{Data, string, object, no_members, member}
use Rattle.serde_json.specs.Written.{compact_text}
use Rattle.wb_base.specs.Results.{◌>>=◌}
use Rattle.wb_json.specs.ToJson.{members_json}
use Rattle.wb_metamodel.specs.Metamodel.{Metamodel, feature_at, features_of}
use Rattle.wb_ecore.specs.declared.features.Feature.{Feature}
use Rattle.wb_ecore.specs.declared.features.Kind.{Kind}
use Rattle.wb_store.specs.declared.scalars.Scalar.{Scalar}
use Rattle.wb_store.specs.Contents.{Contents}
use Rattle.wb_store.specs.Features.{is_many}
use Rattle.wb_validity.specs.Valid.{has_feature}
use Rattle.wb_model_json.specs.declared.rows.ObjectRow.{ObjectRow}
use Rattle.wb_model_json.specs.declared.rows.RowSlot.{RowSlot}
use Rattle.wb_model_json.specs.ByName.{by_name}
use Rattle.wb_model_json.specs.ModelFile.{value_for}
use Rattle.wb_model_json.specs.ModelText.{scalar_of}
use Rattle.wb_validity.specs.Ranges.{is_in_range}
use Rattle.wb_model_json.specs.Written.{class_name, feature_name, named_slots, scalar_data, slot_data}

-- ---- what is written of a row

abbrev pub slot_name : Metamodel → RowSlot → List ℕ
slot_name mm s = feature_name mm s.feature

abbrev pub row_slot : Metamodel → RowSlot → List ℕ × (ℕ × List Scalar)
row_slot mm s = (slot_name mm s, (s.feature, s.values))

unfoldable pub data_of_row : Metamodel → ObjectRow → Data
data_of_row mm row =
    object (member (codes "class") (string (class_name mm row.class))
    (member (codes "slots") (members_json (slot_data mm) (map (row_slot mm) row.slots)) no_members))

unfoldable pub text_of_row : Metamodel → ObjectRow → List ℕ
text_of_row mm row = compact_text (data_of_row mm row)

-- ---- which rows there are

-- do these names strictly ascend by their bytes?
abbrev pub names_ascend : List (List ℕ) → Bool
names_ascend [] = true
names_ascend (n ∷ ns) = list_all (λ other. is_lt (slice_cmp nat_cmp n other)) ns && names_ascend ns

-- exactly one value of a single feature, and at least one of a feature that may have many
abbrev pub has_count : Metamodel → ℕ → List Scalar → Bool
has_count mm f values = if is_many mm f then nat_lt 0 (length values) else nat_eq (length values) 1

-- what is written of the value says it at a feature of this kind: a string is a literal of an enumeration,
-- and a number is an object's at a reference, where it can be one
abbrev pub IsSaid : Metamodel → Kind → Scalar → Type 0
IsSaid mm kind value = (scalar_of (scalar_data mm value) >>= value_for mm kind) ≡ Ok value

-- a slot of a feature of the class
pub record IsRowSlot (mm : Metamodel) (class : ℕ) (s : RowSlot) : Type 0 where
  pub of_class : has_feature mm class s.feature ≡ true
  pub count : has_count mm s.feature s.values ≡ true
  pub in_range : list_all is_in_range s.values ≡ true
  pub said : (feature : Feature) → feature_at mm s.feature ≡ Some feature → AllByRecursion (IsSaid mm feature.kind) s.values

-- the slots ascend by the names of their features, so each feature stands once
pub record IsRow (mm : Metamodel) (row : ObjectRow) : Type 0 where
  pub class_known : row.class < length mm.classes
  pub ascending : names_ascend (map (slot_name mm) row.slots) ≡ true
  pub slots : AllByRecursion (IsRowSlot mm row.class) row.slots

-- the bytes are what is written of the row; what is written is UTF-8
pub record IsTextOf (mm : Metamodel) (bytes : List ℕ) (r : ObjectRow) : Type 0 where
  pub row : IsRow mm r
  pub text : bytes ≡ text_of_row mm r
  pub utf8 : is_utf8 bytes ≡ true

-- ---- the row of an object

abbrev pub slot_row : List ℕ × (ℕ × List Scalar) → RowSlot
slot_row n = record { feature = n.1.0; values = n.1.1 }

-- the class and the slots of an object of this class
abbrev pub row_of : Contents → ℕ → ℕ → ObjectRow
row_of m o c = record { class = c; slots = map slot_row (by_name (named_slots m o (features_of m.metamodel c))) }
