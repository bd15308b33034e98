-- What a value says as a row, before it is known whether its text is the writer's.
use Rattle.std.specs.Prelude.{ℕ, Bool, ◌&&◌, nat_lt, if◌then◌else◌, List, [], ◌∷◌, length, Result, Ok, Err, codes}
use Rattle.std.specs.List.{list_all}
use Rattle.serde_json.specs.Data.{Data}
use Rattle.wb_json.specs.Place.{Place}
use Rattle.wb_base.specs.Results.{◌>>=◌}
use Rattle.wb_json.specs.Form.{or_wrong, in_turn, name_of, listed, needed, members_of}
use Rattle.wb_metamodel.specs.Metamodel.{Metamodel, class_named, feature_at, feature_named}
use Rattle.wb_ecore.specs.declared.features.Feature.{Feature}
use Rattle.wb_store.specs.declared.scalars.Scalar.{Scalar}
use Rattle.wb_model_json.specs.declared.model_text.SlotText.{SlotText}
use Rattle.wb_model_json.specs.declared.rows.ObjectRow.{ObjectRow}
use Rattle.wb_model_json.specs.declared.rows.RowSlot.{RowSlot}
use Rattle.wb_model_json.specs.declared.row_text.RowText.{RowText}
use Rattle.wb_model_json.specs.ModelFile.{values_for}
use Rattle.wb_model_json.specs.ModelText.{slot_of}
use Rattle.wb_model_json.specs.Rows.{has_count}

unfoldable pub row_text_of : Data → Result RowText Place
row_text_of d = do
  _ ← listed (codes "class" ∷ codes "slots" ∷ []) d
  class ← needed (codes "class") name_of d
  slots ← needed (codes "slots") (members_of slot_of) d
  Ok (record { class = class; slots = slots })

-- the slot, where it has as many values as it is to have
abbrev pub counted : Metamodel → ℕ → List Scalar → Result RowSlot Place
counted mm f values = if has_count mm f values then Ok (record { feature = f; values = values }) else Err []

unfoldable pub row_slot_with : Metamodel → SlotText → ℕ → Result RowSlot Place
row_slot_with mm text f = or_wrong (feature_at mm f) >>= (λ (feature : Feature). values_for mm feature.kind text >>= counted mm f)

-- the feature is one of the class
unfoldable pub row_slot_for : Metamodel → ℕ → List ℕ × SlotText → Result RowSlot Place
row_slot_for mm class member = or_wrong (feature_named mm class member.0) >>= row_slot_with mm member.1

abbrev pub row_with : ℕ → List RowSlot → Result ObjectRow Place
row_with class slots = Ok (record { class = class; slots = slots })

unfoldable pub row_for : Metamodel → RowText → Result ObjectRow Place
row_for mm text = or_wrong (class_named mm text.class) >>= (λ class. in_turn (row_slot_for mm class) text.slots >>= row_with class)

unfoldable pub row_from : Metamodel → Data → Result ObjectRow Place
row_from mm d = row_text_of d >>= row_for mm

-- are the class and the features of a row those of the metamodel?
abbrev pub is_known_slot : Metamodel → RowSlot → Bool
is_known_slot mm s = nat_lt s.feature (length mm.features)

abbrev pub is_known_row : Metamodel → ObjectRow → Bool
is_known_row mm row = nat_lt row.class (length mm.classes) && list_all (is_known_slot mm) row.slots
