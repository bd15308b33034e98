-- What the text of a model says: its objects by number, each with its class and its slots by name.
use Rattle.std.specs.Prelude.{true, false, [], ◌∷◌, is_some, option_map, Result, Ok, Err, codes, if◌then◌else◌}
use Rattle.serde_json.specs.Data.{Data, null, boolean, number, string, array, object}
use Rattle.serde_json.specs.Find.{as_i64, as_array}
use Rattle.wb_json.specs.Place.{Place}
use Rattle.wb_base.specs.Results.{◌>>=◌}
use Rattle.wb_json.specs.Form.{or_wrong, name_of, u32_of, list_of, listed, needed, members_of}
use Rattle.wb_model_json.specs.declared.model_text.ScalarText.{ScalarText}
use Rattle.wb_model_json.specs.declared.model_text.ScalarText.TheVariants.{Number, Flag, Words}
use Rattle.wb_model_json.specs.declared.model_text.SlotText.{SlotText}
use Rattle.wb_model_json.specs.declared.model_text.ObjectText.{ObjectText}
use Rattle.wb_model_json.specs.declared.model_text.ModelText.{ModelText}

-- an integer of 64 signed bits, a boolean or a string
abbrev pub scalar_of : Data → Result ScalarText Place
scalar_of null = Err []
scalar_of (boolean b) = Ok (Flag b)
scalar_of (number n) = or_wrong (option_map Number (as_i64 n))
scalar_of (string s) = Ok (Words s)
scalar_of (array _) = Err []
scalar_of (object _) = Err []

-- one value, or a list of values
abbrev pub alone : ScalarText → SlotText
alone value = record { listed = false; values = value ∷ [] }

unfoldable pub slot_of : Data → Result SlotText Place
slot_of d =
    if is_some (as_array d)
    then list_of scalar_of d >>= (λ values. Ok (record { listed = true; values = values }))
    else scalar_of d >>= (λ value. Ok (alone value))

unfoldable pub object_of : Data → Result ObjectText Place
object_of d = do
  _ ← listed (codes "id" ∷ codes "class" ∷ codes "slots" ∷ []) d
  id ← needed (codes "id") u32_of d
  class ← needed (codes "class") name_of d
  slots ← needed (codes "slots") (members_of slot_of) d
  Ok (record { id = id; class = class; slots = slots })

unfoldable pub model_of : Data → Result ModelText Place
model_of d = do
  _ ← listed (codes "next" ∷ codes "roots" ∷ codes "objects" ∷ []) d
  next ← needed (codes "next") u32_of d
  roots ← needed (codes "roots") (list_of u32_of) d
  objects ← needed (codes "objects") (list_of object_of) d
  Ok (record { next = next; roots = roots; objects = objects })
