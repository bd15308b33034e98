-- What a text is as a model over a metamodel: its contents, or the first code with the place of the first wrong spot.
-- Each check goes over the whole text, one after the other.
use Rattle.std.specs.Prelude.{⊤, ℕ, ◌+◌, ℤ, pos, negsuc, ◌^◌, ◌==◌, nat_eq, nat_lt, nat_le, if◌then◌else◌, List, [], ◌∷◌, ◌++◌, length, map, find, position, Option, Some, None, option_map, Result, Ok, Err, codes}
use Rattle.std.specs.Option.{option_or}
use Rattle.std.specs.List.{list_any}
use Rattle.wb_base.specs.Results.{◌>>=◌}
use Rattle.wb_json.specs.Place.{Place, at_member, at_index}
use Rattle.wb_json.specs.Refusals.{coded}
use Rattle.wb_json.specs.Form.{in_turn, or_wrong}
use Rattle.wb_json.specs.Json.{json_of}
use Rattle.wb_metamodel.specs.Metamodel.{Metamodel, numbers, class_named, feature_named, feature_at, literal_named}
use Rattle.wb_metamodel.specs.Checks.{is_name_of}
use Rattle.wb_ecore.specs.Resolving.{walked}
use Rattle.wb_ecore.specs.declared.features.Kind.{Kind}
use Rattle.wb_ecore.specs.declared.features.Kind.TheVariants as kinds
use Rattle.wb_store.specs.declared.scalars.Scalar.{Scalar}
use Rattle.wb_store.specs.declared.scalars.Scalar.TheVariants as scalars
use Rattle.wb_store.specs.declared.parts.Part.{Part}
use Rattle.wb_store.specs.declared.parts.SlotPart.{SlotPart}
use Rattle.wb_validity.specs.Broken.{Breach, broken, miswritten}
use Rattle.wb_store.specs.Contents.{Contents}
use Rattle.wb_store.specs.Parts.{made_of}
use Rattle.wb_model_json.specs.declared.model_text.ScalarText.{ScalarText}
use Rattle.wb_model_json.specs.declared.model_text.ScalarText.TheVariants.{Number, Flag, Words}
use Rattle.wb_model_json.specs.declared.model_text.SlotText.{SlotText}
use Rattle.wb_model_json.specs.declared.model_text.ObjectText.{ObjectText}
use Rattle.wb_model_json.specs.declared.model_text.ModelText.{ModelText}
use Rattle.wb_model_json.specs.declared.refusal.ModelCode.{ModelCode}
use Rattle.wb_model_json.specs.declared.refusal.ModelCode.TheVariants.{BadJson, BadShape, TooMany, DuplicateObject, UnknownName}
use Rattle.wb_model_json.specs.ModelText.{model_of}
use Rattle.wb_model_json.specs.Refusals.{broken_code}

-- ---- numbers that repeat

-- the place of the first of these numbers that stood earlier
abbrev pub repeat_from : ℕ → List ℕ → List ℕ → Option ℕ
repeat_from i earlier [] = None
repeat_from i earlier (n ∷ ns) = if list_any (nat_eq n) earlier then Some i else repeat_from (i + 1) (earlier ++ n ∷ []) ns

-- ---- values

-- where objects are wanted, the object of that number, if there can be one
abbrev pub object_number : ℤ → Scalar
object_number (pos n) = if nat_lt n (2 ^ 32) then scalars.Object n else scalars.Int (pos n)
object_number (negsuc n) = scalars.Int (negsuc n)

abbrev pub number_for : Kind → ℤ → Scalar
number_for kinds.Int z = scalars.Int z
number_for kinds.Bool z = scalars.Int z
number_for kinds.Text z = scalars.Int z
number_for (kinds.Enum _) z = scalars.Int z
number_for (kinds.Reference _) z = object_number z

-- a string for an enumeration has to be one of its literals
abbrev pub literal_for : Metamodel → ℕ → List ℕ → Result Scalar Place
literal_for mm e name = or_wrong (option_map (scalars.Literal e) (literal_named mm e name))

abbrev pub words_for : Metamodel → Kind → List ℕ → Result Scalar Place
words_for mm kinds.Int text = Ok (scalars.Text text)
words_for mm kinds.Bool text = Ok (scalars.Text text)
words_for mm kinds.Text text = Ok (scalars.Text text)
words_for mm (kinds.Enum e) text = literal_for mm e text
words_for mm (kinds.Reference _) text = Ok (scalars.Text text)

-- the value that a scalar of the text is for a feature of this kind; it may be of another kind
abbrev pub value_for : Metamodel → Kind → ScalarText → Result Scalar Place
value_for mm kind (Number z) = Ok (number_for kind z)
value_for mm kind (Flag b) = Ok (scalars.Bool b)
value_for mm kind (Words text) = words_for mm kind text

-- those of a list have places of their own, and a single one has that of the slot
abbrev pub values_for : Metamodel → Kind → SlotText → Result (List Scalar) Place
values_for mm kind text = if text.listed then walked (value_for mm kind) text.values else in_turn (value_for mm kind) text.values

-- ---- objects

-- the feature of that name of a class, or else the first of that name in the metamodel
abbrev pub feature_for : Metamodel → ℕ → List ℕ → Option ℕ
feature_for mm class name = option_or (feature_named mm class name) (find (is_name_of mm name) (numbers (length mm.features)))

unfoldable pub slot_with : Metamodel → SlotText → ℕ → Result SlotPart Place
slot_with mm text f =
    or_wrong (feature_at mm f) >>= (λ feature.
    values_for mm feature.kind text >>= (λ values.
    Ok (record { feature = f; listed = text.listed; values = values })))

unfoldable pub slot_named : Metamodel → ℕ → List ℕ → SlotText → Result SlotPart Place
slot_named mm class name text = or_wrong (feature_for mm class name) >>= slot_with mm text

abbrev pub slot_for : Metamodel → ℕ → List ℕ × SlotText → Result SlotPart Place
slot_for mm class member = at_member member.0 (slot_named mm class member.0 member.1)

abbrev pub slots_for : Metamodel → ℕ → List (List ℕ × SlotText) → Result (List SlotPart) Place
slots_for mm class members = at_member (codes "slots") (in_turn (slot_for mm class) members)

abbrev pub part_with : ObjectText → ℕ → List SlotPart → Result Part Place
part_with text class slots = Ok (record { id = text.id; class = class; slots = slots })

unfoldable pub part_for : Metamodel → ObjectText → Result Part Place
part_for mm text =
    at_member (codes "class") (or_wrong (class_named mm text.class)) >>= (λ class.
    slots_for mm class text.slots >>= part_with text class)

abbrev pub parts_for : Metamodel → List ObjectText → Result (List Part) Place
parts_for mm texts = at_member (codes "objects") (walked (part_for mm) texts)

-- ---- checks

abbrev pub few : List ObjectText → Result ⊤ Place
few texts = if nat_le (length texts) 20000 then Ok tt else Err []

abbrev pub id_of : ObjectText → ℕ
id_of text = text.id

abbrev pub repeated_at : Option ℕ → Result ⊤ Place
repeated_at None = Ok tt
repeated_at (Some i) = at_member (codes "objects") (at_index i (Err []))

-- no object has the number of an earlier one
abbrev pub unrepeated : List ObjectText → Result ⊤ Place
unrepeated texts = repeated_at (repeat_from 0 [] (map id_of texts))

-- the place of an object
abbrev pub object_at : {A : Type 0} → Option ℕ → Result A Place
object_at (Some i) = at_index i (Err [])
object_at None = Err []

-- the place of what shows that a condition is broken: an object, `next` or the roots
abbrev pub breach_at : {A : Type 0} → List ObjectText → ℕ → Option ℕ → Result A Place
breach_at texts number (Some o) = at_member (codes "objects") (object_at (position (λ (text : ObjectText). nat_eq text.id o) texts))
breach_at texts number None = if number == 1 then at_member (codes "next") (Err []) else at_member (codes "roots") (Err [])

-- ---- the whole

unfoldable pub read_text : List ℕ → Result ModelText (ModelCode × Place)
read_text bytes = coded BadJson (or_wrong (json_of bytes)) >>= (λ d. coded BadShape (model_of d))

unfoldable pub checked_parts : Metamodel → ModelText → Result (List Part) (ModelCode × Place)
checked_parts mm text =
    coded TooMany (few text.objects) >>= (λ _.
    coded DuplicateObject (unrepeated text.objects) >>= (λ _.
    coded UnknownName (parts_for mm text.objects)))

-- contents, unless there is a breach
abbrev pub judged : ModelText → Contents → Option Breach → Result Contents (ModelCode × Place)
judged text m None = Ok m
judged text m (Some breach) = coded (broken_code breach.0) (breach_at text.objects breach.0 breach.1)

unfoldable pub made : Metamodel → ModelText → List Part → Result Contents (ModelCode × Place)
made mm text parts = judged text (made_of mm text.next parts text.roots) (broken (made_of mm text.next parts text.roots) (miswritten mm parts))

unfoldable pub model : Metamodel → List ℕ → Result Contents (ModelCode × Place)
model mm bytes =
    read_text bytes >>= (λ text.
    checked_parts mm text >>= made mm text)
