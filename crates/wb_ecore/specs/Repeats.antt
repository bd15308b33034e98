-- The names of a document that repeat: the place of the first that may not.
-- All enumerations stand before all classes.
use Rattle.std.specs.Prelude.{⊤, ℕ, ◌+◌, Bool, false, if◌then◌else◌, List, [], ◌∷◌, ◌++◌, length, map, find, take, slice_get, Result, Ok, Err, codes}
use Rattle.std.specs.Option.{option_map_or}
use Rattle.std.specs.List.{list_any}
pub use Rattle.wb_base.specs.Results.{◌>>=◌}
use Rattle.wb_json.specs.Place.{Place, at_member, at_index}
use Rattle.wb_ecore.specs.declared.document.Document.{Document}
use Rattle.wb_ecore.specs.declared.document.EnumPart.{EnumPart}
use Rattle.wb_ecore.specs.declared.document.ClassPart.{ClassPart}
use Rattle.wb_ecore.specs.declared.document.FeaturePart.{FeaturePart}
use Rattle.wb_ecore.specs.Naming.{same_name, numbers}

-- ---- walks

-- each in turn, with its number; the first wrong place ends the walk
abbrev pub each_from : {A : Type 0} → (ℕ → A → Result ⊤ Place) → ℕ → List A → Result ⊤ Place
each_from check i [] = Ok tt
each_from check i (x ∷ xs) = at_index i (check i x) >>= (λ _. each_from check (i + 1) xs)

-- the first of these that is bad is wrong, at its place
abbrev pub none_is : (ℕ → Bool) → (ℕ → Result ⊤ Place) → List ℕ → Result ⊤ Place
none_is bad wrong ns = option_map_or wrong (find bad ns) (Ok tt)

-- ---- names that repeat

-- is this name none of the earlier ones?
abbrev pub fresh : List (List ℕ) → List ℕ → Result ⊤ Place
fresh earlier name = if list_any (same_name name) earlier then Err [] else Ok tt

-- does the name at a place stand earlier in the list?
abbrev pub repeats : {A : Type 0} → (A → List ℕ) → List A → ℕ → Bool
repeats name_of xs i = option_map_or (λ x. list_any (same_name (name_of x)) (map name_of (take i xs))) (slice_get xs i) false

-- the first name of a list that stands earlier in it is wrong
abbrev pub unrepeated : List (List ℕ) → Result ⊤ Place
unrepeated names = none_is (repeats (λ name. name) names) (λ i. at_index i (Err [])) (numbers (length names))

-- the same of features, by their names
abbrev pub unrepeated_features : List FeaturePart → Result ⊤ Place
unrepeated_features parts = none_is (repeats (λ (part : FeaturePart). part.name) parts) (λ i. at_index i (at_member (codes "name") (Err []))) (numbers (length parts))

-- the names that kinds have
abbrev pub kind_names : List (List ℕ)
kind_names = codes "Int" ∷ codes "Bool" ∷ codes "Text" ∷ []

abbrev pub enum_names : List EnumPart → List (List ℕ)
enum_names parts = map (λ (part : EnumPart). part.name) parts

abbrev pub class_names : List ClassPart → List (List ℕ)
class_names parts = map (λ (part : ClassPart). part.name) parts

abbrev pub check_enum_names : List EnumPart → ℕ → EnumPart → Result ⊤ Place
check_enum_names parts i part = at_member (codes "name") (fresh (kind_names ++ enum_names (take i parts)) part.name) >>= (λ _. at_member (codes "literals") (unrepeated part.literals))

abbrev pub check_class_names : List EnumPart → List ClassPart → ℕ → ClassPart → Result ⊤ Place
check_class_names enums parts i part = do
  _ ← at_member (codes "name") (fresh (kind_names ++ enum_names enums ++ class_names (take i parts)) part.name)
  _ ← at_member (codes "supertypes") (unrepeated part.supertypes)
  at_member (codes "features") (unrepeated_features part.features)

unfoldable pub unrepeated_names : Document → Result ⊤ Place
unrepeated_names document = do
  _ ← at_member (codes "enums") (each_from (check_enum_names document.enums) 0 document.enums)
  at_member (codes "classes") (each_from (check_class_names document.enums document.classes) 0 document.classes)
