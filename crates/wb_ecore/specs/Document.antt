-- The form of a metamodel's text: a package with enumerations and classes.
-- Absent booleans are false, and absent lists are empty.
use Rattle.std.specs.Prelude.{◌≡◌, ℕ, List, [], ◌∷◌, true, false, if◌then◌else◌, Some, slice_get, Result, Ok, unwrap_or, codes}
use Rattle.serde_json.specs.Data.{Data}
use Rattle.wb_json.specs.Place.{Place}
use Rattle.wb_json.specs.Form.{◌>>=◌, listed, needed, optional, list_or_empty, has, list_of, is_name, name_of, bool_of}
use Rattle.wb_ecore.specs.declared.document.Document.{Document}
use Rattle.wb_ecore.specs.declared.document.EnumPart.{EnumPart}
use Rattle.wb_ecore.specs.declared.document.ClassPart.{ClassPart}
use Rattle.wb_ecore.specs.declared.document.FeaturePart.{FeaturePart}
use Rattle.wb_ecore.specs.declared.document.Target.TheVariants.{Values, Objects}

abbrev pub attribute_of : Data → Result FeaturePart Place
attribute_of d = do
  _ ← listed (codes "name" ∷ codes "type" ∷ codes "many" ∷ []) d
  name ← needed (codes "name") name_of d
  values ← needed (codes "type") name_of d
  many ← optional (codes "many") bool_of d
  Ok (record { name = name; many = unwrap_or many false; target = Values values })

abbrev pub reference_of : Data → Result FeaturePart Place
reference_of d = do
  _ ← listed (codes "name" ∷ codes "reference" ∷ codes "many" ∷ codes "containment" ∷ codes "opposite" ∷ []) d
  name ← needed (codes "name") name_of d
  class ← needed (codes "reference") name_of d
  many ← optional (codes "many") bool_of d
  containment ← optional (codes "containment") bool_of d
  opposite ← optional (codes "opposite") name_of d
  Ok (record { name = name; many = unwrap_or many false; target = Objects (record { class = class; containment = unwrap_or containment false; opposite = opposite }) })

-- a feature that has a `reference` is a reference, whatever else it has
unfoldable pub feature_of : Data → Result FeaturePart Place
feature_of d = if has (codes "reference") d then reference_of d else attribute_of d

unfoldable pub enum_of : Data → Result EnumPart Place
enum_of d = do
  _ ← listed (codes "name" ∷ codes "literals" ∷ []) d
  name ← needed (codes "name") name_of d
  literals ← needed (codes "literals") (list_of name_of) d
  Ok (record { name = name; literals = literals })

unfoldable pub class_of : Data → Result ClassPart Place
class_of d = do
  _ ← listed (codes "name" ∷ codes "abstract" ∷ codes "supertypes" ∷ codes "features" ∷ []) d
  name ← needed (codes "name") name_of d
  is_abstract ← optional (codes "abstract") bool_of d
  supertypes ← list_or_empty (codes "supertypes") name_of d
  features ← list_or_empty (codes "features") feature_of d
  Ok (record { name = name; is_abstract = unwrap_or is_abstract false; supertypes = supertypes; features = features })

unfoldable pub document_of : Data → Result Document Place
document_of d = do
  _ ← listed (codes "package" ∷ codes "enums" ∷ codes "classes" ∷ []) d
  package_name ← needed (codes "package") name_of d
  enums ← list_or_empty (codes "enums") enum_of d
  classes ← needed (codes "classes") (list_of class_of) d
  Ok (record { package_name = package_name; enums = enums; classes = classes })

-- the names that a document gives to what it declares are names
pub record HasNames (document : Document) : Type 0 where
  pub package_name : is_name document.package_name ≡ true
  pub classes : (c : ℕ) (part : ClassPart) → slice_get document.classes c ≡ Some part → is_name part.name ≡ true
  pub features : (c i : ℕ) (owner : ClassPart) (part : FeaturePart) → slice_get document.classes c ≡ Some owner → slice_get owner.features i ≡ Some part → is_name part.name ≡ true
  pub enums : (e : ℕ) (part : EnumPart) → slice_get document.enums e ≡ Some part → is_name part.name ≡ true
  pub literals : (e l : ℕ) (part : EnumPart) (literal : List ℕ) → slice_get document.enums e ≡ Some part → slice_get part.literals l ≡ Some literal → is_name literal ≡ true
