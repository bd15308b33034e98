-- What the names of a document name: its metamodel, or the first name that names nothing.
use Rattle.std.specs.Prelude.{ℕ, ◌+◌, false, if◌then◌else◌, List, [], ◌∷◌, length, map, position, Option, Some, None, option_map, option_and_then, slice_get, Result, Ok, codes}
use Rattle.std.specs.List.{flat_map, enumerate_from}
use Rattle.wb_json.specs.Place.{Place, at_member, at_index}
use Rattle.wb_json.specs.Form.{◌>>=◌, in_turn, or_wrong}
use Rattle.wb_ecore.specs.declared.classes.Enumeration.{Enumeration}
use Rattle.wb_ecore.specs.declared.packages.Package.{Package}
use Rattle.wb_ecore.specs.declared.features.Feature.{Feature}
use Rattle.wb_ecore.specs.declared.features.Kind.{Kind}
use Rattle.wb_ecore.specs.declared.features.Kind.TheVariants.{Int, Bool as BoolKind, Text, Enum, Reference}
use Rattle.wb_ecore.specs.declared.resolving.ResolvedClass.{ResolvedClass}
use Rattle.wb_ecore.specs.declared.document.Document.{Document}
use Rattle.wb_ecore.specs.declared.document.EnumPart.{EnumPart}
use Rattle.wb_ecore.specs.declared.document.ClassPart.{ClassPart}
use Rattle.wb_ecore.specs.declared.document.FeaturePart.{FeaturePart}
use Rattle.wb_ecore.specs.declared.document.Target.{Target}
use Rattle.wb_ecore.specs.declared.document.Target.TheVariants.{Values, Objects}
use Rattle.wb_ecore.specs.Naming.{same_name}

-- the class of that name
abbrev pub class_number : Document → List ℕ → Option ℕ
class_number document name = position (λ (part : ClassPart). same_name part.name name) document.classes

abbrev pub enum_number : Document → List ℕ → Option ℕ
enum_number document name = position (λ (part : EnumPart). same_name part.name name) document.enums

-- the own features of each class, with the number of the first: features are counted over all classes
abbrev pub numbered : ℕ → List ClassPart → List (ℕ × List FeaturePart)
numbered first [] = []
numbered first (part ∷ parts) = (first, part.features) ∷ numbered (first + length part.features) parts

-- the feature of that name among the own features of a class
abbrev pub own_feature : Document → ℕ → List ℕ → Option ℕ
own_feature document c name = option_and_then (λ (own : ℕ × List FeaturePart). option_map (λ i. own.0 + i) (position (λ (part : FeaturePart). same_name part.name name) own.1)) (slice_get (numbered 0 document.classes) c)

-- the kind of a word, or of an enumeration's name
abbrev pub kind_named : Document → List ℕ → Option Kind
kind_named document name =
    if same_name name (codes "Int") then Some Int
    else (if same_name name (codes "Bool") then Some BoolKind
    else (if same_name name (codes "Text") then Some Text
    else option_map (λ e. Enum e) (enum_number document name)))

abbrev pub opposite_of : Document → ℕ → Option (List ℕ) → Result (Option ℕ) Place
opposite_of document c None = Ok None
opposite_of document c (Some name) = at_member (codes "opposite") (or_wrong (own_feature document c name)) >>= (λ f. Ok (Some f))

abbrev pub feature_resolved : Document → ℕ → FeaturePart → Target → Result Feature Place
feature_resolved document c part (Values name) = do
  kind ← at_member (codes "type") (or_wrong (kind_named document name))
  Ok (record { name = part.name; owner = c; kind = kind; many = part.many; containment = false; opposite = None })
feature_resolved document c part (Objects reference) = do
  class ← at_member (codes "reference") (or_wrong (class_number document reference.class))
  opposite ← opposite_of document class reference.opposite
  Ok (record { name = part.name; owner = c; kind = Reference class; many = part.many; containment = reference.containment; opposite = opposite })

-- an item of a list, by its number
abbrev pub in_place : {A B : Type 0} → (A → Result B Place) → ℕ × A → Result B Place
in_place step i = at_index i.0 (step i.1)

-- each of a list in turn
abbrev pub walked : {A B : Type 0} → (A → Result B Place) → List A → Result (List B) Place
walked step xs = in_turn (in_place step) (enumerate_from 0 xs)

abbrev pub class_resolved : Document → ℕ × ClassPart → Result ResolvedClass Place
class_resolved document i = do
  supertypes ← at_member (codes "supertypes") (walked (λ name. or_wrong (class_number document name)) i.1.supertypes)
  features ← at_member (codes "features") (walked (λ (part : FeaturePart). feature_resolved document i.0 part part.target) i.1.features)
  Ok (record { class = record { name = i.1.name; is_abstract = i.1.is_abstract; supertypes = supertypes }; features = features })

abbrev pub enumeration_of : EnumPart → Enumeration
enumeration_of part = record { name = part.name; literals = part.literals }

-- what a document says, with the classes that its names name
abbrev pub package_of : Document → List ResolvedClass → Package
package_of document classes = record {
  package_name = document.package_name;
  classes = map (λ (c : ResolvedClass). c.class) classes;
  features = flat_map (λ (c : ResolvedClass). c.features) classes;
  enumerations = map enumeration_of document.enums;
}

-- the metamodel that a document stands for, where every name names something
unfoldable pub resolved : Document → Result Package Place
resolved document = at_member (codes "classes") (walked (class_resolved document) (enumerate_from 0 document.classes)) >>= (λ classes. Ok (package_of document classes))
