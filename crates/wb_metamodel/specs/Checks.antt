-- What a text is as a metamodel: the metamodel, or the first code with the place of the first wrong spot.
-- Each check goes over the whole document, one after the other.
use Rattle.std.specs.Prelude.{⊤, ℕ, ◌&&◌, ◌||◌, nat_eq, nat_le, not, Bool, true, false, if◌then◌else◌, List, [], length, count_by, take, Option, Some, None, option_map, Result, Ok, Err, codes}
use Rattle.std.specs.Option.{option_map_or}
use Rattle.std.specs.List.{list_any}
use Rattle.wb_json.specs.Place.{Place, at_member, at_index}
use Rattle.wb_json.specs.Form.{or_wrong}
use Rattle.wb_base.specs.Results.{◌>>=◌}
use Rattle.wb_json.specs.Json.{json_of}
pub use Rattle.wb_json.specs.Refusals.{coded}
use Rattle.wb_ecore.specs.declared.features.Feature.{Feature}
use Rattle.wb_ecore.specs.declared.features.Kind.{Kind}
use Rattle.wb_ecore.specs.declared.features.Kind.TheVariants.{Int, Bool as BoolKind, Text, Enum, Reference}
use Rattle.wb_ecore.specs.declared.refusal.MetamodelCode.{MetamodelCode}
use Rattle.wb_ecore.specs.declared.refusal.MetamodelCode.TheVariants.{BadJson, BadShape, DuplicateName, UnknownName, SupertypeCycle, OppositeMismatch, TooMany}
use Rattle.wb_ecore.specs.declared.document.Document.{Document}
use Rattle.wb_ecore.specs.Document.{document_of}
use Rattle.wb_ecore.specs.Repeats.{none_is, unrepeated_names}
use Rattle.wb_ecore.specs.Resolving.{resolved}
use Rattle.wb_metamodel.specs.Metamodel.{Metamodel, same_name, names_feature, numbers, is_below, features_of, feature_at, literal_total}

-- ---- supertypes, inherited features and opposites

abbrev pub wrong_class : ℕ → Result ⊤ Place
wrong_class c = at_member (codes "classes") (at_index c (Err []))

-- the first class that is its own supertype
abbrev pub no_cycle : Metamodel → Result ⊤ Place
no_cycle mm = none_is (λ c. is_below mm c c) wrong_class (numbers (length mm.classes))

abbrev pub feature_name : Metamodel → ℕ → Option (List ℕ)
feature_name mm f = option_map (λ (feature : Feature). feature.name) (feature_at mm f)

abbrev pub is_name_of : Metamodel → List ℕ → ℕ → Bool
is_name_of mm name f = option_map_or (λ (feature : Feature). same_name feature.name name) (feature_at mm f) false

-- has a class another feature of the name of this one?
abbrev pub clashes : Metamodel → ℕ → ℕ → Bool
clashes mm c f = option_map_or (λ (feature : Feature). list_any (λ g. not (nat_eq f g) && is_name_of mm feature.name g) (features_of mm c)) (feature_at mm f) false

-- two different features of a class, inherited ones included, of one name
abbrev pub has_clash : Metamodel → ℕ → Bool
has_clash mm c = list_any (clashes mm c) (features_of mm c)

abbrev pub no_clash : Metamodel → Result ⊤ Place
no_clash mm = none_is (has_clash mm) wrong_class (numbers (length mm.classes))

abbrev pub refers_to : Kind → ℕ → Bool
refers_to (Reference c) owner = nat_eq c owner
refers_to Int owner = false
refers_to BoolKind owner = false
refers_to Text owner = false
refers_to (Enum e) owner = false

-- do a feature and its opposite not fit? The opposite names it back and refers to its class.
-- Not both are containments, and a reference whose opposite is a containment holds at most one.
abbrev pub unfit : ℕ → Feature → ℕ → Feature → Bool
unfit f feature g other = nat_eq f g || not (names_feature other.opposite f) || not (refers_to other.kind feature.owner) || (other.containment && (feature.containment || feature.many))

abbrev pub is_mismatched : Metamodel → ℕ → Feature → Option ℕ → Bool
is_mismatched mm f feature None = false
is_mismatched mm f feature (Some g) = option_map_or (λ (other : Feature). unfit f feature g other) (feature_at mm g) true

abbrev pub has_mismatch : Metamodel → ℕ → Bool
has_mismatch mm f = option_map_or (λ (feature : Feature). is_mismatched mm f feature feature.opposite) (feature_at mm f) false

-- a feature is wrong at its class and the number of that class's features before it
abbrev pub wrong_feature : Metamodel → ℕ → Result ⊤ Place
wrong_feature mm f = option_map_or (λ (feature : Feature). at_member (codes "classes") (at_index feature.owner (at_member (codes "features") (at_index (count_by (λ (one : Feature). nat_eq one.owner feature.owner) (take f mm.features)) (Err []))))) (feature_at mm f) (Err [])

abbrev pub opposites_match : Metamodel → Result ⊤ Place
opposites_match mm = none_is (has_mismatch mm) (wrong_feature mm) (numbers (length mm.features))

-- ---- limits

abbrev pub is_small : Metamodel → Bool
is_small mm = nat_le (length mm.classes) 1000 && nat_le (length mm.features) 10000 && nat_le (length mm.enumerations) 1000 && nat_le (literal_total mm) 10000

abbrev pub within_limits : Metamodel → Result ⊤ Place
within_limits mm = if is_small mm then Ok tt else Err []

-- ---- the whole

unfoldable pub read_document : List ℕ → Result Document (MetamodelCode × Place)
read_document bytes = do
  d ← coded BadJson (or_wrong (json_of bytes))
  coded BadShape (document_of d)

unfoldable pub resolve : Document → Result Metamodel (MetamodelCode × Place)
resolve document = do
  _ ← coded DuplicateName (unrepeated_names document)
  coded UnknownName (resolved document)

-- the checks after that of cycles
unfoldable pub later : Metamodel → Result ⊤ (MetamodelCode × Place)
later mm = do
  _ ← coded DuplicateName (no_clash mm)
  _ ← coded OppositeMismatch (opposites_match mm)
  coded TooMany (within_limits mm)

unfoldable pub check : Metamodel → Result Metamodel (MetamodelCode × Place)
check mm = do
  _ ← coded SupertypeCycle (no_cycle mm)
  _ ← later mm
  Ok mm

unfoldable pub metamodel : List ℕ → Result Metamodel (MetamodelCode × Place)
metamodel bytes = do
  document ← read_document bytes
  mm ← resolve document
  check mm
