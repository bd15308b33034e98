-- What is true of every metamodel that was read.
use Rattle.std.specs.Prelude.{◌≡◌, ◌≢◌, ℕ, ◌<◌, ◌≤◌, true, false, List, length, Contains, Some, slice_get}
use Rattle.wb_base.specs.Names.{is_name}
use Rattle.wb_ecore.specs.declared.classes.Class.{Class}
use Rattle.wb_ecore.specs.declared.classes.Enumeration.{Enumeration}
use Rattle.wb_ecore.specs.declared.features.Feature.{Feature}
use Rattle.wb_ecore.specs.declared.features.Kind.{Kind}
use Rattle.wb_ecore.specs.declared.features.Kind.TheVariants.{Int, Bool as BoolKind, Text, Enum, Reference}
use Rattle.wb_metamodel.specs.Metamodel.{Metamodel, is_supertype, is_below, features_of, feature_at, class_at, enum_at, class_named, enum_named, feature_named, literal_named, literal_total}

-- the class or the enumeration of a kind is one of the metamodel
abbrev pub KindIsKnown : Metamodel → Kind → Type 0
KindIsKnown mm Int = Unit {0}
KindIsKnown mm BoolKind = Unit {0}
KindIsKnown mm Text = Unit {0}
KindIsKnown mm (Enum e) = e < length mm.enumerations
KindIsKnown mm (Reference c) = c < length mm.classes

abbrev pub IsReference : Kind → Type 0
IsReference (Reference c) = Unit {0}
IsReference Int = ⊥
IsReference BoolKind = ⊥
IsReference Text = ⊥
IsReference (Enum e) = ⊥

-- two features are opposites: two references that name each other, each to the class of the other
pub record AreOpposite (f : ℕ) (feature : Feature) (g : ℕ) (other : Feature) : Type 0 where
  pub differ : f ≢ g
  pub named_back : other.opposite ≡ Some f
  pub target : feature.kind ≡ Reference other.owner
  pub target_back : other.kind ≡ Reference feature.owner
  -- a container reference is no containment, and holds at most one object
  pub one_containment : feature.containment ≡ true → other.containment ≡ false
  pub single_container : other.containment ≡ true → feature.many ≡ false

pub record WellFormed (mm : Metamodel) : Type 0 where
  pub few_classes : length mm.classes ≤ 1000
  pub few_features : length mm.features ≤ 10000
  pub few_enumerations : length mm.enumerations ≤ 1000
  pub few_literals : literal_total mm ≤ 10000
  -- every number is one of the metamodel
  pub supertypes_known : (c s : ℕ) → is_supertype mm c s ≡ true → s < length mm.classes
  pub owners_known : (f : ℕ) (feature : Feature) → feature_at mm f ≡ Some feature → feature.owner < length mm.classes
  pub kinds_known : (f : ℕ) (feature : Feature) → feature_at mm f ≡ Some feature → KindIsKnown mm feature.kind
  -- no class is its own supertype
  pub acyclic : (c : ℕ) → is_below mm c c ≡ false
  -- every name is one: a letter or `_`, then letters, digits and `_`, at most 64 bytes
  pub package_is_a_name : is_name mm.package_name ≡ true
  pub classes_are_names : (c : ℕ) (class : Class) → class_at mm c ≡ Some class → is_name class.name ≡ true
  pub features_are_names : (f : ℕ) (feature : Feature) → feature_at mm f ≡ Some feature → is_name feature.name ≡ true
  pub enumerations_are_names : (e : ℕ) (enumeration : Enumeration) → enum_at mm e ≡ Some enumeration → is_name enumeration.name ≡ true
  pub literals_are_names : (e l : ℕ) (enumeration : Enumeration) (literal : List ℕ) → enum_at mm e ≡ Some enumeration → slice_get enumeration.literals l ≡ Some literal → is_name literal ≡ true
  -- what has a name is found by it
  pub classes_named : (c : ℕ) (class : Class) → class_at mm c ≡ Some class → class_named mm class.name ≡ Some c
  pub enumerations_named : (e : ℕ) (enumeration : Enumeration) → enum_at mm e ≡ Some enumeration → enum_named mm enumeration.name ≡ Some e
  pub literals_named : (e l : ℕ) (enumeration : Enumeration) (literal : List ℕ) → enum_at mm e ≡ Some enumeration → slice_get enumeration.literals l ≡ Some literal → literal_named mm e literal ≡ Some l
  pub features_named : (c f : ℕ) (feature : Feature) → c < length mm.classes → Contains (features_of mm c) f → feature_at mm f ≡ Some feature → feature_named mm c feature.name ≡ Some f
  -- containments are references, and so is what has an opposite
  pub containments : (f : ℕ) (feature : Feature) → feature_at mm f ≡ Some feature → feature.containment ≡ true → IsReference feature.kind
  pub opposites : (f g : ℕ) (feature : Feature) → feature_at mm f ≡ Some feature → feature.opposite ≡ Some g → (other : Feature) × (feature_at mm g ≡ Some other) × AreOpposite f feature g other

-- the same, closed: what a proof does not look into
unfoldable pub IsWellFormed : Metamodel → Type 0
IsWellFormed mm = WellFormed mm
