-- When a model is valid: ten conditions, and a bound on its objects.
use Rattle.std.specs.Prelude.{◌≡◌, ℕ, ◌^◌, ◌≤◌, Bool, true, false, not, ◌&&◌, nat_eq, nat_lt, nat_le, if◌then◌else◌, IsSome, List, [], ◌∷◌, length}
use Rattle.std.specs.Option.{option_map_or}
use Rattle.std.specs.List.{list_any, list_all}
use Rattle.std.specs.Str.{is_utf8}
use Rattle.std.specs.FinMap.{entries, len}
use Rattle.wb_metamodel.specs.Metamodel.{Metamodel, conforms, features_of, feature_at, class_at, literals_of}
use Rattle.wb_ecore.specs.declared.classes.Class.{Class}
use Rattle.wb_ecore.specs.declared.features.Feature.{Feature}
use Rattle.wb_ecore.specs.declared.features.Kind.{Kind}
use Rattle.wb_ecore.specs.declared.features.Kind.TheVariants.{Int as IntKind, Bool as BoolKind, Text as TextKind, Enum, Reference}
use Rattle.wb_store.specs.declared.scalars.Scalar.{Scalar}
use Rattle.wb_store.specs.declared.scalars.Scalar.TheVariants.{Int, Bool as Boolean, Text, Literal, Object}
use Rattle.wb_store.specs.Scalars.{same, is_int64}
use Rattle.wb_store.specs.Contents.{Contents, Filled, members, kind, slot, has_object, contains}
use Rattle.wb_store.specs.Features.{is_many, opposite}
use Rattle.wb_store.specs.Places.{once}

-- does the test pass each object with its class?
abbrev pub every_object : Contents → (ℕ → ℕ → Bool) → Bool
every_object m passes = list_all (λ (e : ℕ × ℕ). passes e.0 e.1) (entries m.kinds)

-- does the test pass each object and feature with their values, where there are any?
abbrev pub every_slot : Contents → (ℕ → ℕ → List Scalar → Bool) → Bool
every_slot m passes = list_all (λ (e : (ℕ × ℕ) × Filled). passes e.0.0 e.0.1 (members e.1)) (entries m.slots)

-- 1. `next` is from 1 to 4,294,967,295, and every object's number is at least 1 and less than `next`.
abbrev pub numbers_are_spent : Contents → Bool
numbers_are_spent m = nat_lt 0 m.next && nat_lt m.next (2 ^ 32) && every_object m (λ o c. nat_lt 0 o && nat_lt o m.next)

-- 2. No object's class is abstract; a number of no class counts as abstract.
abbrev pub is_abstract : Metamodel → ℕ → Bool
is_abstract metamodel c = option_map_or (λ (class : Class). class.is_abstract) (class_at metamodel c) true

abbrev pub classes_are_concrete : Contents → Bool
classes_are_concrete m = every_object m (λ o c. not (is_abstract m.metamodel c))

-- 3. Every slot that is not empty is of a feature of its object's class.
abbrev pub has_feature : Metamodel → ℕ → ℕ → Bool
has_feature metamodel c f = list_any (λ feature. nat_eq feature f) (features_of metamodel c)

abbrev pub is_of_class : Contents → ℕ → ℕ → Bool
is_of_class m o f = option_map_or (λ c. has_feature m.metamodel c f) (kind m o) false

abbrev pub slots_are_of_classes : Contents → Bool
slots_are_of_classes m = every_slot m (λ o f values. is_of_class m o f)

-- 4. A slot of a single feature holds at most one value, and any slot at most 20,000.
abbrev pub room : Metamodel → ℕ → ℕ
room metamodel f = if is_many metamodel f then 20000 else 1

abbrev pub slots_have_room : Contents → Bool
slots_have_room m = every_slot m (λ o f values. nat_le (length values) (room m.metamodel f))

-- 5. Every value is of its feature's kind: an integer has 64 signed bits, a text is UTF-8 of at most 65,536 bytes.
-- A referenced object is live, and conforms to the target class.
abbrev pub is_integer : Scalar → Bool
is_integer (Int n) = is_int64 n
is_integer _ = false

abbrev pub is_boolean : Scalar → Bool
is_boolean (Boolean b) = true
is_boolean _ = false

abbrev pub is_text : Scalar → Bool
is_text (Text bytes) = is_utf8 bytes && nat_le (length bytes) 65536
is_text _ = false

abbrev pub is_literal : Metamodel → ℕ → Scalar → Bool
is_literal metamodel e (Literal d l) = nat_eq e d && nat_lt l (length (literals_of metamodel e))
is_literal metamodel e _ = false

abbrev pub conforms_to : Contents → ℕ → ℕ → Bool
conforms_to m c o = option_map_or (λ d. conforms m.metamodel d c) (kind m o) false

abbrev pub is_instance : Contents → ℕ → Scalar → Bool
is_instance m c (Object o) = conforms_to m c o
is_instance m c _ = false

abbrev pub is_of_kind : Contents → Kind → Scalar → Bool
is_of_kind m IntKind value = is_integer value
is_of_kind m BoolKind value = is_boolean value
is_of_kind m TextKind value = is_text value
is_of_kind m (Enum e) value = is_literal m.metamodel e value
is_of_kind m (Reference c) value = is_instance m c value

abbrev pub is_of_feature : Contents → ℕ → Scalar → Bool
is_of_feature m f value = option_map_or (λ (feature : Feature). is_of_kind m feature.kind value) (feature_at m.metamodel f) false

abbrev pub values_are_of_kinds : Contents → Bool
values_are_of_kinds m = every_slot m (λ o f values. list_all (is_of_feature m f) values)

-- 6. No slot holds a value twice.
abbrev pub differ : List Scalar → Bool
differ [] = true
differ (value ∷ values) = not (list_any (λ other. same other value) values) && differ values

abbrev pub values_differ : Contents → Bool
values_differ m = every_slot m (λ o f values. differ values)

-- 7. For opposites f and g, p is in slot (o, f) exactly where o is in slot (p, g):
-- each of the two says 'only where', since the opposite of an opposite is the feature itself.
abbrev pub holds_back : Contents → ℕ → ℕ → ℕ → Bool
holds_back m o f p = option_map_or (λ g. has_object (slot m p g) o) (opposite m.metamodel f) true

abbrev pub is_held_back : Contents → ℕ → ℕ → Scalar → Bool
is_held_back m o f (Object p) = holds_back m o f p
is_held_back m o f _ = true

abbrev pub opposites_agree : Contents → Bool
opposites_agree m = every_slot m (λ o f values. list_all (is_held_back m o f) values)

-- 8. An object stands in at most one containment slot.
abbrev pub AreContainedOnce : Contents → Type 0
AreContainedOnce m = (o p q f g : ℕ) → IsSome (kind m o) → contains m p f o ≡ true → contains m q g o ≡ true → (p ≡ q) × (f ≡ g)

-- 9. No object contains itself, directly or through others.
pub data Within (m : Contents) : ℕ → ℕ → Type 0 where
  directly : {p o : ℕ} (f : ℕ) → contains m p f o ≡ true → Within m p o
  through : {p q o : ℕ} (f : ℕ) → Within m p q → contains m q f o ≡ true → Within m p o

abbrev pub NoneIsWithinItself : Contents → Type 0
NoneIsWithinItself m = (o : ℕ) → ¬ (Within m o o)

-- 10. The list of roots holds, each once, exactly the objects that stand in no containment slot.
abbrev pub is_root : Contents → ℕ → Bool
is_root m o = list_any (λ root. nat_eq root o) m.roots

pub record RootsAreUncontained (m : Contents) : Type 0 where
  pub each_once : once m.roots ≡ true
  pub live : (o : ℕ) → is_root m o ≡ true → IsSome (kind m o)
  pub uncontained : (o p f : ℕ) → is_root m o ≡ true → contains m p f o ≡ false
  pub all : (o : ℕ) → IsSome (kind m o) → ((p f : ℕ) → contains m p f o ≡ false) → is_root m o ≡ true

pub record Valid (m : Contents) : Type 0 where
  pub numbers_are_spent : numbers_are_spent m ≡ true
  pub classes_are_concrete : classes_are_concrete m ≡ true
  pub slots_are_of_classes : slots_are_of_classes m ≡ true
  pub slots_have_room : slots_have_room m ≡ true
  pub values_are_of_kinds : values_are_of_kinds m ≡ true
  pub values_differ : values_differ m ≡ true
  pub opposites_agree : opposites_agree m ≡ true
  pub are_contained_once : AreContainedOnce m
  pub none_is_within_itself : NoneIsWithinItself m
  pub roots_are_uncontained : RootsAreUncontained m
  -- at most 20,000 objects are live
  pub few_objects : len m.kinds ≤ 20000

-- the same, closed: what a proof does not look into
unfoldable pub IsValid : Contents → Type 0
IsValid m = Valid m
