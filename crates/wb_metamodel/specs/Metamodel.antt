-- A metamodel, after Ecore: classes with supertypes, features and enumerations.
-- The number of a class, a feature or an enumeration is its place in these lists.
use Rattle.std.specs.Prelude.{◌≡◌, ◌⊎◌, ℕ, Bool, false, ◌||◌, nat_eq, List, [], ◌++◌, length, filter, find, slice_get, Option, Some, None, option_and_then, sum_by, zero, suc}
use Rattle.std.specs.Option.{option_map_or}
use Rattle.std.specs.List.{list_any, flat_map, position}
use Rattle.wb_ecore.specs.declared.classes.Class.{Class}
use Rattle.wb_ecore.specs.declared.packages.Package.{Package}
use Rattle.wb_ecore.specs.declared.classes.Enumeration.{Enumeration}
use Rattle.wb_ecore.specs.declared.features.Feature.{Feature}
pub use Rattle.wb_base.specs.Names.{same_name}
pub use Rattle.wb_base.specs.Lists.{numbers, first_places}
use Rattle.wb_base.specs.Paths.{Leads, leads_through}

-- a metamodel: the name of its package, its classes, its features and its enumerations
abbrev pub Metamodel : Type 0
Metamodel = Package

-- ---- the hierarchy of classes

-- the direct supertypes of a class, in order
abbrev pub supertypes_of : Metamodel → ℕ → List ℕ
supertypes_of mm c = option_map_or (λ (class : Class). class.supertypes) (slice_get mm.classes c) []

-- is b a direct supertype of a?
abbrev pub is_supertype : Metamodel → ℕ → ℕ → Bool
is_supertype mm a b = list_any (nat_eq b) (supertypes_of mm a)

-- a path of supertypes leads from the one class to the other, also the empty path (Ecore: `isSuperTypeOf`)
abbrev pub Conforms : Metamodel → ℕ → ℕ → Type 0
Conforms mm a b = (a ≡ b) ⊎ Leads (is_supertype mm) a b

-- does a path of one or more steps lead from a to b?
unfoldable pub is_below : Metamodel → ℕ → ℕ → Bool
is_below mm a b = leads_through (is_supertype mm) (numbers (length mm.classes)) a b

-- the same test with the empty path; for every metamodel it holds exactly where `Conforms` does
unfoldable pub conforms : Metamodel → ℕ → ℕ → Bool
conforms mm a b = nat_eq a b || is_below mm a b

-- ---- the features of a class

-- the features that a class declares itself, in document order
abbrev pub own_features : Metamodel → ℕ → List ℕ
own_features mm c = filter (λ f. option_map_or (λ (feature : Feature). nat_eq feature.owner c) (slice_get mm.features f) false) (numbers (length mm.features))

-- the features of a class that has at most n classes above each other up to its roots:
-- inherited ones first, supertype by supertype, own ones last
unfoldable pub features_within : Metamodel → ℕ → ℕ → List ℕ
features_within mm zero c = []
features_within mm (suc n) c = first_places (flat_map (features_within mm n) (supertypes_of mm c) ++ own_features mm c)

-- without a cycle no more classes stand above each other than there are
unfoldable pub features_of : Metamodel → ℕ → List ℕ
features_of mm c = features_within mm (length mm.classes) c

-- does an opposite name this feature?
abbrev pub names_feature : Option ℕ → ℕ → Bool
names_feature None f = false
names_feature (Some g) f = nat_eq g f

-- ---- look-ups

abbrev pub feature_at : Metamodel → ℕ → Option Feature
feature_at mm f = slice_get mm.features f

abbrev pub class_at : Metamodel → ℕ → Option Class
class_at mm c = slice_get mm.classes c

-- the class of that name
abbrev pub class_named : Metamodel → List ℕ → Option ℕ
class_named mm name = position (λ (class : Class). same_name class.name name) mm.classes

abbrev pub enum_named : Metamodel → List ℕ → Option ℕ
enum_named mm name = position (λ (enumeration : Enumeration). same_name enumeration.name name) mm.enumerations

-- the feature of that name among all features of a class, inherited ones included
abbrev pub feature_named : Metamodel → ℕ → List ℕ → Option ℕ
feature_named mm c name = find (λ f. option_map_or (λ (feature : Feature). same_name feature.name name) (feature_at mm f) false) (features_of mm c)

-- the literal of that name within an enumeration
abbrev pub literal_named : Metamodel → ℕ → List ℕ → Option ℕ
literal_named mm e name = option_and_then (λ (enumeration : Enumeration). position (λ literal. same_name literal name) enumeration.literals) (slice_get mm.enumerations e)

abbrev pub enum_at : Metamodel → ℕ → Option Enumeration
enum_at mm e = slice_get mm.enumerations e

-- the literals of an enumeration, in order
abbrev pub literals_of : Metamodel → ℕ → List (List ℕ)
literals_of mm e = option_map_or (λ (enumeration : Enumeration). enumeration.literals) (enum_at mm e) []

-- how many literals all enumerations have together
abbrev pub literal_total : Metamodel → ℕ
literal_total mm = sum_by (λ (enumeration : Enumeration). length enumeration.literals) mm.enumerations
