-- What the tables of a metamodel hold, by which it is looked up.
use Rattle.std.specs.Prelude.{◌≡◌, ℕ, ◌<◌, Bool, false, ◌||◌, not, nat_eq, find, unwrap_or, slice_index, if◌then◌else◌, count_by, List, [], ◌∷◌, length, map, slice_index_or, Option, Some, None, option_and_then, slice_get, position}
use Rattle.std.specs.List.{list_any, AllZip}
use Rattle.wb_metamodel.specs.Metamodel.{Metamodel, same_name, names_feature, numbers, is_below, features_of, class_named, enum_named, feature_named}
use Rattle.wb_ecore.specs.declared.classes.Enumeration.{Enumeration}
use Rattle.wb_ecore.specs.declared.features.Feature.{Feature}
use Rattle.wb_metamodel.specs.declared.lookup.Tables.{Tables}
use Rattle.wb_ecore.specs.declared.numbered_names.NumberedNames.{NumberedNames}
use Rattle.wb_ecore.specs.invariants.NumberedNames.{number_of}

-- the table of a function of two numbers below n
abbrev pub table_of : {X : Type 0} → ℕ → (ℕ → ℕ → X) → List (List X)
table_of n f = map (λ a. map (f a) (numbers n)) (numbers n)

-- for each pair of classes, does a path of one or more supertypes lead from the first to the second?
unfoldable pub below_table : Metamodel → List (List Bool)
below_table mm = table_of (length mm.classes) (is_below mm)

-- the row of a class by its direct supertypes
abbrev pub direct_row : ℕ → List ℕ → List Bool
direct_row n supertypes = map (λ b. list_any (nat_eq b) supertypes) (numbers n)

-- what the one row has, and what the other has
abbrev pub or_row : List Bool → List Bool → List Bool
or_row [] via = []
or_row (x ∷ xs) [] = x ∷ xs
or_row (x ∷ xs) (y ∷ ys) = (x || y) ∷ or_row xs ys

-- a row that leads to k leads where k leads
abbrev pub widened : ℕ → List Bool → List Bool → List Bool
widened k via row = if slice_index_or row k false then or_row row via else row

-- the features of each class
unfoldable pub features_table : Metamodel → List (List ℕ)
features_table mm = map (features_of mm) (numbers (length mm.classes))

-- how many classes stand above a class
unfoldable pub rank_of : Metamodel → ℕ → ℕ
rank_of mm c = count_by (is_below mm c) (numbers (length mm.classes))

-- the first place of a feature of that name
abbrev pub feature_place : Metamodel → List ℕ → Option ℕ
feature_place mm name = position (λ (feature : Feature). same_name feature.name name) mm.features

-- names that give each name its first place in a list
abbrev pub PlacesOf : NumberedNames → List (List ℕ) → Type 0
PlacesOf names all = (name : List ℕ) → number_of names name ≡ position (λ one. same_name one name) all

-- for each enumeration, the places of its literals
abbrev pub LiteralPlaces : List NumberedNames → List Enumeration → Type 0
LiteralPlaces tables enumerations = AllZip (λ names (enumeration : Enumeration). PlacesOf names enumeration.literals) tables enumerations

-- the entry of a table, by row and column
abbrev pub entry : {X : Type 0} → List (List X) → ℕ → ℕ → Option X
entry rows i k = option_and_then (λ row. slice_get row k) (slice_get rows i)

-- for each class and the first place of each name, the feature of that name
abbrev pub IsByName : Metamodel → List (List (Option ℕ)) → Type 0
IsByName mm rows = (c k : ℕ) (name : List ℕ) → c < length mm.classes → feature_place mm name ≡ Some k → entry rows c k ≡ Some (feature_named mm c name)

-- is k the place of a feature's name?
abbrev pub placed : List ℕ → ℕ → ℕ → Bool
placed places k f = nat_eq (slice_index places f) k

-- of these features the one whose name has each place
pub record HasRow (places : List ℕ) (row : List (Option ℕ)) (own : List ℕ) : Type 0 where
  pub length_is : length row ≡ length places
  pub cells : (k : ℕ) → k < length places → slice_index_or row k None ≡ find (placed places k) own

-- does a row have another feature at the place of this one's name?
abbrev pub is_other : List (Option ℕ) → List ℕ → ℕ → Bool
is_other row places f = not (names_feature (slice_index_or row (slice_index places f) None) f)

pub record TablesOf (mm : Metamodel) (t : Tables) : Type 0 where
  pub below : t.below ≡ below_table mm
  pub class_features : t.class_features ≡ features_table mm
  pub class_names : (name : List ℕ) → number_of t.class_names name ≡ class_named mm name
  pub enum_names : (name : List ℕ) → number_of t.enum_names name ≡ enum_named mm name
  pub literal_names : LiteralPlaces t.literal_names mm.enumerations
  pub feature_names : (name : List ℕ) → number_of t.feature_names name ≡ feature_place mm name
  pub feature_places : t.feature_places ≡ map (λ (feature : Feature). unwrap_or (feature_place mm feature.name) 0) mm.features
  pub rows : AllZip (HasRow t.feature_places) t.features_by_name t.class_features
  pub features_by_name : IsByName mm t.features_by_name
