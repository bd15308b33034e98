-- The features of each class, as the code fills them in: rank by rank.
use Rattle.std.specs.Prelude.{◌≡◌, ℕ, ◌<◌, ◌^◌, ◌++◌, true, false, List, [], length, slice_index_or}
use Rattle.std.specs.List.{flat_map}
use Rattle.wb_metamodel.specs.Metamodel.{Metamodel, is_supertype, is_below, supertypes_of, own_features, features_of}
use Rattle.wb_metamodel.specs.invariants.Tables.{rank_of}

-- no class is its own supertype, and the counts fit their numbers
pub record IsHierarchy (mm : Metamodel) : Type 0 where
  pub acyclic : (c : ℕ) → is_below mm c c ≡ false
  pub known : (c s : ℕ) → is_supertype mm c s ≡ true → s < length mm.classes
  pub few_classes : length mm.classes < 2 ^ 32
  pub few_features : length mm.features < 2 ^ 32

-- the features of a class's supertypes in the table, and its own
abbrev pub all_features : Metamodel → List (List ℕ) → ℕ → List ℕ
all_features mm table c = flat_map (λ s. slice_index_or table s []) (supertypes_of mm c) ++ own_features mm c

-- the features of every class of a lower rank stand in the table
pub record FilledTo (mm : Metamodel) (table : List (List ℕ)) (rank : ℕ) : Type 0 where
  pub lengths : length table ≡ length mm.classes
  pub ready : (c : ℕ) → c < length mm.classes → rank_of mm c < rank → slice_index_or table c [] ≡ features_of mm c
