-- What is declared directly under a path, key by key.
use Rattle.std.proofs.Common.{◌≡◌, ℕ, Bool, true, false, ◌&&◌, nat_eq, List, [], ◌∷◌, ◌++◌, map, filter, Option, Some, None, refl, sym, ap, subst, ◌∙◌}
use Rattle.std.specs.List.{list_any}
use Rattle.std.specs.Option.{option_map_or}
use Rattle.std.specs.Cmp.Lexicographic.{pointwise}
use Rattle.std.proofs.lemmas.Bool.{and_from, eqb-true}
use Rattle.wb_diagram.specs.declared.keys.Key.{Key}
use Rattle.wb_diagram.specs.declared.keys.Pair.{Pair}
use Rattle.wb_spec_check.specs.declared.checked_mappings.CheckedNode.{CheckedNode}
use Rattle.wb_answers.specs.Meanings.{objects_of}
use Rattle.wb_answers.specs.SameKeys.{among, same_key, same_pair}
use Rattle.wb_answers.specs.Seen.{Told}
use Rattle.wb_answers.proofs.SameKeyLaws.{key_equiv, pair_equiv}
use Rattle.wb_nodes.specs.Nodes.{Scene, candidates_at, candidates_by, child, child_mappings, children, children_by, children_with, fits, is_declared, node_mapping, pair_of}
use Rattle.wb_declared.specs.Standing.{key_under, may_stand}
use Rattle.wb_declared.proofs.Lists.{any_filter, any_flat, any_implied, any_map, any_one}
use Rattle.wb_declared.proofs.Tests.{last_first, second_first}

-- keys under one path are the same where their own pairs are
same_under : (path : List Pair) (a b : Pair) → pointwise same_pair (path ++ a ∷ []) (path ++ b ∷ []) ≡ same_pair a b
same_under [] a b = one (same_pair a b)
  where
    one : (c : Bool) → (c && true) ≡ c
    one true = refl
    one false = refl
same_under (x ∷ path) a b = ap (λ c. c && pointwise same_pair (path ++ a ∷ []) (path ++ b ∷ [])) (pair_equiv.refl x) ∙ same_under path a b

module _ (s : Scene) (told : Told) (path : List Pair) where
  abbrev objects_at : ℕ → List ℕ
  objects_at n = objects_of (told (candidates_at path n))

  -- what a mapping asks of an object under the path
  abbrev pub declares : Pair → CheckedNode → Bool
  declares own node =
      fits s path own.mapping node own.object
      && (list_any (nat_eq own.object) (objects_of (told (candidates_at path own.mapping))) && is_declared s told own.mapping node (key_under path own))

  module _ (own : Pair) where
    abbrev at : ℕ → CheckedNode → ℕ → Bool
    at n node o = is_declared s told n node (child path n o)

    one_object : (n : ℕ) (node : CheckedNode) (objects : List ℕ) →
        list_any (λ (o : ℕ). fits s path n node o && (at n node o && same_key (key_under path own) (child path n o))) objects
        ≡ (nat_eq own.mapping n && (fits s path n node own.object && (list_any (nat_eq own.object) objects && at n node own.object)))
    one_object n node objects =
        ap (λ (p : ℕ → Bool). list_any p objects) (λ i o. (ap (λ b. fits s path n node o && (at n node o && b)) (same_under path own (pair_of n o)) ∙ last_first (fits s path n node o) (at n node o) (nat_eq own.mapping n) (nat_eq own.object o)) i)
        ∙ (any_one (nat_eq own.object) (λ (o : ℕ). nat_eq own.mapping n && (fits s path n node o && at n node o)) own.object (λ o is. sym (eqb-true own.object o is)) objects
        ∙ second_first (list_any (nat_eq own.object) objects) (nat_eq own.mapping n) (fits s path n node own.object) (at n node own.object))

    among_with : (n : ℕ) (node : CheckedNode) → among (children_with s told path n node) (key_under path own) ≡ (nat_eq own.mapping n && declares (pair_of n own.object) node)
    unfolding candidates_by
    among_with n node =
        any_filter (same_key (key_under path own)) (is_declared s told n node) (map (child path n) (filter (fits s path n node) (objects_at n)))
        ∙ (any_map (λ (key : Key). is_declared s told n node key && same_key (key_under path own) key) (child path n) (filter (fits s path n node) (objects_at n))
        ∙ (any_filter (λ (o : ℕ). at n node o && same_key (key_under path own) (child path n o)) (fits s path n node) (objects_at n)
        ∙ one_object n node (objects_at n)))

    among_by : (n : ℕ) → among (children_by s told path n) (key_under path own) ≡ (nat_eq own.mapping n && option_map_or (declares (pair_of n own.object)) (node_mapping s.spec n) false)
    unfolding children_by
    among_by n = by (node_mapping s.spec n)
      where
        none : (b : Bool) → false ≡ (b && false)
        none true = refl
        none false = refl

        by : (found : Option CheckedNode) → among (option_map_or (children_with s told path n) found []) (key_under path own) ≡ (nat_eq own.mapping n && option_map_or (declares (pair_of n own.object)) found false)
        by None = none (nat_eq own.mapping n)
        by (Some node) = among_with n node

    -- a key is declared directly under its path where its mapping may stand there and declares its object
    pub among_children : among (children s told path) (key_under path own) ≡ (may_stand s.spec path own.mapping && option_map_or (declares own) (node_mapping s.spec own.mapping) false)
    unfolding children
    among_children =
        any_flat (same_key (key_under path own)) (children_by s told path) (child_mappings s.spec path)
        ∙ (ap (λ (p : ℕ → Bool). list_any p (child_mappings s.spec path)) (λ i n. among_by n i)
        ∙ any_one (nat_eq own.mapping) (λ (n : ℕ). option_map_or (declares (pair_of n own.object)) (node_mapping s.spec n) false) own.mapping (λ n is. sym (eqb-true own.mapping n is)) (child_mappings s.spec path))

    -- a candidate's key
    pub among_candidates : (node : CheckedNode) → fits s path own.mapping node own.object ≡ true → list_any (nat_eq own.object) (objects_at own.mapping) ≡ true → among (candidates_by s told path own.mapping node) (key_under path own) ≡ true
    unfolding candidates_by
    among_candidates node fit object =
        any_map (same_key (key_under path own)) (child path own.mapping) (filter (fits s path own.mapping node) (objects_at own.mapping))
        ∙ (any_filter (λ (o : ℕ). same_key (key_under path own) (child path own.mapping o)) (fits s path own.mapping node) (objects_at own.mapping)
        ∙ any_implied (nat_eq own.object) is_it found (objects_at own.mapping) object)
      where
        is_it : ℕ → Bool
        is_it o = fits s path own.mapping node o && same_key (key_under path own) (child path own.mapping o)

        found : (o : ℕ) → nat_eq own.object o ≡ true → is_it o ≡ true
        found o is = subst (λ (p : ℕ). is_it p ≡ true) (eqb-true own.object o is) (and_from (fits s path own.mapping node own.object) (same_key (key_under path own) (key_under path own)) fit (key_equiv.refl (key_under path own)))
