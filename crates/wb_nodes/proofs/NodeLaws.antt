-- What is true of the declared elements, and of the units that are asked for them.
use Rattle.std.proofs.Common.{◌≡◌, ◌-◌, ◌≤◌, ◌<◌, ℕ, zero, suc, Bool, true, false, List, [], ◌∷◌, ◌++◌, length, filter, Option, Some, None, refl, sym, ap, subst, ◌∙◌, arith, inl, inr, ⊎_elim, if◌then◌else◌, get_or, ◌⊎◌, length-append}
use Rattle.std.specs.Prelude.{All, Contains, IsSome, nat_le, option_map}
use Rattle.std.specs.List.{flat_map, list_any}
use Rattle.std.specs.Option.{option_map_or}
use Rattle.std.specs.Cmp.Lexicographic.{lists_equiv}
use Rattle.std.proofs.Math.Seq.{get_or-append_seam}
use Rattle.std.proofs.lemmas.Bool.{leb-false}
use Rattle.std.proofs.lemmas.List.{length-take-le, take_at}
use Rattle.std.proofs.lemmas.List.Elements.{All-append, All-cons, All-filter, All-head, All-map, All-nil, All-tail, All-weaker, Contains-append_left, Contains-append_right, filter_passes}
use Rattle.std.proofs.lemmas.List.Folds.{list_any_at}
use Rattle.std.proofs.lemmas.Option.{slice_get-get_or}
use Rattle.wb_base.specs.Options.{◌>>=◌}
use Rattle.wb_validity.specs.Valid.{conforms_to}
use Rattle.wb_diagram.specs.Keys.{IsPath}
use Rattle.wb_diagram.specs.Units.{NamesPaths}
use Rattle.wb_diagram.specs.declared.keys.AnyKey.TheVariants.{Node}
use Rattle.wb_diagram.specs.declared.keys.Key.{Key}
use Rattle.wb_diagram.specs.declared.keys.Pair.{Pair}
use Rattle.wb_diagram.specs.declared.units.Unit.{Unit as Place}
use Rattle.wb_diagram.specs.declared.units.Unit.TheVariants.{Precondition}
use Rattle.wb_spec_check.specs.Checked.{Specification}
use Rattle.wb_spec_check.specs.Units.{candidates_of_form, expression_of, last_pair, mapping_of, mapping_of_key, precondition_of}
use Rattle.wb_spec_check.specs.declared.checked_mappings.CheckedForm.{CheckedForm}
use Rattle.wb_spec_check.specs.declared.checked_mappings.CheckedForm.TheVariants.{Node as NodeForm, Edge as EdgeForm}
use Rattle.wb_spec_check.specs.declared.checked_mappings.CheckedMapping.{CheckedMapping}
use Rattle.wb_spec_check.specs.declared.checked_mappings.CheckedNode.{CheckedNode}
use Rattle.wb_answers.specs.Environments.{front}
use Rattle.wb_answers.specs.SameKeys.{among, same_key, same_pair}
use Rattle.wb_answers.specs.Seen.{Told}
use Rattle.wb_answers.proofs.SameKeyLaws.{pair_equiv}
use Rattle.wb_nodes.specs.Nodes.{Scene, below, candidates_at, candidates_by, child, child_mappings, children, children_by, children_with, fits, fitting, is_conditional, is_declared, node_in, node_mapping, node_units, nodes, pair_of, precondition_at, units_by, units_under, units_with}
use Rattle.wb_nodes.proofs.Walks.{uncut}

-- ---- lists of lists

all_flat : {X Y : Type 0} (P : Y → Type 0) (f : X → List Y) (xs : List X) → All (λ x. All P (f x)) xs → All P (flat_map f xs)
all_flat P f [] all = All-nil P
all_flat P f (x ∷ xs) all = All-append P (f x) (flat_map f xs) (All-head (λ y. All P (f y)) x xs all) (all_flat P f xs (All-tail (λ y. All P (f y)) x xs all))

-- ---- candidates

-- the key of an object of the mapping under the path
pub record IsCandidate (path : List Pair) (n : ℕ) (key : Key) : Type 0 where
  pub object : ℕ
  pub is : key.pairs ≡ path ++ pair_of n object ∷ []
  pub shallow : length path < 32

-- the same, under some node mapping
pub record IsUnder (spec : Specification) (path : List Pair) (key : Key) : Type 0 where
  pub number : ℕ
  pub node : CheckedNode
  pub known : node_mapping spec number ≡ Some node
  pub candidate : IsCandidate path number key

fitting_are : (s : Scene) (path : List Pair) (n : ℕ) (node : CheckedNode) (objects : List ℕ) → All (IsCandidate path n) (fitting s path n node objects)
fitting_are s path n node objects =
    All-map (IsCandidate path n) (child path n) (filter (fits s path n node) objects)
    (All-weaker (λ o. fits s path n node o ≡ true) (λ o. IsCandidate path n (child path n o)) can_stand (filter (fits s path n node) objects) (filter_passes (fits s path n node) objects))
  where
    can_stand : (o : ℕ) → fits s path n node o ≡ true → IsCandidate path n (child path n o)
    can_stand o is = record {
      object = o;
      is = refl;
      shallow = leb-false 32 (length path) (uncut (conforms_to s.model node.objects.domain o) (list_any (same_pair (pair_of n o)) path) (nat_le 32 (length path)) is);
    }

candidates_are : (s : Scene) (told : Told) (path : List Pair) (n : ℕ) (node : CheckedNode) → All (IsCandidate path n) (candidates_by s told path n node)
unfolding candidates_by
candidates_are s told path n node = fitting_are s path n node _

module _ (s : Scene) (told : Told) (path : List Pair) where
  by_mapping : (n : ℕ) → All (IsUnder s.spec path) (children_by s told path n)
  unfolding children_by
  by_mapping n = by (node_mapping s.spec n) refl
    where
      by : (found : Option CheckedNode) → node_mapping s.spec n ≡ found → All (IsUnder s.spec path) (option_map_or (children_with s told path n) found [])
      by None is = All-nil (IsUnder s.spec path)
      by (Some node) is =
          All-filter (is_declared s told n node) (IsUnder s.spec path) (candidates_by s told path n node)
          (All-weaker (IsCandidate path n) (IsUnder s.spec path) (λ key candidate. record { number = n; node = node; known = is; candidate = candidate }) (candidates_by s told path n node) (candidates_are s told path n node))

  pub children_are_under : All (IsUnder s.spec path) (children s told path)
  unfolding children
  children_are_under = all_flat (IsUnder s.spec path) (children_by s told path) (child_mappings s.spec path) (λ k d within. by_mapping _)

-- ---- elements

abbrev IsElement : Specification → Key → Type 0
IsElement spec key = (path : List Pair) × IsUnder spec path key

below_are_elements : (levels : ℕ) (s : Scene) (told : Told) (path : List Pair) → All (IsElement s.spec) (below levels s told path)
unfolding below
below_are_elements zero s told path = All-nil (IsElement s.spec)
below_are_elements (suc n) s told path =
    all_flat (IsElement s.spec) (λ (key : Key). key ∷ below n s told key.pairs) (children s told path)
    (All-weaker (IsUnder s.spec path) (λ (key : Key). All (IsElement s.spec) (key ∷ below n s told key.pairs))
    (λ key under. All-cons (IsElement s.spec) key (below n s told key.pairs) (path, under) (below_are_elements n s told key.pairs))
    (children s told path) (children_are_under s told path))

nodes_are_elements : (s : Scene) (told : Told) → All (IsElement s.spec) (nodes s told)
unfolding nodes
nodes_are_elements s told = below_are_elements 32 s told []

-- a candidate's key is a path
path_of : (path : List Pair) (n : ℕ) (key : Key) → IsCandidate path n key → IsPath key
path_of path n key c =
    let shallow = c.shallow in
    let long : length key.pairs ≡ suc (length path) = ap length c.is ∙ (length-append path (pair_of n c.object ∷ []) ∙ (omega arith)) in
    record { not_empty = omega (arith, long); within_limit = omega (arith, long, shallow) }

-- each declared key is a path
pub nodes_are_paths : (s : Scene) (told : Told) → All IsPath (nodes s told)
nodes_are_paths s told = All-weaker (IsElement s.spec) IsPath (λ key element. path_of element.0 element.1.number key element.1.candidate) (nodes s told) (nodes_are_elements s told)

-- ---- mappings

last_is : (path : List Pair) (pair : Pair) → last_pair (path ++ pair ∷ []) ≡ Some pair
last_is path pair =
    let long = length-append path (pair ∷ []) in
    slice_get-get_or (path ++ pair ∷ []) _ pair (omega (arith, long))
    ∙ ap Some (ap (λ i. get_or (path ++ pair ∷ []) i pair) (omega (arith, long)) ∙ get_or-append_seam path pair [] pair)

numbered : (path : List Pair) (n : ℕ) (key : Key) → IsCandidate path n key → mapping_of_key (Node key) ≡ Some n
numbered path n key c = ap (λ (pairs : List Pair). mapping_of_key (Node (record { pairs = pairs }))) c.is ∙ ap (option_map (λ (pair : Pair). pair.mapping)) (last_is path (pair_of n c.object))

pub record Mapped (spec : Specification) (n : ℕ) : Type 0 where
  pub mapping : CheckedMapping
  pub node : CheckedNode
  pub is : mapping_of spec n ≡ Some mapping
  pub form : mapping.form ≡ NodeForm node

mapped : (spec : Specification) (n : ℕ) (node : CheckedNode) → node_mapping spec n ≡ Some node → Mapped spec n
unfolding node_mapping
mapped spec n node is = by (mapping_of spec n) refl is
  where
    with_form : (mapping : CheckedMapping) (form : CheckedForm) → mapping_of spec n ≡ Some mapping → mapping.form ≡ form → node_in form ≡ Some node → Mapped spec n
    with_form mapping (NodeForm it) found same is = record { mapping = mapping; node = it; is = found; form = same }
    with_form mapping (EdgeForm it) found same is = cc

    by : (found : Option CheckedMapping) → mapping_of spec n ≡ found → (found >>= (λ (mapping : CheckedMapping). node_in mapping.form)) ≡ Some node → Mapped spec n
    by None found is = cc
    by (Some mapping) found is = with_form mapping mapping.form found refl is

-- each declared key's mapping is one of the viewpoint's
pub nodes_have_mappings : (s : Scene) (told : Told) → All (λ (key : Key). IsSome (mapping_of_key (Node key) >>= mapping_of s.spec)) (nodes s told)
nodes_have_mappings s told = All-weaker (IsElement s.spec) (λ (key : Key). IsSome (mapping_of_key (Node key) >>= mapping_of s.spec)) known (nodes s told) (nodes_are_elements s told)
  where
    known : (key : Key) → IsElement s.spec key → IsSome (mapping_of_key (Node key) >>= mapping_of s.spec)
    known key element =
        let under = element.1 in
        let it = mapped s.spec under.number under.node under.known in
        subst (λ (found : Option ℕ). IsSome (found >>= mapping_of s.spec)) (sym (numbered element.0 under.number key under.candidate))
        (subst (λ (found : Option CheckedMapping). IsSome found) (sym it.is) refl)

-- ---- parents

-- the key of what an element stands in
abbrev pub parent : Key → Key
parent key = record { pairs = front key.pairs }

-- the element stands directly under the path, or in one of these
abbrev StandsIn : List Key → List Pair → Key → Type 0
StandsIn keys path key = (front key.pairs ≡ path) ⊎ Contains keys (parent key)

directly_under : (path : List Pair) (n : ℕ) (key : Key) → IsCandidate path n key → front key.pairs ≡ path
directly_under path n key c =
    let long = length-append path (pair_of n c.object ∷ []) in
    ap front c.is ∙ take_at path (pair_of n c.object ∷ []) _ (omega (arith, long))

contains_first : (key : Key) (keys : List Key) → Contains (key ∷ keys) key
contains_first key keys = (0, omega arith, refl)

module _ (s : Scene) (told : Told) (n : ℕ) (each : (path : List Pair) → All (StandsIn (below n s told path) path) (below n s told path)) where
  abbrev subtree : Key → List Key
  subtree key = key ∷ below n s told key.pairs

  in_subtree : (key : Key) (rest : List Key) (path : List Pair) (inner : Key) → StandsIn (below n s told key.pairs) key.pairs inner → StandsIn (subtree key ++ rest) path inner
  in_subtree key rest path inner stands =
      inr (⊎_elim
      (λ is. subst (λ (pairs : List Pair). Contains (subtree key ++ rest) (record { pairs = pairs })) (sym is) (contains_first key (below n s told key.pairs ++ rest)))
      (λ within. Contains-append_left (subtree key) rest (parent inner) (Contains-append_right (key ∷ []) (below n s told key.pairs) (parent inner) within))
      stands)

  in_rest : (key : Key) (rest : List Key) (path : List Pair) (inner : Key) → StandsIn rest path inner → StandsIn (subtree key ++ rest) path inner
  in_rest key rest path inner stands = ⊎_elim inl (λ within. inr (Contains-append_right (subtree key) rest (parent inner) within)) stands

  in_subtrees : (path : List Pair) (keys : List Key) → All (IsUnder s.spec path) keys → All (StandsIn (flat_map subtree keys) path) (flat_map subtree keys)
  in_subtrees path [] are = All-nil (StandsIn [] path)
  in_subtrees path (key ∷ keys) are =
      let rest = flat_map subtree keys in
      let under = All-head (IsUnder s.spec path) key keys are in
      let P : Key → Type 0 = StandsIn (subtree key ++ rest) path in
      All-append P (subtree key) rest
      (All-cons P key (below n s told key.pairs) (inl (directly_under path under.number key under.candidate))
      (All-weaker (StandsIn (below n s told key.pairs) key.pairs) P (in_subtree key rest path) (below n s told key.pairs) (each key.pairs)))
      (All-weaker (StandsIn rest path) P (in_rest key rest path) rest (in_subtrees path keys (All-tail (IsUnder s.spec path) key keys are)))

stand_below : (levels : ℕ) (s : Scene) (told : Told) (path : List Pair) → All (StandsIn (below levels s told path) path) (below levels s told path)
unfolding below
stand_below zero s told path = All-nil (StandsIn [] path)
stand_below (suc n) s told path = in_subtrees s told n (stand_below n s told) path (children s told path) (children_are_under s told path)

stand_in_nodes : (s : Scene) (told : Told) → All (StandsIn (nodes s told) []) (nodes s told)
unfolding nodes
stand_in_nodes s told = stand_below 32 s told []

-- the parent of each declared key of more than one pair is declared too
pub parents_are_nodes : (s : Scene) (told : Told) → All (λ (key : Key). 2 ≤ length key.pairs → Contains (nodes s told) (parent key)) (nodes s told)
parents_are_nodes s told = All-weaker (StandsIn (nodes s told) []) (λ (key : Key). 2 ≤ length key.pairs → Contains (nodes s told) (parent key)) deep (nodes s told) (stand_in_nodes s told)
  where
    longer : (pairs : List Pair) → 2 ≤ length pairs → front pairs ≡ [] → ⊥
    longer pairs long is =
        let none = ap length is in
        let less = length-take-le (length pairs - 1) pairs (omega arith) in
        absurd (omega (arith, long, none, less))

    deep : (key : Key) → StandsIn (nodes s told) [] key → 2 ≤ length key.pairs → Contains (nodes s told) (parent key)
    deep key stands long = ⊎_elim (λ is. absurd (longer key.pairs long is)) (λ within. within) stands

is_among : (keys : List Key) (key : Key) → Contains keys key → among keys key ≡ true
is_among keys key within =
    list_any_at (same_key key) keys within.0 key within.1 (subst (λ (k : Key). same_key key k ≡ true) (sym within.2) ((lists_equiv pair_equiv).refl key.pairs))

-- the same, as a test
pub parents_are_declared : (s : Scene) (told : Told) → All (λ (key : Key). 2 ≤ length key.pairs → among (nodes s told) (parent key) ≡ true) (nodes s told)
parents_are_declared s told =
    All-weaker (λ (key : Key). 2 ≤ length key.pairs → Contains (nodes s told) (parent key)) (λ (key : Key). 2 ≤ length key.pairs → among (nodes s told) (parent key) ≡ true)
    (λ key within long. is_among (nodes s told) (parent key) (within long)) (nodes s told) (parents_are_nodes s told)

-- ---- expressions of units

abbrev HasExpression : Specification → Place → Type 0
HasExpression spec unit = IsSome (expression_of spec unit)

candidates_expressed : (spec : Specification) (path : List Pair) (n : ℕ) → Mapped spec n → HasExpression spec (candidates_at path n)
unfolding expression_of
candidates_expressed spec path n it =
    subst (λ (found : Option CheckedMapping). IsSome (found >>= (λ (mapping : CheckedMapping). candidates_of_form mapping.form))) (sym it.is)
    (subst (λ (form : CheckedForm). IsSome (candidates_of_form form)) (sym it.form) refl)

precondition_expressed : (spec : Specification) (path : List Pair) (n : ℕ) (key : Key) → IsCandidate path n key → is_conditional spec n ≡ true → HasExpression spec (Precondition key)
unfolding expression_of is_conditional
precondition_expressed spec path n key c is = subst (λ (found : Option ℕ). IsSome (found >>= precondition_of spec)) (sym (numbered path n key c)) is

-- what holds of a mapping's units under a path, where it holds of its candidates, and of the preconditions of its candidates if it has one
module _ (P : Place → Type 0) (s : Scene) (told : Told) (path : List Pair) where
  if_conditional : (n : ℕ) → ((key : Key) → IsCandidate path n key → is_conditional s.spec n ≡ true → P (Precondition key)) → (key : Key) → IsCandidate path n key → All P (precondition_at s n key)
  if_conditional n of_key key c = by (is_conditional s.spec n) refl
    where
      by : (b : Bool) → is_conditional s.spec n ≡ b → All P (if b then Precondition key ∷ [] else [])
      by true is = All-cons P (Precondition key) [] (of_key key c is) (All-nil P)
      by false is = All-nil P

  all_under : ((n : ℕ) → Mapped s.spec n → P (candidates_at path n)) → ((n : ℕ) (key : Key) → IsCandidate path n key → is_conditional s.spec n ≡ true → P (Precondition key)) → All P (units_under s told path)
  unfolding units_under units_by
  all_under of_path of_key = all_flat P (units_by s told path) (child_mappings s.spec path) (λ k d within. of_number _)
    where
      by : (n : ℕ) (found : Option CheckedNode) → node_mapping s.spec n ≡ found → All P (option_map_or (units_with s told path n) found [])
      by n None is = All-nil P
      by n (Some node) is =
          All-cons P (candidates_at path n) (flat_map (precondition_at s n) (candidates_by s told path n node)) (of_path n (mapped s.spec n node is))
          (all_flat P (precondition_at s n) (candidates_by s told path n node)
          (All-weaker (IsCandidate path n) (λ (key : Key). All P (precondition_at s n key)) (if_conditional n (of_key n)) (candidates_by s told path n node) (candidates_are s told path n node)))

      of_number : (n : ℕ) → All P (units_by s told path n)
      of_number n = by n (node_mapping s.spec n) refl

-- what holds of the units under the diagram, and under each declared element
in_all : (P : Place → Type 0) (s : Scene) (told : Told) → All P (units_under s told []) → All (λ (key : Key). All P (units_under s told key.pairs)) (nodes s told) → All P (node_units s told)
unfolding node_units
in_all P s told first each = All-append P (units_under s told []) (flat_map (λ (key : Key). units_under s told key.pairs) (nodes s told)) first (all_flat P (λ (key : Key). units_under s told key.pairs) (nodes s told) each)

-- the viewpoint has an expression for each unit that is asked
pub node_units_are_expressed : (s : Scene) (told : Told) → All (λ (unit : Place). IsSome (expression_of s.spec unit)) (node_units s told)
node_units_are_expressed s told = in_all (HasExpression s.spec) s told (under []) (λ k d within. under _)
  where
    under : (path : List Pair) → All (HasExpression s.spec) (units_under s told path)
    under path = all_under (HasExpression s.spec) s told path (candidates_expressed s.spec path) (precondition_expressed s.spec path)

-- ---- paths in units

candidates_name_paths : (path : List Pair) (n : ℕ) → length path ≤ 32 → NamesPaths (candidates_at path n)
candidates_name_paths [] n within = tt
candidates_name_paths (pair ∷ path) n within = record { not_empty = omega arith; within_limit = within }

-- each unit that is asked names paths
pub node_units_name_paths : (s : Scene) (told : Told) → All NamesPaths (node_units s told)
node_units_name_paths s told = in_all NamesPaths s told (under [] (omega arith)) (All-weaker IsPath (λ (key : Key). All NamesPaths (units_under s told key.pairs)) (λ key is. under key.pairs is.within_limit) (nodes s told) (nodes_are_paths s told))
  where
    under : (path : List Pair) → length path ≤ 32 → All NamesPaths (units_under s told path)
    under path within = all_under NamesPaths s told path (λ n it. candidates_name_paths path n within) (λ n key c is. path_of path n key c)
