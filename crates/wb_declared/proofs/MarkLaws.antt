-- What is declared does not look at the marks of what is not declared.
use Rattle.std.proofs.Common.{◌≡◌, ℕ, zero, suc, Bool, true, false, ◌||◌, List, [], ◌∷◌, ◌++◌, filter, Option, Some, None, refl, sym, ap, ◌∙◌}
use Rattle.std.specs.Prelude.{All}
use Rattle.std.specs.List.{flat_map}
use Rattle.std.specs.Option.{option_map_or}
use Rattle.std.proofs.lemmas.Bool.{and_from, and_parts}
use Rattle.std.proofs.lemmas.List.Elements.{All-cons, All-head, All-tail, All-weaker, filter_passes}
use Rattle.wb_store.specs.Contents.{Contents}
use Rattle.wb_diagram.specs.declared.keys.Key.{Key}
use Rattle.wb_diagram.specs.declared.keys.Pair.{Pair}
use Rattle.wb_spec_check.specs.Checked.{Specification}
use Rattle.wb_spec_check.specs.declared.checked_mappings.CheckedNode.{CheckedNode}
use Rattle.wb_answers.specs.SameKeys.{among}
use Rattle.wb_answers.specs.Seen.{Told}
use Rattle.wb_nodes.specs.Nodes.{Scene, below, candidates_by, child_mappings, children, children_by, children_with, is_declared, is_shown, node_mapping, node_units, nodes, passes, scene_of, units_by, units_under}
use Rattle.wb_edges.specs.Edges.{edge_units, edges, scene_of as among_nodes}
use Rattle.wb_refresh.specs.Diagrams.{units_of}
use Rattle.wb_refresh.specs.Outcomes.{Gives, told}
use Rattle.wb_refresh.specs.Subjects.{Setting, subject_in}
use Rattle.wb_declared.specs.Declarations.{DeclaresAlike, declared_nodes}
use Rattle.wb_declared.specs.Marks.{DropsUndeclared, settled}
use Rattle.wb_declared.proofs.Alike.{alike_parts, units_alike}
use Rattle.wb_declared.proofs.Keys.{all_among, among_filter}
use Rattle.wb_declared.proofs.Lists.{all_left, all_right, filter_same}

-- ---- where marks are dropped, at one scene

module _ (spec : Specification) (m : Contents) (told : Told) (a b : List Key) (fewer : (key : Key) → among b key ≡ true → among a key ≡ true) where
  abbrev before : Scene
  before = scene_of spec m a

  abbrev after : Scene
  after = scene_of spec m b

  -- a mark that is there stays
  abbrev Stays : Key → Type 0
  Stays key = among a key ≡ true → among b key ≡ true

  shown_less : (c d e : Bool) → (d ≡ true → e ≡ true) → (c || d) ≡ true → (c || e) ≡ true
  shown_less true d e f is = refl
  shown_less false d e f is = f is

  declared_less : (n : ℕ) (node : CheckedNode) (key : Key) → is_declared after told n node key ≡ true → is_declared before told n node key ≡ true
  declared_less n node key is =
      let parts = and_parts (passes after told n key) (is_shown after node key) is in
      and_from (passes before told n key) (is_shown before node key) parts.0 (shown_less node.synchronised (among b key) (among a key) (fewer key) parts.1)

  declared_still : (n : ℕ) (node : CheckedNode) (key : Key) → is_declared before told n node key ≡ true → Stays key → is_declared after told n node key ≡ true
  declared_still n node key is stays =
      let parts = and_parts (passes before told n key) (is_shown before node key) is in
      and_from (passes after told n key) (is_shown after node key) parts.0 (shown_less node.synchronised (among a key) (among b key) stays parts.1)

  same_with : (n : ℕ) (node : CheckedNode) (keys : List Key) → All Stays (filter (is_declared before told n node) keys) → filter (is_declared after told n node) keys ≡ filter (is_declared before told n node) keys
  same_with n node keys stay =
      filter_same (is_declared before told n node) (is_declared after told n node) (declared_less n node) keys
      (λ k d within. declared_still n node _ (filter_passes (is_declared before told n node) keys k d within) (stay k d within))

  same_by : (path : List Pair) (n : ℕ) → All Stays (children_by before told path n) → children_by after told path n ≡ children_by before told path n
  unfolding children_by candidates_by
  same_by path n stay = by (node_mapping spec n) stay
    where
      by : (found : Option CheckedNode) → All Stays (option_map_or (children_with before told path n) found []) → option_map_or (children_with after told path n) found [] ≡ option_map_or (children_with before told path n) found []
      by None stay = refl
      by (Some node) stay = same_with n node (candidates_by before told path n node) stay

  same_each : (path : List Pair) (numbers : List ℕ) → All Stays (flat_map (children_by before told path) numbers) → flat_map (children_by after told path) numbers ≡ flat_map (children_by before told path) numbers
  same_each path [] stay = refl
  same_each path (n ∷ ns) stay =
      let first = same_by path n (all_left Stays (children_by before told path n) (flat_map (children_by before told path) ns) stay) in
      let rest = same_each path ns (all_right Stays (children_by before told path n) (flat_map (children_by before told path) ns) stay) in
      λ i. first i ++ rest i

  same_children : (path : List Pair) → All Stays (children before told path) → children after told path ≡ children before told path
  unfolding children
  same_children path stay = same_each path (child_mappings spec path) stay

  module _ (levels : ℕ) (each : (path : List Pair) → All Stays (below levels before told path) → below levels after told path ≡ below levels before told path) where
    abbrev subtree : Key → List Key
    subtree key = key ∷ below levels before told key.pairs

    -- what holds of all in some elements holds of the elements
    firsts : (keys : List Key) → All Stays (flat_map subtree keys) → All Stays keys
    firsts [] stay = stay
    firsts (key ∷ keys) stay =
        All-cons Stays key keys (All-head Stays key (below levels before told key.pairs ++ flat_map subtree keys) stay)
        (firsts keys (all_right Stays (subtree key) (flat_map subtree keys) stay))

    same_inside : (keys : List Key) → All Stays (flat_map subtree keys) → flat_map (λ (key : Key). key ∷ below levels after told key.pairs) keys ≡ flat_map subtree keys
    same_inside [] stay = refl
    same_inside (key ∷ keys) stay =
        let inner = each key.pairs (All-tail Stays key (below levels before told key.pairs) (all_left Stays (subtree key) (flat_map subtree keys) stay)) in
        let rest = same_inside keys (all_right Stays (subtree key) (flat_map subtree keys) stay) in
        λ i. (key ∷ inner i) ++ rest i

  same_below : (levels : ℕ) (path : List Pair) → All Stays (below levels before told path) → below levels after told path ≡ below levels before told path
  unfolding below
  same_below zero path stay = refl
  same_below (suc n) path stay =
      ap (flat_map (λ (key : Key). key ∷ below n after told key.pairs)) (same_children path (firsts n (same_below n) (children before told path) stay))
      ∙ same_inside n (same_below n) (children before told path) stay

  same_nodes : All Stays (nodes before told) → nodes after told ≡ nodes before told
  unfolding nodes
  same_nodes stay = same_below 32 [] stay

  same_node_units : nodes after told ≡ nodes before told → node_units after told ≡ node_units before told
  unfolding node_units units_under units_by candidates_by
  same_node_units same = ap (λ (keys : List Key). units_under before told [] ++ flat_map (λ (key : Key). units_under before told key.pairs) keys) same

  pub same_units : nodes after told ≡ nodes before told → units_of after told ≡ units_of before told
  same_units same =
      units_alike after before told refl (same_node_units same)
      (ap (λ (keys : List Key). edge_units (among_nodes spec m keys) told) same) same
      (ap (λ (keys : List Key). edges (among_nodes spec m keys) told) same)

-- ---- the law

pub dropped_are_not_seen : (gives : Gives) (s : Setting) (a b : List Key) → DropsUndeclared (declared_nodes gives (subject_in s a)) a b → DeclaresAlike gives (subject_in s a) (subject_in s b)
dropped_are_not_seen gives s a b drops =
    let declared = declared_nodes gives (subject_in s a) in
    let stay : All (λ (key : Key). among a key ≡ true → among b key ≡ true) declared =
    All-weaker (λ (key : Key). among declared key ≡ true) (λ (key : Key). among a key ≡ true → among b key ≡ true) drops.kept declared (all_among declared)
    in
    let same = same_nodes s.spec s.model (told gives s) a b drops.fewer stay in
    alike_parts gives (subject_in s a) (subject_in s b) same
    (ap (λ (keys : List Key). edges (among_nodes s.spec s.model keys) (told gives s)) same)
    (same_units s.spec s.model (told gives s) a b drops.fewer same)
    refl

pub settled_drops : (declared marks : List Key) → DropsUndeclared declared marks (filter (among declared) marks)
settled_drops declared marks = record {
  fewer = λ key is. (and_parts (among declared key) (among marks key) (sym (among_filter declared marks key) ∙ is)).1;
  kept = λ key is marked. among_filter declared marks key ∙ and_from (among declared key) (among marks key) is marked;
}

pub settled_is_alike : (gives : Gives) (s : Setting) (a : List Key) → DeclaresAlike gives (subject_in s a) (subject_in s (settled gives s a))
settled_is_alike gives s a = dropped_are_not_seen gives s a (settled gives s a) (settled_drops (declared_nodes gives (subject_in s a)) a)
