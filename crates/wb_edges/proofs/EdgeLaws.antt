-- What is true of every declared edge, and of every unit that is asked for one.
use Rattle.std.proofs.Common.{◌≡◌, ℕ, Bool, true, false, not, List, [], ◌∷◌, length, map, Option, Some, None, get_or, refl, ap, subst, if◌then◌else◌}
use Rattle.std.specs.Option.{option_map_or}
use Rattle.std.specs.Prelude.{⊤, All, IsSome, is_some, option_map}
use Rattle.std.specs.List.{flat_map}
use Rattle.std.proofs.lemmas.List.Elements.{All-append, All-cons, All-filter, All-map, All-nil, All-head, All-tail, All-weaker}
use Rattle.std.proofs.lemmas.List.Folds.{list_any_at}
use Rattle.wb_base.specs.Lists.{numbers}
use Rattle.wb_base.specs.Options.{◌>>=◌}
use Rattle.wb_diagram.specs.Keys.{IsPath, JoinsPaths}
use Rattle.wb_diagram.specs.Units.{NamesPaths}
use Rattle.wb_diagram.specs.declared.keys.AnyKey.TheVariants as key
use Rattle.wb_diagram.specs.declared.keys.EdgeKey.{EdgeKey}
use Rattle.wb_diagram.specs.declared.keys.Key.{Key}
use Rattle.wb_diagram.specs.declared.keys.Pair.{Pair}
use Rattle.wb_diagram.specs.declared.units.Unit.{Unit as Place}
use Rattle.wb_diagram.specs.declared.units.Unit.TheVariants.{EdgeCandidates, EdgePrecondition, Source, Target}
use Rattle.wb_spec_check.specs.Checked.{Specification}
use Rattle.wb_spec_check.specs.Units.{Expression, candidates_of_form, expression_of, mapping_of, mapping_of_key, source_of_form, target_of_form}
use Rattle.wb_spec_check.specs.declared.checked_mappings.CheckedEdge.{CheckedEdge}
use Rattle.wb_spec_check.specs.declared.checked_mappings.CheckedForm.{CheckedForm}
use Rattle.wb_spec_check.specs.declared.checked_mappings.CheckedForm.TheVariants.{Node as NodeForm, Edge as EdgeForm}
use Rattle.wb_spec_check.specs.declared.checked_mappings.CheckedMapping.{CheckedMapping}
use Rattle.wb_spec_check.specs.declared.checked_mappings.CheckedSource.{CheckedSource}
use Rattle.wb_answers.specs.SameKeys.{among, same_edge, same_key}
use Rattle.wb_answers.specs.Seen.{Told}
use Rattle.wb_answers.proofs.SameKeyLaws.{key_equiv}
use Rattle.wb_edges.specs.Edges.{Scene, candidates_at, each_once, edge_between, edge_in, edge_mapping, edge_units, edges, edges_at, edges_between, edges_by, edges_with, elements_for, elements_of, finders, found_sources, found_targets, is_conditional, is_element_based, is_of, pair_of, passes, precondition_at, represents, semantic, source_finder, units_at, units_by, units_with}

-- ---- lists

all_flat : {X Y : Type 0} (P : Y → Type 0) (f : X → List Y) (xs : List X) → ((x : X) → All P (f x)) → All P (flat_map f xs)
all_flat P f [] h = All-nil P
all_flat P f (x ∷ xs) h = All-append P (f x) (flat_map f xs) (h x) (all_flat P f xs h)

all_flat_of : {X Y : Type 0} (Q : X → Type 0) (P : Y → Type 0) (f : X → List Y) (xs : List X) → All Q xs → ((x : X) → Q x → All P (f x)) → All P (flat_map f xs)
all_flat_of Q P f [] are h = All-nil P
all_flat_of Q P f (x ∷ xs) are h = All-append P (f x) (flat_map f xs) (h x (All-head Q x xs are)) (all_flat_of Q P f xs (All-tail Q x xs are) h)

all_once : (P : EdgeKey → Type 0) (es : List EdgeKey) → All P es → All P (each_once es)
unfolding each_once
all_once P [] are = are
all_once P (e ∷ es) are = All-cons P e _ (All-head P e es are) (All-filter (λ (other : EdgeKey). not (same_edge e other)) P (each_once es) (all_once P es (All-tail P e es are)))

all_where : {X : Type 0} (P : X → Type 0) (b : Bool) (xs : List X) → (b ≡ true → All P xs) → All P (if b then xs else [])
all_where P true xs h = h refl
all_where P false xs h = All-nil P

-- ---- each edge

-- what is true of each element is true of both ends of each edge, and the edge is of an edge mapping
module _ (s : Scene) (told : Told) (Q : Key → Type 0) (P : EdgeKey → Type 0) (nodes : All Q s.nodes)
    (h : (n : ℕ) (edge : CheckedEdge) (o : ℕ) (source target : Key) → edge_mapping s.spec n ≡ Some edge → Q source → Q target → P (edge_between (pair_of n o) source target)) where
  elements_all : (mappings : List ℕ) (o : ℕ) → All Q (elements_for s mappings o)
  elements_all mappings o = All-filter (represents o) Q (elements_of s mappings) (All-filter (is_of mappings) Q s.nodes nodes)

  between_all : (n : ℕ) (edge : CheckedEdge) (o : ℕ) (sources targets : List ℕ) → edge_mapping s.spec n ≡ Some edge → All P (edges_between s edge (pair_of n o) sources targets)
  between_all n edge o sources targets is =
      all_flat P (λ (from : ℕ). flat_map (λ (source : Key). flat_map (λ (to : ℕ). map (edge_between (pair_of n o) source) (elements_for s edge.targets to)) targets) (elements_for s edge.sources from)) sources
      (λ from. all_flat_of Q P (λ (source : Key). flat_map (λ (to : ℕ). map (edge_between (pair_of n o) source) (elements_for s edge.targets to)) targets) (elements_for s edge.sources from) (elements_all edge.sources from)
      (λ source known. all_flat P (λ (to : ℕ). map (edge_between (pair_of n o) source) (elements_for s edge.targets to)) targets
      (λ to. All-map P (edge_between (pair_of n o) source) (elements_for s edge.targets to)
      (All-weaker Q (λ (target : Key). P (edge_between (pair_of n o) source target)) (λ target other. h n edge o source target is known other) (elements_for s edge.targets to) (elements_all edge.targets to)))))

  at_all : (n : ℕ) (edge : CheckedEdge) (o : ℕ) → edge_mapping s.spec n ≡ Some edge → All P (edges_at s told edge (pair_of n o))
  unfolding edges_at
  at_all n edge o is = all_where P (passes s told (pair_of n o)) _ (λ _. between_all n edge o (found_sources told edge (pair_of n o)) (found_targets told (pair_of n o)) is)

  by_all : (n : ℕ) → All P (edges_by s told n)
  unfolding edges_by
  by_all n = by (edge_mapping s.spec n) refl
    where
      by : (found : Option CheckedEdge) → edge_mapping s.spec n ≡ found → All P (option_map_or (edges_with s told n) found [])
      by None is = All-nil P
      by (Some edge) is = all_flat P (λ (o : ℕ). edges_at s told edge (pair_of n o)) (semantic s told n edge) (λ o. at_all n edge o is)

  pub edges_all : All P (edges s told)
  unfolding edges
  edges_all = all_once P _ (all_flat P (edges_by s told) (numbers (length s.spec.1.mappings)) by_all)

-- both ends of an edge are paths where the elements are
pub edges_join_paths : (s : Scene) (told : Told) → All IsPath s.nodes → All JoinsPaths (edges s told)
edges_join_paths s told paths = edges_all s told IsPath JoinsPaths paths (λ n edge o source target is first second. record { source = first; target = second })

-- ---- its mapping

-- the key is of an edge mapping of the viewpoint
abbrev pub HasEdgeMapping : Specification → EdgeKey → Type 0
HasEdgeMapping spec e = IsSome (edge_mapping spec e.mapping)

-- the key's mapping is one of the viewpoint's
abbrev pub HasMapping : Specification → EdgeKey → Type 0
HasMapping spec e = IsSome (mapping_of_key (key.Edge e) >>= mapping_of spec)

true_of_all : {X : Type 0} (xs : List X) → All (λ (x : X). ⊤) xs
true_of_all xs = λ i d within. tt

found_some : {A : Type 0} (found : Option A) (x : A) → found ≡ Some x → IsSome found
found_some found x is = ap is_some is

pub edges_have_edge_mappings : (s : Scene) (told : Told) → All (HasEdgeMapping s.spec) (edges s told)
edges_have_edge_mappings s told =
    edges_all s told (λ (k : Key). ⊤) (HasEdgeMapping s.spec) (true_of_all s.nodes) (λ n edge o source target is _ _. found_some (edge_mapping s.spec n) edge is)

edge_mapping_stands : (spec : Specification) (n : ℕ) → IsSome (edge_mapping spec n) → IsSome (mapping_of spec n)
unfolding edge_mapping
edge_mapping_stands spec n some = by (mapping_of spec n) some
  where
    by : (found : Option CheckedMapping) → IsSome (found >>= (λ (mapping : CheckedMapping). edge_in mapping.form)) → IsSome found
    by None some = some
    by (Some mapping) some = refl

pub edges_have_mappings : (s : Scene) (told : Told) → All (HasMapping s.spec) (edges s told)
edges_have_mappings s told = All-weaker (HasEdgeMapping s.spec) (HasMapping s.spec) (λ e has. edge_mapping_stands s.spec e.mapping has) (edges s told) (edges_have_edge_mappings s told)

-- ---- its ends

-- both ends of an edge are among these elements
pub record EndsAmong (nodes : List Key) (e : EdgeKey) : Type 0 where
  pub source : among nodes e.source ≡ true
  pub target : among nodes e.target ≡ true

each_among : (nodes : List Key) → All (λ (k : Key). among nodes k ≡ true) nodes
each_among nodes = λ i d within. list_any_at (same_key (get_or nodes i d)) nodes i d within (key_equiv.refl (get_or nodes i d))

pub edges_end_among : (s : Scene) (told : Told) → All (EndsAmong s.nodes) (edges s told)
edges_end_among s told =
    edges_all s told (λ (k : Key). among s.nodes k ≡ true) (EndsAmong s.nodes) (each_among s.nodes) (λ n edge o source target is first second. record { source = first; target = second })

-- ---- each unit

-- the units of an edge mapping: its candidates and source finders only where its edges stand for objects of their own, preconditions only where it has one
module _ (s : Scene) (told : Told) (P : Place → Type 0)
    (candidates : (n : ℕ) (edge : CheckedEdge) → edge_mapping s.spec n ≡ Some edge → is_element_based edge ≡ true → P (EdgeCandidates n))
    (precondition : (pair : Pair) → is_conditional s.spec pair.mapping ≡ true → P (EdgePrecondition pair))
    (source : (pair : Pair) (edge : CheckedEdge) → edge_mapping s.spec pair.mapping ≡ Some edge → is_element_based edge ≡ true → P (Source pair))
    (target : (pair : Pair) (edge : CheckedEdge) → edge_mapping s.spec pair.mapping ≡ Some edge → P (Target pair)) where
  alone : (unit : Place) → P unit → All P (unit ∷ [])
  alone unit known = All-cons P unit [] known (All-nil P)

  finders_all : (edge : CheckedEdge) (pair : Pair) → edge_mapping s.spec pair.mapping ≡ Some edge → All P (finders edge pair)
  finders_all edge pair is =
      All-append P (source_finder edge pair) (Target pair ∷ [])
      (all_where P (is_element_based edge) (Source pair ∷ []) (λ based. alone (Source pair) (source pair edge is based)))
      (alone (Target pair) (target pair edge is))

  units_at_all : (edge : CheckedEdge) (pair : Pair) → edge_mapping s.spec pair.mapping ≡ Some edge → All P (units_at s told edge pair)
  unfolding units_at
  units_at_all edge pair is =
      All-append P (precondition_at s pair) (if passes s told pair then finders edge pair else [])
      (all_where P (is_conditional s.spec pair.mapping) (EdgePrecondition pair ∷ []) (λ conditional. alone (EdgePrecondition pair) (precondition pair conditional)))
      (all_where P (passes s told pair) (finders edge pair) (λ _. finders_all edge pair is))

  units_with_all : (n : ℕ) (edge : CheckedEdge) → edge_mapping s.spec n ≡ Some edge → All P (units_with s told n edge)
  units_with_all n edge is =
      All-append P (candidates_at n edge) (flat_map (λ (o : ℕ). units_at s told edge (pair_of n o)) (semantic s told n edge))
      (all_where P (is_element_based edge) (EdgeCandidates n ∷ []) (λ based. alone (EdgeCandidates n) (candidates n edge is based)))
      (all_flat P (λ (o : ℕ). units_at s told edge (pair_of n o)) (semantic s told n edge) (λ o. units_at_all edge (pair_of n o) is))

  units_by_all : (n : ℕ) → All P (units_by s told n)
  unfolding units_by
  units_by_all n = by (edge_mapping s.spec n) refl
    where
      by : (found : Option CheckedEdge) → edge_mapping s.spec n ≡ found → All P (option_map_or (units_with s told n) found [])
      by None is = All-nil P
      by (Some edge) is = units_with_all n edge is

  pub units_all : All P (edge_units s told)
  unfolding edge_units
  units_all = all_flat P (units_by s told) (numbers (length s.spec.1.mappings)) units_by_all

-- each unit names paths
pub units_name_paths : (s : Scene) (told : Told) → All NamesPaths (edge_units s told)
units_name_paths s told = units_all s told NamesPaths (λ n edge is based. tt) (λ pair conditional. tt) (λ pair edge is based. tt) (λ pair edge is. tt)

-- ---- its expression

-- the viewpoint has an expression for the unit
abbrev pub HasExpression : Specification → Place → Type 0
HasExpression spec unit = IsSome (expression_of spec unit)

some_part : {A B : Type 0} (f : A → B) (found : Option A) → is_some found ≡ true → IsSome (option_map f found)
some_part f None some = cc
some_part f (Some x) some = refl

-- what an edge mapping has, the viewpoint has at its number
of_mapping : (spec : Specification) (n : ℕ) (edge : CheckedEdge) (part : CheckedForm → Option Expression) → edge_mapping spec n ≡ Some edge → IsSome (part (EdgeForm edge)) → IsSome (mapping_of spec n >>= (λ (mapping : CheckedMapping). part mapping.form))
unfolding edge_mapping
of_mapping spec n edge part is some = by (mapping_of spec n) is
  where
    in_form : (form : CheckedForm) → edge_in form ≡ Some edge → IsSome (part form)
    in_form (NodeForm node) is = cc
    in_form (EdgeForm it) is = let same : edge ≡ it = cc in subst (λ (e : CheckedEdge). IsSome (part (EdgeForm e))) same some

    by : (found : Option CheckedMapping) → (found >>= (λ (mapping : CheckedMapping). edge_in mapping.form)) ≡ Some edge → IsSome (found >>= (λ (mapping : CheckedMapping). part mapping.form))
    by None is = cc
    by (Some mapping) is = in_form mapping.form is

pub units_have_expressions : (s : Scene) (told : Told) → All (HasExpression s.spec) (edge_units s told)
unfolding expression_of is_conditional
units_have_expressions s told =
    units_all s told (HasExpression s.spec)
    (λ n edge is based. of_mapping s.spec n edge candidates_of_form is (some_part (λ (it : CheckedSource). it.objects.candidates) edge.object_edge based))
    (λ pair conditional. conditional)
    (λ pair edge is based. of_mapping s.spec pair.mapping edge (λ (form : CheckedForm). option_map (λ (it : CheckedSource). it.source_finder) (source_of_form form)) is (some_part (λ (it : CheckedSource). it.source_finder) edge.object_edge based))
    (λ pair edge is. of_mapping s.spec pair.mapping edge target_of_form is refl)
