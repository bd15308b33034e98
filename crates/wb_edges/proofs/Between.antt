-- Three loops over gathered targets are the four nested loops.
use Rattle.std.proofs.Common.{◌≡◌, ◌||◌, ℕ, Bool, false, not, nat_eq, List, [], ◌∷◌, ◌++◌, length, map, refl, sym, ap, ◌∙◌, arith, if◌then◌else◌}
use Rattle.std.specs.List.{flat_map, list_any}
use Rattle.std.proofs.lemmas.Bool.{eqb-true, not-false, or_parts}
use Rattle.std.proofs.lemmas.List.{map-append}
use Rattle.std.proofs.lemmas.List.Concat.{flat_map_single}
use Rattle.indexmap.specs.IndexMap.{IndexMap}
use Rattle.wb_diagram.specs.declared.keys.EdgeKey.{EdgeKey}
use Rattle.wb_diagram.specs.declared.keys.Key.{Key}
use Rattle.wb_diagram.specs.declared.keys.Pair.{Pair}
use Rattle.wb_spec_check.specs.declared.checked_mappings.CheckedEdge.{CheckedEdge}
use Rattle.wb_answers.specs.Seen.{Told}
use Rattle.wb_edges.specs.Edges.{Scene, edge_between, edges_at, edges_between, elements_for, finders, found_sources, found_targets, passes, precondition_at, units_at}
use Rattle.wb_edges.specs.Grounds.{AreEnds, elements_in, has_element}
use Rattle.wb_edges.specs.Puts.{edges_by_ends, edges_from, edges_from_object}
use Rattle.wb_edges.specs.declared.ends.Ends.{Ends}

map_flat : {X Y Z : Type 0} (h : Y → Z) (f : X → List Y) (xs : List X) → map h (flat_map f xs) ≡ flat_map (λ x. map h (f x)) xs
map_flat h f [] = refl
map_flat h f (x ∷ xs) = map-append h (f x) (flat_map f xs) ∙ ap (λ zs. map h (f x) ++ zs) (map_flat h f xs)

-- the edges from an element to those for these objects
to_targets : (s : Scene) (edge : CheckedEdge) (pair : Pair) (targets : List ℕ) (source : Key)
    → edges_from pair (flat_map (elements_for s edge.targets) targets) source ≡ flat_map (λ (to : ℕ). map (edge_between pair source) (elements_for s edge.targets to)) targets
to_targets s edge pair targets source = flat_map_single (edge_between pair source) (flat_map (elements_for s edge.targets) targets) ∙ map_flat (edge_between pair source) (elements_for s edge.targets) targets

-- no edges come from objects that no element represents
pub none_from : {S : Type 0} (pair : Pair) (targets : List Key) (table : IndexMap ℕ (List Key) S) (objects : List ℕ) → list_any (has_element table) objects ≡ false → flat_map (edges_from_object pair targets table) objects ≡ []
none_from pair targets table [] none = refl
none_from pair targets table (o ∷ os) none = by (elements_in table o) (list_any (has_element table) os) none (none_from pair targets table os)
  where
    by : (own : List Key) (b : Bool) → (not (nat_eq (length own) 0) || b) ≡ false → (b ≡ false → flat_map (edges_from_object pair targets table) os ≡ []) → flat_map (edges_from pair targets) own ++ flat_map (edges_from_object pair targets table) os ≡ []
    by [] b is rest = rest is
    by (key ∷ keys) b is rest =
        let none = eqb-true (length (key ∷ keys)) 0 (not-false _ (or_parts (not (nat_eq (length (key ∷ keys)) 0)) b is).0) in
        absurd (omega (arith, none))

pub by_ends : (s : Scene) (edge : CheckedEdge) (pair : Pair) (ends : Ends) (sources targets : List ℕ) → AreEnds s edge ends → edges_by_ends ends pair sources targets ≡ edges_between s edge pair sources targets
by_ends s edge pair ends sources targets are =
    ap (λ (f : ℕ → List Key). flat_map (λ (o : ℕ). flat_map (edges_from pair (flat_map (elements_in ends.targets) targets)) (f o)) sources) (λ i o. are.sources o i)
    ∙ (ap (λ (f : ℕ → List Key). flat_map (λ (o : ℕ). flat_map (edges_from pair (flat_map f targets)) (elements_for s edge.sources o)) sources) (λ i o. are.targets o i)
    ∙ ap (λ (h : Key → List EdgeKey). flat_map (λ (o : ℕ). flat_map h (elements_for s edge.sources o)) sources) (λ i source. to_targets s edge pair targets source i))

-- ---- at a semantic object, by its precondition

pub units_where : (s : Scene) (told : Told) (edge : CheckedEdge) (pair : Pair) (b : Bool) → passes s told pair ≡ b → precondition_at s pair ++ (if b then finders edge pair else []) ≡ units_at s told edge pair
unfolding units_at
units_where s told edge pair b is = ap (λ c. precondition_at s pair ++ (if c then finders edge pair else [])) (sym is)

pub edges_where : (s : Scene) (told : Told) (edge : CheckedEdge) (pair : Pair) (b : Bool) → passes s told pair ≡ b → (if b then edges_between s edge pair (found_sources told edge pair) (found_targets told pair) else []) ≡ edges_at s told edge pair
unfolding edges_at
edges_where s told edge pair b is = ap (λ c. if c then edges_between s edge pair (found_sources told edge pair) (found_targets told pair) else []) (sym is)
