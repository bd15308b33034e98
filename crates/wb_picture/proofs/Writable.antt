-- A picture can be written, with the names of the viewpoint's mappings.
use Rattle.std.proofs.Common.{◌≡◌, ◌-◌, ◌<◌, ℕ, Bool, refl, List, [], ◌∷◌, ◌++◌, length, map, Some, sym, ap, subst, arith, drop}
use Rattle.std.specs.Prelude.{All, option_map}
use Rattle.std.specs.List.{filter}
use Rattle.std.proofs.lemmas.List.{length-map}
use Rattle.std.proofs.lemmas.List.Elements.{All-cons, All-filter, All-head, All-map, All-nil, All-tail, All-weaker}
use Rattle.std.proofs.lemmas.Option.{slice_get-get_or}
use Rattle.wb_diagram.specs.Diagrams.{IsWritableDiagram, IsWritableEdge, IsWritableElement}
use Rattle.wb_diagram.specs.Keys.{IsPath, JoinsPaths, own_pair}
use Rattle.wb_diagram.specs.Units.{NamesPaths}
use Rattle.wb_diagram.specs.declared.diagrams.Edge.{Edge}
use Rattle.wb_diagram.specs.declared.diagrams.Element.{Element}
use Rattle.wb_diagram.specs.declared.diagrams.Problem.{Problem}
use Rattle.wb_diagram.specs.declared.keys.AnyKey.{AnyKey}
use Rattle.wb_diagram.specs.declared.keys.AnyKey.TheVariants.{Node as NodeKey, Edge as EdgeKeyOf}
use Rattle.wb_diagram.specs.declared.keys.EdgeKey.{EdgeKey}
use Rattle.wb_diagram.specs.declared.keys.Key.{Key}
use Rattle.wb_diagram.specs.declared.keys.Pair.{Pair}
use Rattle.wb_viewpoint.specs.declared.mappings.Mapping.{Mapping}
use Rattle.wb_spec_check.specs.Checked.{IsGood, Specification}
use Rattle.wb_spec_check.specs.Units.{mapping_of_key}
use Rattle.wb_looks.specs.Looks.{HasMapping}
use Rattle.wb_looks.specs.Visible.{is_visible}
use Rattle.wb_looks.proofs.OwnMapping.{in_text}
use Rattle.wb_picture.specs.Picture.{Declarations, Scene, all_keys, edge, element, mapping_names, picture}
use Rattle.wb_picture.specs.Views.{CanBeWritten}
use Rattle.wb_picture.specs.declared.views.Declared.{Declared}
use Rattle.wb_picture.specs.declared.views.View.{View}
use Rattle.wb_picture.specs.invariants.Drawn.{diagram_with, edge_with, element_with}
use Rattle.wb_picture.proofs.Rows.{all_drawn}

-- ---- keys

abbrev NodeFits : Specification → Key → Type 0
NodeFits spec key = IsPath key × HasMapping spec (NodeKey key)

abbrev EdgeFits : Specification → EdgeKey → Type 0
EdgeFits spec key = JoinsPaths key × HasMapping spec (EdgeKeyOf key)

own_mapping : (key : Key) → IsPath key → mapping_of_key (NodeKey key) ≡ Some (own_pair key).mapping
unfolding own_pair
own_mapping key path =
    let some = path.not_empty in
    ap (option_map (λ (pair : Pair). pair.mapping)) (slice_get-get_or key.pairs (length key.pairs - 1) (record { mapping = 0; object = 0 }) (omega (arith, some)))

module _ (spec : Specification) (good : IsGood spec) where
  is_named : (key : AnyKey) (n : ℕ) → HasMapping spec key → mapping_of_key key ≡ Some n → n < length (mapping_names spec.0)
  is_named key n has is = subst (λ (count : ℕ). n < count) (sym (length-map spec.0.mappings (λ (it : Mapping). it.name))) (in_text spec key n good has is)

  element_is_writable : (e : Element) → NodeFits spec e.key → IsWritableElement (mapping_names spec.0) e
  element_is_writable e fits = record { path = fits.0; named = is_named (NodeKey e.key) (own_pair e.key).mapping fits.1 (own_mapping e.key fits.0) }

  edge_is_writable : (e : Edge) → EdgeFits spec e.key → IsWritableEdge (mapping_names spec.0) e
  edge_is_writable e fits = record { paths = fits.0; named = is_named (EdgeKeyOf e.key) e.key.mapping fits.1 refl }

-- ---- what holds of all keys holds of those of elements, and of those of edges

first_of : {A X : Type 0} (P : X → Type 0) (key_of : A → X) (keys : List A) (rest : List X) → All P (map key_of keys ++ rest) → All (λ key. P (key_of key)) keys
first_of P key_of [] rest all = All-nil (λ key. P (key_of key))
first_of P key_of (key ∷ keys) rest all =
    All-cons (λ it. P (key_of it)) key keys (All-head P (key_of key) (map key_of keys ++ rest) all) (first_of P key_of keys rest (All-tail P (key_of key) (map key_of keys ++ rest) all))

rest_of : {A X : Type 0} (P : X → Type 0) (key_of : A → X) (keys : List A) (rest : List X) → All P (map key_of keys ++ rest) → All P rest
rest_of P key_of [] rest all = all
rest_of P key_of (key ∷ keys) rest all = rest_of P key_of keys rest (All-tail P (key_of key) (map key_of keys ++ rest) all)

mapped_to : {A X : Type 0} (P : X → Type 0) (key_of : A → X) (keys : List A) → All P (map key_of keys) → All (λ key. P (key_of key)) keys
mapped_to P key_of [] all = All-nil (λ key. P (key_of key))
mapped_to P key_of (key ∷ keys) all = All-cons (λ it. P (key_of it)) key keys (All-head P (key_of key) (map key_of keys) all) (mapped_to P key_of keys (All-tail P (key_of key) (map key_of keys) all))

both : {A : Type 0} (P Q : A → Type 0) (xs : List A) → All P xs → All Q xs → All (λ x. P x × Q x) xs
both P Q xs ps qs = λ k d within. (ps k d within, qs k d within)

nodes_fit : (spec : Specification) (nodes : List Key) (edges : List EdgeKey) → All IsPath nodes → All (HasMapping spec) (all_keys nodes edges) → All (NodeFits spec) nodes
nodes_fit spec nodes edges paths all = both IsPath (λ (key : Key). HasMapping spec (NodeKey key)) nodes paths (first_of (HasMapping spec) NodeKey nodes (map EdgeKeyOf edges) all)

edges_fit : (spec : Specification) (nodes : List Key) (edges : List EdgeKey) → All JoinsPaths edges → All (HasMapping spec) (all_keys nodes edges) → All (EdgeFits spec) edges
edges_fit spec nodes edges paths all =
    both JoinsPaths (λ (key : EdgeKey). HasMapping spec (EdgeKeyOf key)) edges paths (mapped_to (HasMapping spec) EdgeKeyOf edges (rest_of (HasMapping spec) NodeKey nodes (map EdgeKeyOf edges) all))

-- ---- the law

pub picture_is_writable : (s : Scene) (declared : Declarations) (revision : ℕ) → IsGood s.spec → All IsPath declared.nodes → All JoinsPaths declared.edges → All (HasMapping s.spec) (all_keys declared.nodes declared.edges)
    → All (λ (problem : Problem). NamesPaths problem.at) declared.problems → IsWritableDiagram (mapping_names s.spec.0) (picture s declared revision)
unfolding picture
picture_is_writable s declared revision good nodes edges mappings problems = record {
  elements =
      All-map (IsWritableElement (mapping_names s.spec.0)) (element s) (filter (λ (key : Key). is_visible s.spec s.told s.switches (NodeKey key)) declared.nodes)
      (All-filter (λ (key : Key). is_visible s.spec s.told s.switches (NodeKey key)) (λ (key : Key). IsWritableElement (mapping_names s.spec.0) (element s key)) declared.nodes
      (All-weaker (NodeFits s.spec) (λ (key : Key). IsWritableElement (mapping_names s.spec.0) (element s key)) (λ key fits. element_is_writable s.spec good (element s key) fits) declared.nodes
      (nodes_fit s.spec declared.nodes declared.edges nodes mappings)));
  edges =
      All-map (IsWritableEdge (mapping_names s.spec.0)) (edge s) (filter (λ (key : EdgeKey). is_visible s.spec s.told s.switches (EdgeKeyOf key)) declared.edges)
      (All-filter (λ (key : EdgeKey). is_visible s.spec s.told s.switches (EdgeKeyOf key)) (λ (key : EdgeKey). IsWritableEdge (mapping_names s.spec.0) (edge s key)) declared.edges
      (All-weaker (EdgeFits s.spec) (λ (key : EdgeKey). IsWritableEdge (mapping_names s.spec.0) (edge s key)) (λ key fits. edge_is_writable s.spec good (edge s key) fits) declared.edges
      (edges_fit s.spec declared.nodes declared.edges edges mappings)));
  problems = problems;
}

-- ---- the same of what is drawn, whatever the flags

pub drawn_is_writable : (spec : Specification) (declared : Declared) (view : View) (flags : List Bool) → IsGood spec → CanBeWritten spec declared → IsWritableDiagram (mapping_names spec.0) (diagram_with spec.0 declared view flags)
unfolding diagram_with
drawn_is_writable spec declared view flags good can = record {
  elements =
      all_drawn (element_with view.layout.now) (IsWritableElement (mapping_names spec.0)) (NodeFits spec) (λ key look fits. element_is_writable spec good (element_with view.layout.now key look) fits)
      declared.nodes.now declared.looks.now flags (nodes_fit spec declared.nodes.now declared.edges.now can.nodes can.mappings);
  edges =
      all_drawn edge_with (IsWritableEdge (mapping_names spec.0)) (EdgeFits spec) (λ key look fits. edge_is_writable spec good (edge_with key look) fits)
      declared.edges.now (drop (length declared.nodes.now) declared.looks.now) (drop (length declared.nodes.now) flags) (edges_fit spec declared.nodes.now declared.edges.now can.edges can.mappings);
  problems = can.problems;
}
