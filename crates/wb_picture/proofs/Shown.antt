-- What is drawn with the looks and flags that are told is the picture.
use Rattle.std.proofs.Common.{◌≡◌, Bool, List, [], ◌++◌, length, drop, map, sym, ap, ◌∙◌, append-nil}
use Rattle.wb_metamodel.specs.Metamodel.{Metamodel}
use Rattle.wb_diagram.specs.declared.diagrams.Diagram.{Diagram}
use Rattle.wb_diagram.specs.declared.diagrams.Edge.{Edge}
use Rattle.wb_diagram.specs.declared.diagrams.Element.{Element}
use Rattle.wb_diagram.specs.declared.diagrams.Look.{Look}
use Rattle.wb_diagram.specs.declared.keys.AnyKey.{AnyKey}
use Rattle.wb_diagram.specs.declared.keys.AnyKey.TheVariants.{Node as NodeKey, Edge as EdgeKeyOf}
use Rattle.wb_spec_check.specs.Checked.{Specification}
use Rattle.wb_answers.specs.Seen.{Told}
use Rattle.wb_looks.specs.Looks.{look}
use Rattle.wb_looks.specs.Visible.{is_visible, switches_of}
use Rattle.wb_picture.specs.Picture.{active_filters, active_layers, picture, visible_edges, visible_elements}
use Rattle.wb_picture.specs.Views.{AreTold, declarations_of, keys_of, scene_of}
use Rattle.wb_picture.specs.declared.views.Declared.{Declared}
use Rattle.wb_picture.specs.declared.views.View.{View}
use Rattle.wb_picture.specs.invariants.Drawn.{diagram_with, drawn, edge_with, element_with}
use Rattle.wb_picture.proofs.Rows.{are_behind, are_shown}

module _ (spec : Specification) (mm : Metamodel) (told : Told) (declared : Declared) (view : View) (flags : List Bool) (are : AreTold spec mm told declared) (seen : flags ≡ map (is_visible spec told (switches_of view.switches)) (keys_of declared)) where
  abbrev look_of : AnyKey → Look
  look_of = look spec mm told

  abbrev is_seen : AnyKey → Bool
  is_seen = is_visible spec told (switches_of view.switches)

  abbrev edge_keys : List AnyKey
  edge_keys = map EdgeKeyOf declared.edges.now

  elements_drawn : drawn (element_with view.layout.now) declared.nodes.now declared.looks.now flags ≡ visible_elements (scene_of spec mm told view) declared.nodes.now
  elements_drawn =
      ap (λ (looks : List Look). drawn (element_with view.layout.now) declared.nodes.now looks flags) are.looks
      ∙ (ap (λ (bs : List Bool). drawn (element_with view.layout.now) declared.nodes.now (map look_of (keys_of declared)) bs) seen
      ∙ are_shown (element_with view.layout.now) NodeKey look_of is_seen declared.nodes.now edge_keys)

  looks_behind : drop (length declared.nodes.now) declared.looks.now ≡ map look_of (edge_keys ++ [])
  looks_behind = ap (drop (length declared.nodes.now)) are.looks ∙ (are_behind look_of NodeKey declared.nodes.now edge_keys ∙ ap (map look_of) (sym (append-nil edge_keys)))

  flags_behind : drop (length declared.nodes.now) flags ≡ map is_seen (edge_keys ++ [])
  flags_behind = ap (drop (length declared.nodes.now)) seen ∙ (are_behind is_seen NodeKey declared.nodes.now edge_keys ∙ ap (map is_seen) (sym (append-nil edge_keys)))

  edges_drawn : drawn edge_with declared.edges.now (drop (length declared.nodes.now) declared.looks.now) (drop (length declared.nodes.now) flags) ≡ visible_edges (scene_of spec mm told view) declared.edges.now
  edges_drawn =
      ap (λ (looks : List Look). drawn edge_with declared.edges.now looks (drop (length declared.nodes.now) flags)) looks_behind
      ∙ (ap (λ (bs : List Bool). drawn edge_with declared.edges.now (map look_of (edge_keys ++ [])) bs) flags_behind
      ∙ are_shown edge_with EdgeKeyOf look_of is_seen declared.edges.now [])

  abbrev with_parts : List Element → List Edge → Diagram
  with_parts elements edges = record {
    elements = elements;
    edges = edges;
    filters = active_filters view.switches.filters.now spec.0;
    layers = active_layers view.switches.layers.now spec.0;
    problems = declared.problems.now;
    revision = view.revision;
  }

  pub is_picture : diagram_with spec.0 declared view flags ≡ picture (scene_of spec mm told view) (declarations_of declared) view.revision
  unfolding diagram_with picture
  is_picture =
      ap (λ (elements : List Element). with_parts elements (drawn edge_with declared.edges.now (drop (length declared.nodes.now) declared.looks.now) (drop (length declared.nodes.now) flags))) elements_drawn
      ∙ ap (with_parts (visible_elements (scene_of spec mm told view) declared.nodes.now)) edges_drawn
