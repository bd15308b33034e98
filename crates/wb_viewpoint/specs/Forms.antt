-- The forms of the parts of a viewpoint's text. Each visits an object, and then its members in their order.
use Rattle.std.specs.Prelude.{ℕ, nat_le, true, false, if◌then◌else◌, List, [], ◌∷◌, length, Some, None, unwrap_or, Result, Ok, Err, codes}
use Rattle.serde_json.specs.Data.{Data}
use Rattle.wb_json.specs.Place.{Place}
use Rattle.wb_json.specs.Form.{◌>>=◌, bool_of, text_of, name_of, word_of, list_of, listed, needed, optional, list_or_empty}
use Rattle.wb_viewpoint.specs.declared.edges.Ends.{Ends}
use Rattle.wb_viewpoint.specs.declared.filters.Filter.{Filter}
use Rattle.wb_viewpoint.specs.declared.layers.Layer.{Layer}
use Rattle.wb_viewpoint.specs.declared.mappings.Mapping.{Mapping}
use Rattle.wb_viewpoint.specs.declared.mappings.MappingForm.TheVariants.{Node as NodeForm, Edge as EdgeForm}
use Rattle.wb_viewpoint.specs.declared.mapping_kinds.MappingKind.{MappingKind}
use Rattle.wb_viewpoint.specs.declared.mapping_kinds.MappingKind.TheVariants as kind
use Rattle.wb_viewpoint.specs.declared.nodes.NodeKind.{NodeKind}
use Rattle.wb_viewpoint.specs.declared.nodes.NodeKind.TheVariants as node
use Rattle.wb_viewpoint.specs.declared.objects.Objects.{Objects}
use Rattle.wb_viewpoint.specs.declared.groups.Shown.{Shown}
use Rattle.wb_viewpoint.specs.declared.groups.Nested.{Nested}
use Rattle.wb_viewpoint.specs.declared.groups.Named.{Named}
use Rattle.wb_viewpoint.specs.declared.groups.Finders.{Finders}
use Rattle.wb_viewpoint.specs.declared.styles.ConditionalStyle.{ConditionalStyle}
use Rattle.wb_viewpoint.specs.declared.styles.Looks.{Looks}
use Rattle.wb_viewpoint.specs.declared.styles.Style.{Style}

abbrev pub short_text : List ℕ → Result (List ℕ) Place
short_text text = if nat_le (length text) 4096 then Ok text else Err []

-- a string of at most 4,096 bytes, its prefix included
unfoldable pub expression_of : Data → Result (List ℕ) Place
expression_of d = text_of d >>= short_text

-- ---- looks

unfoldable pub style_of : Data → Result Style Place
style_of d = do
  _ ← listed (codes "shape" ∷ codes "color" ∷ codes "label" ∷ []) d
  shape ← needed (codes "shape") name_of d
  color ← needed (codes "color") name_of d
  label ← optional (codes "label") expression_of d
  Ok (record { shape = shape; color = color; label = label })

unfoldable pub conditional_style_of : Data → Result ConditionalStyle Place
conditional_style_of d = do
  _ ← listed (codes "when" ∷ codes "style" ∷ []) d
  when ← needed (codes "when") expression_of d
  style ← needed (codes "style") style_of d
  Ok (record { when = when; style = style })

-- ---- members that several kinds of mappings have

abbrev pub looks_of : Data → Result Looks Place
looks_of d = do
  style ← needed (codes "style") style_of d
  styles ← list_or_empty (codes "styles") conditional_style_of d
  Ok (record { style = style; styles = styles })

abbrev pub objects_of : Data → Result Objects Place
objects_of d = do
  domain ← needed (codes "domain") name_of d
  candidates ← optional (codes "candidates") expression_of d
  Ok (record { domain = domain; candidates = candidates })

-- a mapping's first members, where it is for objects
abbrev pub named_of : List (List ℕ) → Data → Result Named Place
named_of members d = do
  _ ← listed members d
  name ← needed (codes "name") name_of d
  objects ← objects_of d
  Ok (record { name = name; objects = objects })

-- an edge mapping lists no `synchronised`
abbrev pub shown_of : Data → Result Shown Place
shown_of d = do
  precondition ← optional (codes "precondition") expression_of d
  synchronised ← optional (codes "synchronised") bool_of d
  layer ← optional (codes "layer") name_of d
  Ok (record { precondition = precondition; synchronised = unwrap_or synchronised true; layer = layer })

abbrev pub nested_of : Data → Result Nested Place
nested_of d = do
  children ← list_or_empty (codes "children") name_of d
  borders ← list_or_empty (codes "borders") name_of d
  Ok (record { children = children; borders = borders })

abbrev pub ends_of : Data → Result Ends Place
ends_of d = do
  sources ← needed (codes "sources") (list_of name_of) d
  targets ← needed (codes "targets") (list_of name_of) d
  Ok (record { sources = sources; targets = targets })

abbrev pub finders_of : Data → Result Finders Place
finders_of d = do
  ends ← ends_of d
  source_finder ← needed (codes "sourceFinder") expression_of d
  target_finder ← needed (codes "targetFinder") expression_of d
  Ok (record { ends = ends; source_finder = source_finder; target_finder = target_finder })

-- ---- mappings

-- the words for the kinds of mappings
abbrev pub mapping_kinds : List (List ℕ × MappingKind)
mapping_kinds =
    (codes "node", kind.Node node.Node) ∷ (codes "container", kind.Node node.Container) ∷ (codes "list", kind.Node node.List) ∷ (codes "border", kind.Node node.Border)
    ∷ (codes "edge", kind.Edge) ∷ (codes "object-edge", kind.ObjectEdge) ∷ []

abbrev pub mapping_kind_of : Data → Result MappingKind Place
mapping_kind_of d = word_of mapping_kinds d

-- the members of each kind of mapping
abbrev pub node_members : List (List ℕ)
node_members =
    codes "name" ∷ codes "kind" ∷ codes "domain" ∷ codes "candidates" ∷ codes "precondition" ∷ codes "synchronised" ∷ codes "layer"
    ∷ codes "children" ∷ codes "borders" ∷ codes "style" ∷ codes "styles" ∷ []

abbrev pub edge_members : List (List ℕ)
edge_members =
    codes "name" ∷ codes "kind" ∷ codes "precondition" ∷ codes "layer" ∷ codes "sources" ∷ codes "targets" ∷ codes "targetFinder"
    ∷ codes "style" ∷ codes "styles" ∷ []

abbrev pub object_edge_members : List (List ℕ)
object_edge_members =
    codes "name" ∷ codes "kind" ∷ codes "domain" ∷ codes "candidates" ∷ codes "precondition" ∷ codes "layer" ∷ codes "sources" ∷ codes "targets"
    ∷ codes "sourceFinder" ∷ codes "targetFinder" ∷ codes "style" ∷ codes "styles" ∷ []

unfoldable pub node_of : NodeKind → Data → Result Mapping Place
node_of kind d = do
  named ← named_of node_members d
  shown ← shown_of d
  nested ← nested_of d
  looks ← looks_of d
  Ok (record {
    name = named.name;
    form = NodeForm (record { kind = kind; objects = named.objects; synchronised = shown.synchronised; children = nested.children; borders = nested.borders });
    precondition = shown.precondition;
    layer = shown.layer;
    looks = looks;
  })

unfoldable pub edge_of : Data → Result Mapping Place
edge_of d = do
  _ ← listed edge_members d
  name ← needed (codes "name") name_of d
  shown ← shown_of d
  ends ← ends_of d
  target_finder ← needed (codes "targetFinder") expression_of d
  looks ← looks_of d
  Ok (record {
    name = name;
    form = EdgeForm (record { object_edge = None; ends = ends; target_finder = target_finder });
    precondition = shown.precondition;
    layer = shown.layer;
    looks = looks;
  })

unfoldable pub object_edge_of : Data → Result Mapping Place
object_edge_of d = do
  named ← named_of object_edge_members d
  shown ← shown_of d
  finders ← finders_of d
  looks ← looks_of d
  Ok (record {
    name = named.name;
    form = EdgeForm (record { object_edge = Some (record { objects = named.objects; source_finder = finders.source_finder }); ends = finders.ends; target_finder = finders.target_finder });
    precondition = shown.precondition;
    layer = shown.layer;
    looks = looks;
  })

abbrev pub mapping_with : MappingKind → Data → Result Mapping Place
mapping_with (kind.Node k) d = node_of k d
mapping_with kind.Edge d = edge_of d
mapping_with kind.ObjectEdge d = object_edge_of d

-- the kind chooses the form
unfoldable pub mapping_of : Data → Result Mapping Place
mapping_of d = needed (codes "kind") mapping_kind_of d >>= (λ k. mapping_with k d)

-- ---- layers and filters

unfoldable pub layer_of : Data → Result Layer Place
layer_of d = do
  _ ← listed (codes "name" ∷ codes "active" ∷ []) d
  name ← needed (codes "name") name_of d
  active ← optional (codes "active") bool_of d
  Ok (record { name = name; active = unwrap_or active false })

abbrev pub some_layers : List Layer → Result (List Layer) Place
some_layers [] = Err []
some_layers (layer ∷ layers) = Ok (layer ∷ layers)

-- a list with at least one layer
unfoldable pub layers_of : Data → Result (List Layer) Place
layers_of d = list_of layer_of d >>= some_layers

unfoldable pub filter_of : Data → Result Filter Place
filter_of d = do
  _ ← listed (codes "name" ∷ codes "mappings" ∷ codes "hides" ∷ []) d
  name ← needed (codes "name") name_of d
  mappings ← needed (codes "mappings") (list_of name_of) d
  hides ← needed (codes "hides") expression_of d
  Ok (record { name = name; mappings = mappings; hides = hides })
