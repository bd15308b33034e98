-- What a text is as a viewpoint: what it says, or the first code with the place of the first wrong spot.
use Rattle.std.specs.Prelude.{ℕ, if◌then◌else◌, List, [], ◌∷◌, Result, Ok, Err, codes}
use Rattle.serde_json.specs.Data.{Data}
use Rattle.wb_json.specs.Place.{Place}
use Rattle.wb_json.specs.Form.{◌>>=◌, or_wrong, name_of, list_of, listed, needed, list_or_empty}
use Rattle.wb_json.specs.Json.{json_of}
use Rattle.wb_json.specs.Refusals.{coded}
use Rattle.wb_viewpoint.specs.Forms.{layers_of, mapping_of, filter_of}
use Rattle.wb_viewpoint.specs.Limits.{is_small}
use Rattle.wb_viewpoint.specs.OperationForms.{tool_of}
use Rattle.wb_viewpoint.specs.declared.content.Content.{Content}
use Rattle.wb_viewpoint.specs.declared.diagrams.Diagram.{Diagram}
use Rattle.wb_viewpoint.specs.declared.diagrams.Frame.{Frame}
use Rattle.wb_viewpoint.specs.declared.refusal.ViewpointCode.{ViewpointCode}
use Rattle.wb_viewpoint.specs.declared.refusal.ViewpointCode.TheVariants.{BadJson, BadShape, TooMany}

-- the first members of a diagram
abbrev pub frame_of : Data → Result Frame Place
frame_of d = do
  name ← needed (codes "name") name_of d
  domain ← needed (codes "domain") name_of d
  layers ← needed (codes "layers") layers_of d
  Ok (record { name = name; domain = domain; layers = layers })

unfoldable pub diagram_of : Data → Result Diagram Place
diagram_of d = do
  _ ← listed (codes "name" ∷ codes "domain" ∷ codes "layers" ∷ codes "top" ∷ codes "mappings" ∷ codes "filters" ∷ codes "tools" ∷ []) d
  frame ← frame_of d
  top ← needed (codes "top") (list_of name_of) d
  mappings ← needed (codes "mappings") (list_of mapping_of) d
  filters ← list_or_empty (codes "filters") filter_of d
  tools ← list_or_empty (codes "tools") tool_of d
  Ok (record { frame = frame; top = top; mappings = mappings; filters = filters; tools = tools })

-- a viewpoint with one diagram
abbrev pub content_with : List ℕ → Diagram → Content
content_with name diagram = record {
  viewpoint_name = name;
  diagram_name = diagram.frame.name;
  domain = diagram.frame.domain;
  layers = diagram.frame.layers;
  top = diagram.top;
  mappings = diagram.mappings;
  filters = diagram.filters;
  tools = diagram.tools;
}

unfoldable pub content_of : Data → Result Content Place
content_of d = do
  _ ← listed (codes "viewpoint" ∷ codes "diagram" ∷ []) d
  name ← needed (codes "viewpoint") name_of d
  diagram ← needed (codes "diagram") diagram_of d
  Ok (content_with name diagram)

unfoldable pub read_text : List ℕ → Result Content (ViewpointCode × Place)
read_text bytes = do
  d ← coded BadJson (or_wrong (json_of bytes))
  coded BadShape (content_of d)

unfoldable pub limited : Content → Result Content (ViewpointCode × Place)
limited content = coded TooMany (if is_small content then Ok content else Err [])

unfoldable pub viewpoint : List ℕ → Result Content (ViewpointCode × Place)
viewpoint bytes = do
  content ← read_text bytes
  limited content
