-- What is true of the keys and units of a diagram.
use Rattle.std.proofs.Common.{List, [], ◌∷◌, ◌++◌, map}
use Rattle.std.specs.Prelude.{All, flat_map}
use Rattle.std.proofs.lemmas.List.Elements.{All-append, All-head, All-map, All-nil, All-tail}
use Rattle.wb_diagram.specs.declared.keys.AnyKey.{AnyKey}
use Rattle.wb_diagram.specs.declared.keys.AnyKey.TheVariants.{Node, Edge}
use Rattle.wb_diagram.specs.declared.units.Unit.{Unit as Place}
use Rattle.wb_spec_check.specs.Checked.{IsGood}
use Rattle.wb_answers.specs.Seen.{Told}
use Rattle.wb_nodes.specs.Nodes.{Scene, node_units, nodes}
use Rattle.wb_nodes.proofs.NodeLaws.{node_units_are_expressed, nodes_have_mappings}
use Rattle.wb_edges.specs.Edges.{scene_of as among}
use Rattle.wb_edges.proofs.EdgeLaws.{edges_have_mappings, units_have_expressions as edge_units_expressed}
use Rattle.wb_looks.specs.Filters.{filter_units}
use Rattle.wb_looks.specs.Looks.{HasExpression, HasMapping, look_units}
use Rattle.wb_looks.proofs.UnitLaws.{filter_units_expressed, look_units_expressed}
use Rattle.wb_refresh.specs.Diagrams.{edge_units_of, edges_of, keys_of, units_at, units_of}

all_flat : {X Y : Type 0} (P : Y → Type 0) (Q : X → Type 0) (f : X → List Y) (xs : List X) → ((x : X) → Q x → All P (f x)) → All Q xs → All P (flat_map f xs)
all_flat P Q f [] each all = All-nil P
all_flat P Q f (x ∷ xs) each all = All-append P (f x) (flat_map f xs) (each x (All-head Q x xs all)) (all_flat P Q f xs each (All-tail Q x xs all))

module _ (s : Scene) (told : Told) where
  -- the mapping of each key is one of the viewpoint's
  pub keys_have_mappings : All (HasMapping s.spec) (keys_of s told)
  keys_have_mappings =
      All-append (HasMapping s.spec) (map Node (nodes s told)) (map Edge (edges_of s told))
      (All-map (HasMapping s.spec) Node (nodes s told) (nodes_have_mappings s told))
      (All-map (HasMapping s.spec) Edge (edges_of s told) (edges_have_mappings (among s.spec s.model (nodes s told)) told))

  -- what is true of the units of each part is true of all
  of_parts : (P : Place → Type 0) → All P (node_units s told) → All P (edge_units_of s told) → All P (flat_map (look_units s.spec told) (keys_of s told)) → All P (filter_units s.spec (keys_of s told)) → All P (units_of s told)
  unfolding units_of
  of_parts P of_nodes of_edges of_looks of_filters =
      All-append P (node_units s told) (edge_units_of s told ++ units_at s.spec told (keys_of s told)) of_nodes
      (All-append P (edge_units_of s told) (units_at s.spec told (keys_of s told)) of_edges
      (All-append P (flat_map (look_units s.spec told) (keys_of s told)) (filter_units s.spec (keys_of s told)) of_looks of_filters))

  -- the viewpoint has an expression for each unit
  pub units_have_expressions : IsGood s.spec → All (HasExpression s.spec) (units_of s told)
  units_have_expressions good =
      of_parts (HasExpression s.spec) (node_units_are_expressed s told) (edge_units_expressed (among s.spec s.model (nodes s told)) told)
      (all_flat (HasExpression s.spec) (HasMapping s.spec) (look_units s.spec told) (keys_of s told) (λ key has. look_units_expressed s.spec key good has told) keys_have_mappings)
      (filter_units_expressed s.spec (keys_of s told))
