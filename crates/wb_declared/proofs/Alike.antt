-- Subjects with the same elements, edges, units and outcomes have diagrams of one size.
use Rattle.std.proofs.Common.{◌≡◌, ◌+◌, ◌++◌, ◌||◌, length, map}
use Rattle.std.specs.Prelude.{nat_lt}
use Rattle.wb_diagram.specs.declared.units.Unit.{Unit as Place}
use Rattle.wb_answers.specs.Seen.{Told}
use Rattle.wb_nodes.specs.Nodes.{Scene, node_units, nodes}
use Rattle.wb_refresh.specs.Diagrams.{all_keys, edge_units_of, edges_of, units_at, units_of}
use Rattle.wb_refresh.specs.Openings.{all_units}
use Rattle.wb_refresh.specs.Outcomes.{Gives, outcome}
use Rattle.wb_refresh.specs.Subjects.{Subject}
use Rattle.wb_refresh.specs.Weights.{is_over}
use Rattle.wb_declared.specs.Declarations.{DeclaresAlike, declared_edges, declared_nodes}

pub units_alike : (a b : Scene) (told : Told) → a.spec ≡ b.spec → node_units a told ≡ node_units b told → edge_units_of a told ≡ edge_units_of b told → nodes a told ≡ nodes b told → edges_of a told ≡ edges_of b told → units_of a told ≡ units_of b told
unfolding units_of
units_alike a b told spec of_nodes of_edges same_nodes same_edges = λ i. of_nodes i ++ (of_edges i ++ units_at (spec i) told (all_keys (same_nodes i) (same_edges i)))

pub alike_parts : (gives : Gives) (a b : Subject) → declared_nodes gives b ≡ declared_nodes gives a → declared_edges gives b ≡ declared_edges gives a → all_units gives b ≡ all_units gives a → outcome gives b.setting ≡ outcome gives a.setting → DeclaresAlike gives a b
alike_parts gives a b same_nodes same_edges same_units same_outcomes = record {
  nodes = same_nodes;
  edges = same_edges;
  too_large = λ i. is_over (map (λ (unit : Place). record { unit = unit; outcome = same_outcomes i unit }) (same_units i)) || nat_lt 100000 (length (same_nodes i) + length (same_edges i));
}
