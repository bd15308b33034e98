-- What is needed of what is kept of a diagram, so that it can be shown.
use Rattle.std.specs.Prelude.{All}
use Rattle.wb_diagram.specs.Keys.{IsPath, JoinsPaths}
use Rattle.wb_diagram.specs.Units.{NamesPaths}
use Rattle.wb_diagram.specs.declared.diagrams.Problem.{Problem}
use Rattle.wb_spec_check.specs.Checked.{Specification}
use Rattle.wb_looks.specs.Looks.{HasMapping}
use Rattle.wb_looks.specs.Visible.{HasGround}
use Rattle.wb_picture.specs.Picture.{all_keys}
use Rattle.wb_refresh.specs.Openings.{Kept}

-- keys and units name paths, under mappings of the viewpoint, and what each key stands on is declared too
pub record CanBeShown (spec : Specification) (kept : Kept) : Type 0 where
  pub nodes : All IsPath kept.nodes
  pub edges : All JoinsPaths kept.edges
  pub mappings : All (HasMapping spec) (all_keys kept.nodes kept.edges)
  pub grounded : All (HasGround (all_keys kept.nodes kept.edges)) (all_keys kept.nodes kept.edges)
  pub problems : All (λ (problem : Problem). NamesPaths problem.at) kept.problems
