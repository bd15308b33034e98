-- What is declared of a subject.
use Rattle.std.specs.Prelude.{◌≡◌, ℕ, List}
use Rattle.wb_store.specs.Contents.{with_next}
use Rattle.wb_diagram.specs.declared.keys.EdgeKey.{EdgeKey}
use Rattle.wb_diagram.specs.declared.keys.Key.{Key}
use Rattle.wb_nodes.specs.Nodes.{nodes}
use Rattle.wb_refresh.specs.Diagrams.{edges_of}
use Rattle.wb_refresh.specs.Openings.{is_too_large}
use Rattle.wb_refresh.specs.Outcomes.{Gives, told}
use Rattle.wb_refresh.specs.Subjects.{Subject, scene, subject}

-- the keys of its elements, parents before their children
abbrev pub declared_nodes : Gives → Subject → List Key
declared_nodes gives s = nodes (scene s) (told gives s.setting)

-- the keys of its edges
abbrev pub declared_edges : Gives → Subject → List EdgeKey
declared_edges gives s = edges_of (scene s) (told gives s.setting)

-- the same, where the next object of the model gets another number
abbrev pub renumbered : ℕ → Subject → Subject
renumbered next s = subject s.setting.spec (with_next next s.setting.model) s.setting.root s.shown

-- the same is declared of the second as of the first, and it is too large where the first is
pub record DeclaresAlike (gives : Gives) (a b : Subject) : Type 0 where
  pub nodes : declared_nodes gives b ≡ declared_nodes gives a
  pub edges : declared_edges gives b ≡ declared_edges gives a
  pub too_large : is_too_large gives b ≡ is_too_large gives a
