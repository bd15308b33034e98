-- What is lent to a picture, as the definitions see it.
use Rattle.std.specs.Prelude.{◌≡◌, All, List, map}
use Rattle.wb_metamodel.specs.Metamodel.{Metamodel}
use Rattle.wb_diagram.specs.Keys.{IsPath, JoinsPaths}
use Rattle.wb_diagram.specs.Units.{NamesPaths}
use Rattle.wb_diagram.specs.declared.diagrams.Problem.{Problem}
use Rattle.wb_diagram.specs.declared.keys.AnyKey.{AnyKey}
use Rattle.wb_spec_check.specs.Checked.{Specification}
use Rattle.wb_answers.specs.Seen.{Told}
use Rattle.wb_looks.specs.Filters.{filtered}
use Rattle.wb_looks.specs.Looks.{HasMapping, look}
use Rattle.wb_looks.specs.Visible.{HasGround, switches_of}
use Rattle.wb_picture.specs.Picture.{Declarations, Scene, all_keys}
use Rattle.wb_picture.specs.declared.views.Declared.{Declared}
use Rattle.wb_picture.specs.declared.views.View.{View}

abbrev pub keys_of : Declared → List AnyKey
keys_of declared = all_keys declared.nodes.now declared.edges.now

abbrev pub declarations_of : Declared → Declarations
declarations_of declared = record { nodes = declared.nodes.now; edges = declared.edges.now; problems = declared.problems.now }

abbrev pub scene_of : Specification → Metamodel → Told → View → Scene
scene_of spec mm told view = record { spec = spec; metamodel = mm; told = told; switches = switches_of view.switches; placed = view.layout.now }

-- the looks are those of the keys, and the flags say what each filter hides
pub record AreTold (spec : Specification) (mm : Metamodel) (told : Told) (declared : Declared) : Type 0 where
  pub looks : declared.looks.now ≡ map (look spec mm told) (keys_of declared)
  pub filtered : declared.filtered.now ≡ filtered spec told (keys_of declared)

-- what each key stands on is declared too
abbrev pub AreGrounded : Declared → Type 0
AreGrounded declared = All (HasGround (keys_of declared)) (keys_of declared)

-- keys and units name paths, under mappings of the viewpoint
pub record CanBeWritten (spec : Specification) (declared : Declared) : Type 0 where
  pub nodes : All IsPath declared.nodes.now
  pub edges : All JoinsPaths declared.edges.now
  pub mappings : All (HasMapping spec) (keys_of declared)
  pub problems : All (λ (problem : Problem). NamesPaths problem.at) declared.problems.now
