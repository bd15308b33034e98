-- What elements are declared over, as the definitions see it.
use Rattle.std.specs.Prelude.{◌<◌, List, [], ◌∷◌, length, if◌then◌else◌, ℕ}
use Rattle.wb_diagram.specs.declared.keys.Key.{Key}
use Rattle.wb_spec_check.specs.Checked.{IsCheckedBy}
use Rattle.wb_spec_check.specs.declared.checked_mappings.CheckedNode.{CheckedNode}
use Rattle.wb_answers.specs.Seen.{Told}
use Rattle.wb_nodes.specs.Nodes.{Scene, is_declared, scene_of}
use Rattle.wb_nodes.specs.declared.grounds.Grounds.{Grounds}

abbrev pub scene : Grounds → Scene
scene g = scene_of g.spec.now g.model.now g.marks.now.keys

-- the viewpoint was checked against the metamodel of the model
abbrev pub IsSound : Grounds → Type 0
IsSound g = IsCheckedBy g.model.now.metamodel g.spec.now

-- the class of a mapping's objects is one of the model's metamodel
abbrev pub HasClass : Grounds → CheckedNode → Type 0
HasClass g node = node.objects.domain < length g.model.now.metamodel.classes

-- a candidate by itself if it is declared
abbrev pub kept : Scene → Told → ℕ → CheckedNode → Key → List Key
kept s told n node key = if is_declared s told n node key then key ∷ [] else []
