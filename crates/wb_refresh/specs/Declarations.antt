-- What was declared, in the code's parts.
use Rattle.std.specs.Prelude.{◌≡◌, List}
use Rattle.wb_metamodel.specs.Metamodel.{Metamodel}
use Rattle.wb_diagram.specs.declared.keys.AnyKey.{AnyKey}
use Rattle.wb_spec_check.specs.Checked.{Specification}
use Rattle.wb_answers.specs.Seen.{Told}
use Rattle.wb_looks.specs.Filters.{filtered}
use Rattle.wb_nodes.specs.Nodes.{Scene, nodes}
use Rattle.wb_refresh.specs.Diagrams.{edges_of, keys_of, looks_at}
use Rattle.wb_refresh.specs.declared.declared.Declared.{Declared}
use Rattle.wb_refresh.specs.declared.declared.Shown.{Shown}

-- how these keys look, and what filters hide
pub record AreShown (spec : Specification) (mm : Metamodel) (told : Told) (keys : List AnyKey) (shown : Shown) : Type 0 where
  pub looks : shown.looks ≡ looks_at spec mm told keys
  pub filtered : shown.filtered ≡ filtered spec told keys

-- what is declared in a scene, and how it looks
pub record AreDeclared (s : Scene) (told : Told) (declared : Declared) : Type 0 where
  pub nodes : declared.nodes ≡ nodes s told
  pub edges : declared.edges ≡ edges_of s told
  pub shown : AreShown s.spec s.model.metamodel told (keys_of s told) declared.shown
