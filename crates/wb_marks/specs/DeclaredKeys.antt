-- Sets that stand for the keys of a diagram.
use Rattle.std.specs.Prelude.{List}
use Rattle.wb_diagram.specs.declared.keys.EdgeKey.{EdgeKey}
use Rattle.wb_diagram.specs.declared.keys.Key.{Key}
use Rattle.wb_answers.specs.SameKeys.{same_edge, same_key}
use Rattle.wb_marks.specs.Ones.{SameItems}
use Rattle.wb_marks.specs.declared.settling.Declared.{Declared}

-- the keys of these elements and edges are in the sets
abbrev pub Declare : (nodes : List Key) → (edges : List EdgeKey) → Declared → Type 0
Declare nodes edges it = SameItems same_key nodes it.nodes.keys × SameItems same_edge edges it.edges.keys
