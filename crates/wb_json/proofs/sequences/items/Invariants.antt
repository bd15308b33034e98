use Rattle.std.proofs.Common.{map, drop}
use Rattle.std.specs.List.{enumerate_from}
use Rattle.serde_json.specs.View.{view}
use Rattle.wb_json.specs.Form.{in_turn, item_of}
use Rattle.wb_json.proofs.Turns.{Goes}
use Rattle.wb_json.proofs.sequences.items.Given as goal

abbrev pub invariant-loop-index : goal.invariant-loop-index
invariant-loop-index g l = Goes (item_of g.T.Form.form) l.items.items (enumerate_from l.index (map view (drop l.index l.values))) (in_turn (item_of g.T.Form.form) (enumerate_from 0 (map view l.values)))
