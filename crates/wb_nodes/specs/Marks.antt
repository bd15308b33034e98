-- A set that stands for marks.
use Rattle.std.specs.Prelude.{◌≡◌, List}
use Rattle.wb_diagram.specs.declared.keys.Key.{Key}
use Rattle.wb_answers.specs.SameKeys.{among}

-- a key is among these exactly where it is marked
abbrev pub Marks : (shown keys : List Key) → Type 0
Marks shown keys = (key : Key) → among keys key ≡ among shown key
