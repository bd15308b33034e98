-- Positions that are kept, key by key.
use Rattle.std.specs.Prelude.{Option, Some, None, if◌then◌else◌}
use Rattle.wb_diagram.specs.declared.keys.Key.{Key}
use Rattle.wb_layout.specs.Orders.{same_key}
use Rattle.wb_layout.specs.Positions.{Position}

-- what a key has, once one more key that has a position keeps it
abbrev pub kept_too : Key → Option Position → Option Position → Key → Option Position
kept_too key (Some at) before other = if same_key other key then Some at else before
kept_too key None before other = before
