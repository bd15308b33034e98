-- The log of a layout: nothing, or the positions at its start.
use Rattle.std.specs.Prelude.{Option, Some, None}
use Rattle.wb_layout.specs.Positions.{Positions}

-- the positions at the start of a log: those that it holds, or else those at hand
abbrev pub start : Option Positions → Positions → Positions
start (Some kept) now = kept
start None now = now

-- what a log holds once a change of these positions is noted: its start, which the first change puts there
abbrev pub noted : Option Positions → Positions → Option Positions
noted log now = Some (start log now)
