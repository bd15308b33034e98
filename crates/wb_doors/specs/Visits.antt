-- The connections that a door took, by what happened at it.
use Rattle.std.specs.Prelude.{List, [], ◌∷◌, ◌++◌}
use Rattle.wb_outer.specs.Door.{Connection, fresh, after_read, after_write, marked, change_at_hand}
use Rattle.wb_doors.specs.declared.visits.Event.{Event}
use Rattle.wb_doors.specs.declared.visits.Event.TheVariants.{Came, Read, Wrote, Failed}

abbrev pub after_event : Event → List Connection → List Connection
after_event Came cs = cs ++ fresh ∷ []
after_event (Read bytes) cs = change_at_hand (after_read bytes) cs
after_event (Wrote bytes) cs = change_at_hand (after_write bytes) cs
after_event Failed cs = change_at_hand marked cs

-- the connections after these events, from some on
abbrev pub happened : List Connection → List Event → List Connection
happened cs [] = cs
happened cs (event ∷ events) = happened (after_event event cs) events
