-- What happened last, happens to what the earlier events left.
use Rattle.std.proofs.Common.{◌≡◌, refl, List, [], ◌∷◌, ◌++◌}
use Rattle.wb_outer.specs.Door.{Connection}
use Rattle.wb_doors.specs.Visits.{after_event, happened}
use Rattle.wb_doors.specs.declared.visits.Event.{Event}

pub happened_last : (cs : List Connection) (events : List Event) (event : Event) → happened cs (events ++ event ∷ []) ≡ after_event event (happened cs events)
happened_last cs [] event = refl
happened_last cs (first ∷ events) event = happened_last (after_event first cs) events event
