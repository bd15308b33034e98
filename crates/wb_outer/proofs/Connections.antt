-- The connection at hand is the last one taken, and changes by the last event.
use Rattle.std.proofs.Common.{◌≡◌, refl, ap, List, [], ◌∷◌, ◌++◌}
use Rattle.wb_outer.specs.Door.{Connection, at_hand, change_at_hand}
use Rattle.wb_outer.specs.Visits.{after_event, happened}
use Rattle.wb_outer.specs.declared.visits.Event.{Event}

pub change_last : (f : Connection → Connection) (cs : List Connection) (c : Connection) → change_at_hand f (cs ++ c ∷ []) ≡ cs ++ f c ∷ []
change_last f [] c = refl
change_last f (d ∷ []) c = refl
change_last f (d ∷ e ∷ cs) c = ap (λ xs. d ∷ xs) (change_last f (e ∷ cs) c)

pub at_hand_last : (cs : List Connection) (c : Connection) → at_hand (cs ++ c ∷ []) ≡ c
at_hand_last [] c = refl
at_hand_last (d ∷ []) c = refl
at_hand_last (d ∷ e ∷ cs) c = at_hand_last (e ∷ cs) c

-- the last event happens to what the earlier ones left
pub happened_last : (cs : List Connection) (events : List Event) (event : Event) → happened cs (events ++ event ∷ []) ≡ after_event event (happened cs events)
happened_last cs [] event = refl
happened_last cs (first ∷ events) event = happened_last (after_event first cs) events event
