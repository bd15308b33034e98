-- What a door in memory keeps of the connections that it took.
use Rattle.std.proofs.Common.{zero, suc, ◌≡◌, refl, ◌∙◌, sym, ap, ℕ, ◌+◌, ◌<◌, List, [], ◌∷◌, ◌++◌, length, take, set, get_or, map, Some, arith, Bool, true, false, Option, subst, ◌≤◌, ◌-◌, length-append, add-one}
use Rattle.std.specs.Global.{Vec}
use Rattle.std.proofs.lemmas.List.{append-nil}
use Rattle.std.proofs.Math.ListN.{length-set}
use Rattle.wb_outer.specs.Door.{Connection, ToCome, Comes, ComesFrom, fresh, after_read, after_write, marked, change_at_hand}
use Rattle.wb_outer.specs.Pieces.{bytes_of, filled}
use Rattle.wb_outer.proofs.Pieces.{bytes_filled}
use Rattle.wb_outer.specs.declared.faults.FaultPlan.{FaultPlan}
use Rattle.wb_outer.specs.declared.door.Next.{Next}
use Rattle.wb_outer.specs.declared.door.Next.TheVariants.{Line as IsLine, Failed as NextFailed}
use Rattle.wb_outer.specs.Sink.{appended}
use Rattle.wb_outer.specs.declared.sink.Wrote.{Wrote}
use Rattle.wb_outer.specs.declared.sink.Wrote.TheVariants.{Done, Failed}
use Rattle.wb_doors.specs.Coming.{ComingState, TakesFirst}
use Rattle.wb_doors.specs.MemoryDoors.{MemoryDoorState, AreSent, IsKept, memory_told, sent_on}

pub length_changed : (f : Connection → Connection) (cs : List Connection) → length (change_at_hand f cs) ≡ length cs
length_changed f [] = refl
length_changed f (c ∷ []) = refl
length_changed f (c ∷ d ∷ cs) = ap suc (length_changed f (d ∷ cs))

-- one connection more, of which nothing was written
pub AreSent-add : (sent : List (Vec ℕ)) (cs : List Connection) → AreSent sent cs → AreSent sent (cs ++ fresh ∷ [])
AreSent-add [] cs are = tt
AreSent-add (s ∷ sent) [] are = are
AreSent-add (s ∷ sent) (c ∷ cs) are = (are.0, AreSent-add sent cs are.1)

-- what is read, and what fails, changes nothing that was written
AreSent-same : (f : Connection → Connection) → ((c : Connection) → (f c).bytes_written ≡ c.bytes_written) → (sent : List (Vec ℕ)) (cs : List Connection) → AreSent sent cs → AreSent sent (change_at_hand f cs)
AreSent-same f same [] cs are = tt
AreSent-same f same (s ∷ sent) [] are = are
AreSent-same f same (s ∷ sent) (c ∷ []) are = (are.0 ∙ sym (same c), are.1)
AreSent-same f same (s ∷ sent) (c ∷ d ∷ cs) are = (are.0, AreSent-same f same sent (d ∷ cs) are.1)

pub AreSent-read : (bytes : List ℕ) (sent : List (Vec ℕ)) (cs : List Connection) → AreSent sent cs → AreSent sent (change_at_hand (after_read bytes) cs)
AreSent-read bytes = AreSent-same (after_read bytes) (λ c. refl)

pub AreSent-marked : (sent : List (Vec ℕ)) (cs : List Connection) → AreSent sent cs → AreSent sent (change_at_hand marked cs)
AreSent-marked = AreSent-same marked (λ c. refl)

-- a piece more of the one at hand
pub AreSent-write : (piece : List ℕ) (sent : List (Vec ℕ)) (cs : List Connection) (k : ℕ) (old new : Vec ℕ) → length cs ≡ k + 1 → k < length sent → old ≡ get_or sent k old → new.items ≡ old.items ++ piece
    → AreSent sent cs → AreSent (set sent k new) (change_at_hand (after_write piece) cs)
AreSent-write piece [] cs k old new last within here is are = absurd (omega (arith, within))
AreSent-write piece (s ∷ sent) [] k old new last within here is are = absurd (omega (arith, last))
AreSent-write piece (s ∷ sent) (c ∷ []) zero old new last within here is are =
    (is ∙ ap (λ (v : Vec ℕ). v.items ++ piece) here ∙ ap (λ (xs : List ℕ). xs ++ piece) are.0, are.1)
AreSent-write piece (s ∷ sent) (c ∷ []) (suc k) old new last within here is are = absurd (omega (arith, last))
AreSent-write piece (s ∷ sent) (c ∷ d ∷ cs) zero old new last within here is are = absurd (omega (arith, last))
AreSent-write piece (s ∷ sent) (c ∷ d ∷ cs) (suc k) old new last within here is are =
    (are.0, AreSent-write piece sent (d ∷ cs) k old new (omega (arith, last)) (omega (arith, within)) here is are.1)

-- nothing more of it
pub AreSent-kept : (sent : List (Vec ℕ)) (cs : List Connection) (k : ℕ) (old new : Vec ℕ) → old ≡ get_or sent k old → new.items ≡ old.items ++ [] → AreSent sent cs → AreSent (set sent k new) cs
AreSent-kept [] cs k old new here is are = tt
AreSent-kept (s ∷ sent) [] zero old new here is are = (is ∙ append-nil old.items ∙ ap (λ (v : Vec ℕ). v.items) here ∙ are.0, are.1)
AreSent-kept (s ∷ sent) (c ∷ cs) zero old new here is are = (is ∙ append-nil old.items ∙ ap (λ (v : Vec ℕ). v.items) here ∙ are.0, are.1)
AreSent-kept (s ∷ sent) [] (suc k) old new here is are = (are.0, AreSent-kept sent [] k old new here is are.1)
AreSent-kept (s ∷ sent) (c ∷ cs) (suc k) old new here is are = (are.0, AreSent-kept sent cs k old new here is are.1)

-- room for one connection more
pub AreSent-room : (sent : List (Vec ℕ)) (room : Vec ℕ) → room.items ≡ [] → AreSent sent [] → AreSent (sent ++ room ∷ []) []
AreSent-room [] room is are = (is, tt)
AreSent-room (s ∷ sent) room is are = (are.0, AreSent-room sent room is are.1)

pub sent_at : (sent : List (Vec ℕ)) (cs : List Connection) (line : ℕ) (d : Vec ℕ) → line < length sent → AreSent sent cs → (get_or sent line d).items ≡ sent_on line cs
sent_at [] cs line d within are = absurd (omega (arith, within))
sent_at (s ∷ sent) [] zero d within are = are.0
sent_at (s ∷ sent) (c ∷ cs) zero d within are = are.0
sent_at (s ∷ sent) [] (suc k) d within are = sent_at sent [] k d (omega (arith, within)) are.1
sent_at (s ∷ sent) (c ∷ cs) (suc k) d within are = sent_at sent cs k d (omega (arith, within)) are.1

change_same : (f g : Connection → Connection) → ((c : Connection) → f c ≡ g c) → (cs : List Connection) → change_at_hand f cs ≡ change_at_hand g cs
change_same f g same [] = refl
change_same f g same (c ∷ []) = ap (λ x. x ∷ []) (same c)
change_same f g same (c ∷ d ∷ cs) = ap (λ xs. c ∷ xs) (change_same f g same (d ∷ cs))

-- to be marked is to be written nothing and marked
pub marked_alone : (piece : List ℕ) (cs : List Connection) → change_at_hand marked cs ≡ change_at_hand (λ c. marked (after_write (take 0 piece) c)) cs
marked_alone piece cs =
    change_same marked (λ c. marked (after_write (take 0 piece) c)) (λ c. ap (λ (bytes : List ℕ). let d : Connection = record { bytes_read = c.bytes_read; bytes_written = bytes; has_failed = true } in d) (sym (append-nil c.bytes_written))) cs

-- the first connection that waits comes to hand
pub comes_from : (here : List ℕ) (left : List (List ℕ)) (waiting rest : List (List (List ℕ))) (pieces : List (List ℕ)) → waiting ≡ pieces ∷ rest → left ≡ filled pieces
    → ComesFrom (record { here = here; waiting = map bytes_of waiting }) (Some (record { here = bytes_of left; waiting = map bytes_of rest })) IsLine
comes_from here left waiting rest pieces first comes =
    (bytes_of pieces, map bytes_of rest, ap (map bytes_of) first, ap (λ (bytes : List ℕ). let told : ToCome = record { here = bytes; waiting = map bytes_of rest } in Some told) (ap bytes_of comes ∙ bytes_filled pieces))

-- ---- what is kept fits what is told

pub kept_next : (old new : ComingState) (last : Option Next) (taken more : List Connection) (count : ℕ) (sent : List (Vec ℕ)) (some : Bool) → some ≡ true → TakesFirst old new some → more ≡ taken ++ fresh ∷ []
    → IsKept old last taken count sent → IsKept new (Some IsLine) more (count + 1) sent
kept_next old new last taken more count sent false some first added kept = absurd (cc some)
kept_next old new last taken more count sent true some first added kept =
    let longer : length more ≡ length taken + 1 = ap length added ∙ length-append taken (fresh ∷ []) in
    let left : length old.waiting ≡ length new.waiting + 1 = ap length first.1 ∙ sym (add-one (length new.waiting)) in
    record {
      counted = omega (arith, longer, kept.counted);
      all = omega (arith, longer, left, kept.all);
      are_sent = subst (AreSent sent) (sym added) (AreSent-add sent taken kept.are_sent);
      some = λ _. omega arith;
    }

pub kept_marked : (coming : ComingState) (last : Option Next) (taken after : List Connection) (count : ℕ) (sent : List (Vec ℕ)) → after ≡ change_at_hand marked taken → IsKept coming last taken count sent → IsKept coming last after count sent
kept_marked coming last taken after count sent is kept =
    let same : length after ≡ length taken = ap length is ∙ length_changed marked taken in
    record {
      counted = kept.counted ∙ sym same;
      all = omega (arith, same, kept.all);
      are_sent = subst (AreSent sent) (sym is) (AreSent-marked sent taken kept.are_sent);
      some = kept.some;
    }

pub kept_read : (old new : ComingState) (last : Option Next) (taken after : List Connection) (count : ℕ) (sent : List (Vec ℕ)) (bytes : List ℕ) → new.waiting ≡ old.waiting → after ≡ change_at_hand (after_read bytes) taken
    → IsKept old last taken count sent → IsKept new last after count sent
kept_read old new last taken after count sent bytes waits is kept =
    let same : length after ≡ length taken = ap length is ∙ length_changed (after_read bytes) taken in
    let left : length new.waiting ≡ length old.waiting = ap length waits in
    record {
      counted = kept.counted ∙ sym same;
      all = omega (arith, same, left, kept.all);
      are_sent = subst (AreSent sent) (sym is) (AreSent-read bytes sent taken kept.are_sent);
      some = kept.some;
    }

-- the first connection that waits comes to hand
pub comes : (coming new : ComingState) (old : MemoryDoorState) (more : List Connection) (plan : FaultPlan) (some : Bool) → some ≡ true → TakesFirst coming new some → coming.waiting ≡ old.waiting → more ≡ old.taken ++ fresh ∷ [] → old.plan.faults ≤ plan.faults
    → Comes (memory_told old) (memory_told (record { last = Some IsLine; taken = more; left = new.left; waiting = new.waiting; plan = plan })) IsLine
comes coming new old more plan false some first waits added later = absurd (cc some)
comes coming new old more plan true some first waits added later = record {
  last = refl;
  taken = added;
  to_come = comes_from (bytes_of old.left) new.left old.waiting new.waiting first.0 (sym waits ∙ first.1) first.2;
  later = later;
  failed = λ (none : IsLine ≡ NextFailed). absurd (cc none);
}

pub kept_write : (coming : ComingState) (last : Option Next) (taken after : List Connection) (count : ℕ) (sent : List (Vec ℕ)) (old new : Vec ℕ) (piece : List ℕ) (wrote : Wrote) → wrote ≡ Done → last ≡ Some IsLine → after ≡ change_at_hand (after_write piece) taken
    → old ≡ get_or sent (count - 1) old → new.items ≡ old.items ++ appended wrote piece → IsKept coming last taken count sent → IsKept coming last after count (set sent (count - 1) new)
kept_write coming last taken after count sent old new piece Done done line is here longer kept =
    let some : 0 < count = kept.some line in
    let same : length after ≡ length taken = ap length is ∙ length_changed (after_write piece) taken in
    let last_one : length taken ≡ (count - 1) + 1 = omega (arith, some, kept.counted) in
    let within : count - 1 < length sent = omega (arith, some, kept.counted, kept.all) in
    record {
      counted = kept.counted ∙ sym same;
      all = length-set sent (count - 1) new ∙ kept.all ∙ ap (λ n. n + length coming.waiting) (sym same);
      are_sent = subst (AreSent (set sent (count - 1) new)) (sym is) (AreSent-write piece sent taken (count - 1) old new last_one within here longer kept.are_sent);
      some = kept.some;
    }
kept_write coming last taken after count sent old new piece Failed done line is here longer kept = absurd (cc done)

pub kept_refused : (coming : ComingState) (last : Option Next) (taken after : List Connection) (count : ℕ) (sent : List (Vec ℕ)) (old new : Vec ℕ) (piece : List ℕ) (wrote : Wrote) → wrote ≡ Failed → after ≡ change_at_hand marked taken
    → old ≡ get_or sent (count - 1) old → new.items ≡ old.items ++ appended wrote piece → IsKept coming last taken count sent → IsKept coming last after count (set sent (count - 1) new)
kept_refused coming last taken after count sent old new piece Done failed is here longer kept = absurd (cc failed)
kept_refused coming last taken after count sent old new piece Failed failed is here longer kept =
    let same : length after ≡ length taken = ap length is ∙ length_changed marked taken in
    record {
      counted = kept.counted ∙ sym same;
      all = length-set sent (count - 1) new ∙ kept.all ∙ ap (λ n. n + length coming.waiting) (sym same);
      are_sent = subst (AreSent (set sent (count - 1) new)) (sym is) (AreSent-marked (set sent (count - 1) new) taken (AreSent-kept sent taken (count - 1) old new here longer kept.are_sent));
      some = kept.some;
    }
