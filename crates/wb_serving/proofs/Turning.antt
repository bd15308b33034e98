-- One turn: from what was read to what was written.
use Rattle.std.proofs.Common.{◌≡◌, refl, ◌∙◌, sym, ap, subst, inl, inr, ◌≤◌, ℕ, Bool, true, false, List, [], ◌∷◌, ◌++◌, take, Option, Some, None, IfSome, Result, Ok, Err, append-nil, arith}
use Rattle.wb_outer.proofs.Connections.{change_last}
use Rattle.wb_outer.specs.Door.{Connection, DoorTold, ToCome, after_read, after_write, marked, change_at_hand, WritesOn}
use Rattle.wb_outer.specs.declared.sink.Wrote.TheVariants.{Done, Failed as WriteFailed}
use Rattle.wb_http.specs.Requests.{Takes, Short}
use Rattle.wb_http.specs.Reading.{ReadsOne, Answers, CameFrom, IsAtEnd, end_of, taken_after}
use Rattle.wb_http.specs.declared.requests.Request.{Request}
use Rattle.wb_http.specs.declared.requests.RequestEnd.{RequestEnd}
use Rattle.wb_http.specs.declared.requests.RequestEnd.TheVariants as read
use Rattle.wb_serving.specs.declared.ends.End.{End}
use Rattle.wb_serving.specs.declared.ends.End.TheVariants.{Input, Stop, Spent, Close, Fault}
use Rattle.wb_serving.specs.declared.replies.Reply.{Reply}
use Rattle.wb_serving.specs.Machines.{Law, MachineTold}
use Rattle.wb_serving.specs.Turns.{Turn, Replied, Refused, NoRoom, NoRoomReading, Unkept, ending, stops_by, closes_by, end_after, text, after, TakesIn}
use Rattle.wb_serving.specs.Counts.{IsRiseOf, unkept_in}
use Rattle.wb_serving.specs.Replies.{text_in, closes_with, stops_with}
use Rattle.wb_serving.specs.Responses.{WasHeard, Suits, Replies, Quits, Turned, Leaves, Sends, TurnOn, TakesTurn}

-- ---- writing

-- a change of the connection at hand, which is the last one
changed_last : (f : Connection → Connection) (old new earlier : List Connection) (c : Connection) → old ≡ earlier ++ c ∷ [] → new ≡ change_at_hand f old → new ≡ earlier ++ f c ∷ []
changed_last f old new earlier c is changed = changed ∙ ap (change_at_hand f) is ∙ change_last f earlier c

pub sent : (piece : List ℕ) (end result : Option End) (old new : DoorTold) → result ≡ end → new.to_come ≡ old.to_come → WritesOn old.taken new.taken piece Done → Sends piece end result old new
sent piece end result old new is same wrote = (same, λ earlier c here. inl (is, changed_last (after_write piece) old.taken new.taken earlier c here wrote))

pub sent_part : (piece : List ℕ) (end : Option End) (old new : DoorTold) → new.to_come ≡ old.to_come → WritesOn old.taken new.taken piece WriteFailed → Sends piece end (Some Fault) old new
sent_part piece end old new same wrote = (same, λ earlier c here. inr (refl, wrote.0, changed_last (λ d. marked (after_write (take wrote.0 piece) d)) old.taken new.taken earlier c here wrote.1))

-- ---- reading

-- at a door that does not tell what is left, nothing is
at_end_none : (end : Option RequestEnd) → IsAtEnd end []
at_end_none (Some read.Ended) = refl
at_end_none (Some read.Failed) = tt
at_end_none (Some (read.Bad refusal)) = tt
at_end_none (Some read.NoMemory) = tt
at_end_none None = tt

left_of : (end : Option RequestEnd) (got : List ℕ) (old new : Option ToCome) → IfSome old (λ to_come. CameFrom end to_come new got) → (left : List ℕ) × Leaves old new got left × IsAtEnd end left
left_of end got None new came = ([], tt, at_end_none end)
left_of end got (Some to_come) new came = (came.0, (came.1, came.2), came.3)

-- what was heard was read with no failed call
taken_heard : (heard : Result Request RequestEnd) (got : List ℕ) (cs : List Connection) → WasHeard heard → taken_after (end_of heard) got cs ≡ change_at_hand (after_read got) cs
taken_heard (Ok q) got cs was = refl
taken_heard (Err (read.Bad refusal)) got cs was = refl
taken_heard (Err read.Ended) got cs was = absurd was
taken_heard (Err read.Failed) got cs was = absurd was
taken_heard (Err read.NoMemory) got cs was = refl

module _ {S : Type 0} (law : Law S) where
  was_heard : (t : Turn) (heard : Result Request RequestEnd) (s : S) → Suits law heard s t → WasHeard heard
  was_heard (Replied q) heard s suits = subst WasHeard (sym suits) tt
  was_heard (Refused refusal) heard s suits = subst WasHeard (sym suits) tt
  was_heard (NoRoom q) heard s suits = subst WasHeard (sym suits) tt
  was_heard NoRoomReading heard s suits = suits
  was_heard (Unkept q) heard s suits = subst WasHeard (sym suits.0) tt

-- ---- how a reply ends a connection

-- a reply ends no connection by its input or by a fault
ends_by_reply : (stop last close : Bool) (end : End) → ending stop last close ≡ Some end → (end ≡ Input → ⊥) × (end ≡ Fault → ⊥)
ends_by_reply true last close end is = (λ i. cc, λ f. cc)
ends_by_reply false true close end is = (λ i. cc, λ f. cc)
ends_by_reply false false true end is = (λ i. cc, λ f. cc)
ends_by_reply false false false end is = cc

-- one that closes it leaves it not open
closing_ends : (last : Bool) → ending false last true ≡ None → ⊥
closing_ends true is = cc
closing_ends false is = cc

-- the turn takes what was read of the bytes
takes_read : {S : Type 0} (law : Law S) (t : Turn) (heard : Result Request RequestEnd) (s : S) (last : Bool) (bytes held : List ℕ) → Suits law heard s t → Answers heard bytes held → (rest : List ℕ) × TakesIn law s t bytes rest × (end_after last t ≡ None → rest ≡ held)
takes_read law (Replied q) heard s last bytes held suits answered = (held, subst (λ h. Answers h bytes held) suits answered, λ open_is. refl)
takes_read law (Refused refusal) heard s last bytes held suits answered = (held, subst (λ h. Answers h bytes held) suits answered, λ open_is. refl)
takes_read law (NoRoom q) heard s last bytes held suits answered = (held, subst (λ h. Answers h bytes held) suits answered, λ open_is. refl)
takes_read law NoRoomReading heard s last bytes held suits answered = (bytes, refl, λ open_is. absurd (closing_ends last open_is))
takes_read law (Unkept q) heard s last bytes held suits answered = (held, (subst (λ h. Answers h bytes held) suits.0 answered, suits.1), λ open_is. refl)

module _ {S : Type 0} (law : Law S) (m m' : MachineTold S) (held : List ℕ) (last : Bool) where
  -- the reply was written whole
  said_whole : (t : Turn) (result : Option End) (bytes rest : List ℕ) (c c' : Connection) (left : List ℕ) → result ≡ end_after last t → TakesIn law m.state t bytes rest → (end_after last t ≡ None → rest ≡ held) → m'.state ≡ after law m.state t → c'.bytes_written ≡ c.bytes_written ++ text law m.state last t → IsRiseOf (unkept_in t) m.faults m'.faults → Turned law result m m' bytes held last c c' left
  said_whole t None bytes rest c c' left is takes kept state written rise = (t, subst (λ r. TakesIn law m.state t bytes r) (kept (sym is)) takes, sym is, state, written, rise)
  said_whole t (Some end) bytes rest c c' left is takes kept state written rise =
      let never = ends_by_reply (stops_by t) last (closes_by last t) end (sym is) in
      (Some t, text law m.state last t, (rest, takes, state, inl (sym is, refl)), written, λ input. absurd (never.0 input), λ fault. absurd (never.1 fault), rise)

  -- a front of it was
  said_part : (t : Turn) (n : ℕ) (bytes rest : List ℕ) (c c' : Connection) (left : List ℕ) → TakesIn law m.state t bytes rest → m'.state ≡ after law m.state t → c'.bytes_written ≡ c.bytes_written ++ take n (text law m.state last t) → c'.has_failed ≡ true → IsRiseOf (unkept_in t) m.faults m'.faults → Turned law (Some Fault) m m' bytes held last c c' left
  said_part t n bytes rest c c' left takes state written failed rise = (Some t, take n (text law m.state last t), (rest, takes, state, inr (refl, n, refl)), written, λ input. cc, λ fault. failed, rise)

-- what was read was answered
module _ {S : Type 0} (law : Law S) (m m' : MachineTold S) (d mid d' : DoorTold) (held held' : List ℕ) (last : Bool) where
  pub said : (heard : Result Request RequestEnd) (made : Reply) (result : Option End) → ReadsOne held held' d mid heard → Replies law heard m m' last made → Sends (text_in made) (ending (stops_with made) last (closes_with made)) result mid d' → TakesTurn law m m' d d' held held' last result
  said heard made result reads replies sends earlier c is =
      let t = replies.0 in
      let got = reads.got in
      let by = replies.2 in
      let was = was_heard law t heard m.state replies.1 in
      let left = left_of (end_of heard) got d.to_come mid.to_come reads.gives.to_come in
      let takes = takes_read law t heard m.state last (held ++ got) held' replies.1 reads.answered in
      let at = changed_last (after_read got) d.taken mid.taken earlier c is (reads.gives.taken ∙ taken_heard heard got d.taken was) in
      let leaves = subst (λ o. Leaves d.to_come o got left.0) (sym sends.0) left.1 in
      elim (sends.1 earlier (after_read got c) at) [
        | inl whole ↦ (
          after_write (text_in made) (after_read got c),
          whole.1,
          record {
            got = got;
            left = left.0;
            read = refl;
            leaves = leaves;
            turned = said_whole law m m' held' last t result (held ++ got) takes.0 c (after_write (text_in made) (after_read got c)) left.0
                (whole.0 ∙ ap (λ b. ending b last (closes_with made)) by.stops ∙ ap (λ b. ending (stops_by t) last b) by.closes)
                takes.1 takes.2 by.state (ap (λ out. c.bytes_written ++ out) by.text) replies.3;
          },
        )
        | inr part ↦ (
          marked (after_write (take part.1 (text_in made)) (after_read got c)),
          part.2,
          subst (λ r. TurnOn law m m' d.to_come d'.to_come held held' c (marked (after_write (take part.1 (text_in made)) (after_read got c))) last r) (sym part.0) (record {
            got = got;
            left = left.0;
            read = refl;
            leaves = leaves;
            turned = said_part law m m' held' last t part.1 (held ++ got) takes.0 c (marked (after_write (take part.1 (text_in made)) (after_read got c))) left.0 takes.1 by.state (ap (λ out. c.bytes_written ++ take part.1 out) by.text) refl replies.3;
          }),
        )
      ]

-- no request was left, or the door failed
module _ {S : Type 0} (law : Law S) (m m' : MachineTold S) (d d' : DoorTold) (held held' : List ℕ) (last : Bool) where
  -- the bytes are less than a request
  short_at : (heard : Result Request RequestEnd) (end : RequestEnd) (bytes : List ℕ) → (Answers (Err end) bytes held' → Takes bytes Short) → heard ≡ Err end → Answers heard bytes held' → Takes bytes Short
  short_at heard end bytes short is answered = short (subst (λ h. Answers h bytes held') is answered)

  pub quit : (heard : Result Request RequestEnd) (end : End) → ReadsOne held held' d d' heard → Quits law heard end → m'.state ≡ m.state → m.faults ≤ m'.faults → TakesTurn law m m' d d' held held' last (Some end)
  quit heard Input reads quits state later earlier c is =
      let got = reads.got in
      let left = left_of (end_of heard) got d.to_come d'.to_come reads.gives.to_come in
      let at = changed_last (after_read got) d.taken d'.taken earlier c is (reads.gives.taken ∙ ap (λ h. taken_after (end_of h) got d.taken) quits) in (
        after_read got c,
        at,
        record {
          got = got;
          left = left.0;
          read = refl;
          leaves = left.1;
          turned = (None, [], (short_at heard read.Ended (held ++ got) (λ a. a.0) quits reads.answered, refl, state, inl refl), sym (append-nil c.bytes_written), λ input. subst (λ h. IsAtEnd (end_of h) left.0) quits left.2, λ fault. cc, inl (omega (arith, later)));
        },
      )
  quit heard Stop reads quits state later earlier c is = absurd quits
  quit heard Spent reads quits state later earlier c is = absurd quits
  quit heard Close reads quits state later earlier c is = absurd quits
  quit heard Fault reads quits state later earlier c is =
      let got = reads.got in
      let left = left_of (end_of heard) got d.to_come d'.to_come reads.gives.to_come in
      let read_at = changed_last (after_read got) d.taken (change_at_hand (after_read got) d.taken) earlier c is refl in
      let at = changed_last marked (change_at_hand (after_read got) d.taken) d'.taken earlier (after_read got c) read_at (reads.gives.taken ∙ ap (λ h. taken_after (end_of h) got d.taken) quits) in (
        marked (after_read got c),
        at,
        record {
          got = got;
          left = left.0;
          read = refl;
          leaves = left.1;
          turned = (None, [], (short_at heard read.Failed (held ++ got) (λ a. a.0) quits reads.answered, refl, state, inr refl), sym (append-nil c.bytes_written), λ input. cc, λ fault. refl, inl (omega (arith, later)));
        },
      )
