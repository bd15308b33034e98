-- From what was read to what is written.
use Rattle.std.specs.Prelude.{◌≡◌, ◌⊎◌, ℕ, Bool, false, true, ⊤, List, [], ◌∷◌, ◌++◌, take, Option, Some, None, IfSome, Result, Ok, Err}
use Rattle.wb_outer.specs.Door.{Connection, DoorTold, ToCome, after_write, marked}
use Rattle.wb_outer.specs.Faults.{Rose}
use Rattle.wb_http.specs.declared.requests.Request.{Request}
use Rattle.wb_http.specs.declared.requests.RequestEnd.{RequestEnd}
use Rattle.wb_http.specs.declared.requests.RequestEnd.TheVariants as read
use Rattle.wb_http.specs.declared.routes.Route.{Route}
use Rattle.wb_http.specs.declared.replies.FixedReply.TheVariants.{Http}
use Rattle.wb_serving.specs.declared.ends.End.{End}
use Rattle.wb_serving.specs.declared.ends.End.TheVariants.{Input, Stop, Spent, Close, Fault}
use Rattle.wb_serving.specs.declared.replies.Reply.{Reply}
use Rattle.wb_serving.specs.declared.replies.Reply.TheVariants as reply
use Rattle.wb_serving.specs.declared.turn.Response.{Response}
use Rattle.wb_serving.specs.declared.turn.Response.TheVariants.{Say, Quit}
use Rattle.wb_serving.specs.Machines.{Law, MachineTold, IsAccepted, text_of}
use Rattle.wb_serving.specs.Replies.{text_in, closes_with, stops_with, SaysOrLacks}
use Rattle.wb_serving.specs.Turns.{Turn, Replied, Refused, NoRoom, NoRoomReading, Unkept, outcome_at, is_stop, Accepts, stops_by, closes_by, fixed_reply, text, after, end_after, TakesIn}
use Rattle.wb_serving.specs.Talk.{Ends}
use Rattle.wb_serving.specs.Counts.{IsRiseOf, unkept_in, unkept_last}

-- something is answered to what was read
abbrev pub WasHeard : Result Request RequestEnd → Type 0
WasHeard (Ok q) = ⊤
WasHeard (Err (read.Bad refusal)) = ⊤
WasHeard (Err read.Ended) = ⊥
WasHeard (Err read.Failed) = ⊥
WasHeard (Err read.NoMemory) = ⊤

module _ {S : Type 0} (law : Law S) where
  -- the reply to a request of this route; `close` is what the request asks for, or its number
  abbrev pub RepliesAt : MachineTold S → MachineTold S → List ℕ → Bool → Route → Reply → Type 0
  RepliesAt m m' body close route (reply.Made text close') = (text ≡ text_of (outcome_at law m.state body (Ok route)) close) × (close' ≡ close) × (is_stop (Ok route) ≡ false) × (m'.state ≡ (outcome_at law m.state body (Ok route)).after)
  RepliesAt m m' body close route (reply.NoMemory close') = (close' ≡ close) × (is_stop (Ok route) ≡ false) × (m'.state ≡ m.state)
  RepliesAt m m' body close route (reply.Unkept close') = (close' ≡ close) × IsAccepted law m.state route body × (m'.state ≡ m.state) × Rose m.faults m'.faults
  RepliesAt m m' body close route reply.Stopped = (is_stop (Ok route) ≡ true) × (m'.state ≡ m.state)

  -- a turn that answers what was read
  abbrev pub Suits : Result Request RequestEnd → S → Turn → Type 0
  Suits heard s (Replied q) = heard ≡ Ok q
  Suits heard s (Refused refusal) = heard ≡ Err (read.Bad refusal)
  Suits heard s (NoRoom q) = heard ≡ Ok q
  Suits heard s NoRoomReading = WasHeard heard
  Suits heard s (Unkept q) = (heard ≡ Ok q) × Accepts law s q

  -- a reply is that of a turn
  pub record IsReplyOf (s s' : S) (last : Bool) (t : Turn) (made : Reply) : Type 0 where
    pub text : text_in made ≡ text law s last t
    pub stops : stops_with made ≡ stops_by t
    pub closes : closes_with made ≡ closes_by last t
    pub state : s' ≡ after law s t

  -- what was read is answered by a turn
  abbrev pub Replies : Result Request RequestEnd → MachineTold S → MachineTold S → Bool → Reply → Type 0
  Replies heard m m' last made = (t : Turn) × Suits heard m.state t × IsReplyOf m.state m'.state last t made × IsRiseOf (unkept_in t) m.faults m'.faults

  -- the connection ends with no turn more
  abbrev pub Quits : Result Request RequestEnd → End → Type 0
  Quits heard Input = heard ≡ Err read.Ended
  Quits heard Stop = ⊥
  Quits heard Spent = ⊥
  Quits heard Close = ⊥
  Quits heard Fault = heard ≡ Err read.Failed

  abbrev pub Responds : Result Request RequestEnd → MachineTold S → MachineTold S → Bool → Response → Type 0
  Responds heard m m' last (Say made) = Replies heard m m' last made
  Responds heard m m' last (Quit end) = Quits heard end × (m'.state ≡ m.state)

  -- what a turn makes of the connection at hand: the bytes at its front were taken, and its reply was written
  abbrev pub Turned : Option End → MachineTold S → MachineTold S → List ℕ → List ℕ → Bool → Connection → Connection → List ℕ → Type 0
  Turned None m m' bytes held' last c c' left =
      (t : Turn) × TakesIn law m.state t bytes held' × (end_after last t ≡ None) × (m'.state ≡ after law m.state t) × (c'.bytes_written ≡ c.bytes_written ++ text law m.state last t) × IsRiseOf (unkept_in t) m.faults m'.faults
  Turned (Some end) m m' bytes held' last c c' left =
      (final : Option Turn) × (out : List ℕ) × Ends law end final last m.state bytes out m'.state × (c'.bytes_written ≡ c.bytes_written ++ out)
      × (end ≡ Input → left ≡ []) × (end ≡ Fault → c'.has_failed ≡ true) × IsRiseOf (unkept_last final) m.faults m'.faults

-- what is done where no request was read
abbrev pub Refuses : RequestEnd → Response → Type 0
Refuses (read.Bad refusal) (Say made) = SaysOrLacks (fixed_reply (Http refusal) true) true made
Refuses (read.Bad refusal) (Quit end) = ⊥
Refuses read.Ended response = response ≡ Quit Input
Refuses read.Failed response = response ≡ Quit Fault
Refuses read.NoMemory response = response ≡ Say (reply.NoMemory true)

-- these bytes were the next ones of the connection at hand, and these are left of it
abbrev pub Leaves : Option ToCome → Option ToCome → List ℕ → List ℕ → Type 0
Leaves old new got left = IfSome old (λ to_come. (to_come.here ≡ got ++ left) × (new ≡ Some (record { here = left; waiting = to_come.waiting })))

-- a piece is written whole, or a front of it where the door fails
abbrev pub Sends : List ℕ → Option End → Option End → DoorTold → DoorTold → Type 0
Sends piece end result old new = (new.to_come ≡ old.to_come) × ((earlier : List Connection) (c : Connection) → old.taken ≡ earlier ++ c ∷ [] →
    ((result ≡ end) × (new.taken ≡ earlier ++ after_write piece c ∷ [])) ⊎ ((result ≡ Some Fault) × (n : ℕ) × (new.taken ≡ earlier ++ marked (after_write (take n piece) c) ∷ [])))

module _ {S : Type 0} (law : Law S) where
  pub record TurnOn (m m' : MachineTold S) (old new : Option ToCome) (held held' : List ℕ) (c c' : Connection) (last : Bool) (result : Option End) : Type 0 where
    pub got : List ℕ
    pub left : List ℕ
    pub read : c'.bytes_read ≡ c.bytes_read ++ got
    pub leaves : Leaves old new got left
    pub turned : Turned law result m m' (held ++ got) held' last c c' left

  -- a turn was taken, which changed the connection at hand alone
  abbrev pub TakesTurn : MachineTold S → MachineTold S → DoorTold → DoorTold → List ℕ → List ℕ → Bool → Option End → Type 0
  TakesTurn m m' d d' held held' last result = (earlier : List Connection) (c : Connection) → d.taken ≡ earlier ++ c ∷ [] →
      (c' : Connection) × (d'.taken ≡ earlier ++ c' ∷ []) × TurnOn m m' d.to_come d'.to_come held held' c c' last result
