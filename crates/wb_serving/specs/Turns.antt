-- The turns of a connection: each is a reply, and what it answers.
use Rattle.std.specs.Prelude.{◌≡◌, ℕ, ◌+◌, ◌==◌, ◌||◌, Bool, true, false, List, Option, Some, None, Result, Ok, Err, if◌then◌else◌}
use Rattle.wb_http.specs.declared.requests.Request.{Request}
use Rattle.wb_http.specs.declared.refusals.HttpRefusal.{HttpRefusal}
use Rattle.wb_http.specs.declared.replies.FixedReply.{FixedReply}
use Rattle.wb_http.specs.declared.replies.FixedReply.TheVariants as fixed
use Rattle.wb_http.specs.declared.routes.Route.{Route}
use Rattle.wb_http.specs.declared.routes.Route.TheVariants.{Diagram, Element, Model, Command, Stop as StopRoute}
use Rattle.wb_http.specs.declared.routes.RouteRefusal.{RouteRefusal}
use Rattle.wb_http.specs.declared.routes.RouteRefusal.TheVariants as refusals
use Rattle.wb_http.specs.Requests.{Whole, Bad, Takes}
use Rattle.wb_http.specs.Routes.{route_of}
use Rattle.wb_http.specs.Replies.{response, fixed_status, fixed_text}
use Rattle.wb_serving.specs.declared.ends.End.{End}
use Rattle.wb_serving.specs.declared.ends.End.TheVariants.{Stop, Spent, Close}
use Rattle.wb_serving.specs.Machines.{Outcome, Law, text_of, is_fine}

-- ---- requests

-- a reply of fixed text, with the state as before
abbrev pub fixed_outcome : {S : Type 0} → FixedReply → Option (List ℕ) → S → Outcome S
fixed_outcome reply allow s = record { status = fixed_status reply; allow = allow; body = fixed_text reply; after = s }

-- the route of a request
abbrev pub route_for : Request → Result Route RouteRefusal
route_for q = route_of q.method q.target

-- what a request of this route is answered; the last case is that of no request
abbrev pub outcome_at : {S : Type 0} → Law S → S → List ℕ → Result Route RouteRefusal → Outcome S
outcome_at law s body (Ok Diagram) = law.reply s Diagram body
outcome_at law s body (Ok (Element key)) = law.reply s (Element key) body
outcome_at law s body (Ok Model) = law.reply s Model body
outcome_at law s body (Ok Command) = law.reply s Command body
outcome_at law s body (Ok StopRoute) = fixed_outcome fixed.Stopped None s
outcome_at law s body (Err refusals.NotFound) = fixed_outcome fixed.NotFound None s
outcome_at law s body (Err (refusals.NotAllowed method)) = fixed_outcome fixed.MethodNotAllowed (Some method) s
outcome_at law s body (Err refusals.NoMemory) = fixed_outcome fixed.NoMemory None s

-- what a request is answered
abbrev pub outcome : {S : Type 0} → Law S → S → Request → Outcome S
outcome law s q = outcome_at law s q.body (route_for q)

abbrev pub is_stop : Result Route RouteRefusal → Bool
is_stop (Ok Diagram) = false
is_stop (Ok (Element key)) = false
is_stop (Ok Model) = false
is_stop (Ok Command) = false
is_stop (Ok StopRoute) = true
is_stop (Err refusal) = false

-- a request to stop the program
abbrev pub stops : Request → Bool
stops q = is_stop (route_for q)

-- does the connection close after the reply to a request, which may be the last one of its connection?
abbrev pub closes : Request → Bool → Bool
closes q last = stops q || (q.close || last)

-- a command that the machine accepts
abbrev pub Accepts : {S : Type 0} → Law S → S → Request → Type 0
Accepts law s q = (route_for q ≡ Ok Command) × ((law.reply s Command q.body).status ≡ is_fine)

-- ---- turns

-- the reply to a request; that to a refusal of the bytes; 507 to a whole request, or while one was read and routed;
-- 503 to a command
pub data Turn : Type 0 where
  Replied : Request → Turn
  Refused : HttpRefusal → Turn
  NoRoom : Request → Turn
  NoRoomReading : Turn
  Unkept : Request → Turn

-- a connection has at most so many turns
abbrev pub turn_limit : ℕ
turn_limit = 10000

-- is the turn of this number, from 0, the last one that a connection may have?
abbrev pub is_last : ℕ → Bool
is_last k = k + 1 == turn_limit

abbrev pub fixed_reply : FixedReply → Bool → List ℕ
fixed_reply reply close = response (fixed_status reply) None close (fixed_text reply)

-- does the program stop after it?
abbrev pub stops_by : Turn → Bool
stops_by (Replied q) = stops q
stops_by (Refused refusal) = false
stops_by (NoRoom q) = false
stops_by NoRoomReading = false
stops_by (Unkept q) = false

-- does the connection close after it?
abbrev pub closes_by : Bool → Turn → Bool
closes_by last (Replied q) = closes q last
closes_by last (Refused refusal) = true
closes_by last (NoRoom q) = closes q last
closes_by last NoRoomReading = true
closes_by last (Unkept q) = closes q last

-- the bytes of its reply
abbrev pub text : {S : Type 0} → Law S → S → Bool → Turn → List ℕ
text law s last (Replied q) = text_of (outcome law s q) (closes q last)
text law s last (Refused refusal) = fixed_reply (fixed.Http refusal) true
text law s last (NoRoom q) = fixed_reply fixed.NoMemory (closes q last)
text law s last NoRoomReading = fixed_reply fixed.NoMemory true
text law s last (Unkept q) = fixed_reply fixed.Keeper (closes q last)

-- the state after it
abbrev pub after : {S : Type 0} → Law S → S → Turn → S
after law s (Replied q) = (outcome law s q).after
after law s (Refused refusal) = s
after law s (NoRoom q) = s
after law s NoRoomReading = s
after law s (Unkept q) = s

-- how the connection ends after a reply, the first that holds
abbrev pub ending : Bool → Bool → Bool → Option End
ending stop last close = if stop then Some Stop else (if last then Some Spent else (if close then Some Close else None))

abbrev pub end_after : Bool → Turn → Option End
end_after last t = ending (stops_by t) last (closes_by last t)

-- a turn may be taken at these bytes, and leaves the rest
abbrev pub TakesIn : {S : Type 0} → Law S → S → Turn → List ℕ → List ℕ → Type 0
TakesIn law s (Replied q) bytes rest = Takes bytes (Whole q rest)
TakesIn law s (Refused refusal) bytes rest = Takes bytes (Bad refusal) × (rest ≡ bytes)
TakesIn law s (NoRoom q) bytes rest = Takes bytes (Whole q rest)
TakesIn law s NoRoomReading bytes rest = rest ≡ bytes
TakesIn law s (Unkept q) bytes rest = Takes bytes (Whole q rest) × Accepts law s q
