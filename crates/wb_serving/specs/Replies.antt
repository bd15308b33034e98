-- What a reply of the code says.
use Rattle.std.specs.Prelude.{◌≡◌, Bool, true, false, List, ℕ, Some}
use Rattle.wb_http.specs.declared.replies.FixedReply.TheVariants as fixed
use Rattle.wb_http.specs.declared.routes.RouteRefusal.{RouteRefusal}
use Rattle.wb_http.specs.declared.routes.RouteRefusal.TheVariants as refusals
use Rattle.wb_http.specs.Replies.{response, fixed_status, fixed_text}
use Rattle.wb_serving.specs.declared.replies.Reply.{Reply}
use Rattle.wb_serving.specs.declared.replies.Reply.TheVariants.{Made, NoMemory, Unkept, Stopped}
use Rattle.wb_serving.specs.Turns.{fixed_reply}

-- its bytes
abbrev pub text_in : Reply → List ℕ
text_in (Made text close) = text
text_in (NoMemory close) = fixed_reply fixed.NoMemory close
text_in (Unkept close) = fixed_reply fixed.Keeper close
text_in Stopped = fixed_reply fixed.Stopped true

-- does the connection close after it?
abbrev pub closes_with : Reply → Bool
closes_with (Made text close) = close
closes_with (NoMemory close) = close
closes_with (Unkept close) = close
closes_with Stopped = true

-- does the program stop after it?
abbrev pub stops_with : Reply → Bool
stops_with (Made text close) = false
stops_with (NoMemory close) = false
stops_with (Unkept close) = false
stops_with Stopped = true

-- this text, or want of memory for it
abbrev pub SaysOrLacks : List ℕ → Bool → Reply → Type 0
SaysOrLacks due close (Made text close') = (text ≡ due) × (close' ≡ close)
SaysOrLacks due close (NoMemory close') = close' ≡ close
SaysOrLacks due close (Unkept close') = ⊥
SaysOrLacks due close Stopped = ⊥

-- the reply to a request that has no route; where there was no memory to find one, the connection closes
abbrev pub RefusesRoute : RouteRefusal → Bool → Reply → Type 0
RefusesRoute refusals.NotFound close reply = SaysOrLacks (fixed_reply fixed.NotFound close) close reply
RefusesRoute (refusals.NotAllowed method) close reply = SaysOrLacks (response (fixed_status fixed.MethodNotAllowed) (Some method) close (fixed_text fixed.MethodNotAllowed)) close reply
RefusesRoute refusals.NoMemory close reply = reply ≡ NoMemory true
