-- Requests are answered by their routes.
use Rattle.std.proofs.Common.{◌≡◌, refl, ◌∙◌, sym, ap, subst, ◌≤◌, ℕ, ◌||◌, Bool, true, false, List, Result, Ok, Err, inl, arith}
use Rattle.wb_base.specs.Answering.{IsRefusal}
use Rattle.wb_http.specs.declared.refusals.HttpRefusal.{HttpRefusal}
use Rattle.wb_http.specs.declared.replies.FixedReply.TheVariants as fixed
use Rattle.wb_http.specs.declared.requests.Request.{Request}
use Rattle.wb_http.specs.declared.requests.RequestEnd.{RequestEnd}
use Rattle.wb_http.specs.declared.requests.RequestEnd.TheVariants as read
use Rattle.wb_http.specs.declared.routes.Route.{Route}
use Rattle.wb_http.specs.declared.routes.Route.TheVariants.{Diagram, Element, Model, Command, Stop}
use Rattle.wb_http.specs.declared.routes.RouteRefusal.{RouteRefusal}
use Rattle.wb_http.specs.declared.routes.RouteRefusal.TheVariants as refusals
use Rattle.wb_http.specs.Routes.{route_of, refusal_of}
use Rattle.wb_outer.specs.Faults.{Rose}
use Rattle.wb_serving.specs.declared.replies.Reply.{Reply}
use Rattle.wb_serving.specs.declared.replies.Reply.TheVariants as reply
use Rattle.wb_serving.specs.declared.turn.Response.{Response}
use Rattle.wb_serving.specs.declared.turn.Response.TheVariants.{Say, Quit}
use Rattle.wb_serving.specs.Machines.{Law, MachineTold, text_of}
use Rattle.wb_serving.specs.Turns.{Replied, Refused, NoRoom, NoRoomReading, Unkept, route_for, outcome_at, outcome, is_stop, closes, fixed_reply, text, after}
use Rattle.wb_serving.specs.Counts.{IsRiseOf}
use Rattle.wb_serving.specs.Replies.{text_in, closes_with, stops_with, SaysOrLacks, RefusesRoute}
use Rattle.wb_serving.specs.Responses.{RepliesAt, IsReplyOf, Replies, Responds, Refuses}

-- the count rose
pub rise_of_one : (a b : ℕ) → Rose a b → IsRiseOf 1 a b
rise_of_one a b rose = grind (arith, rose)

rise_of_none : (a b : ℕ) → a ≤ b → IsRiseOf 0 a b
rise_of_none a b le = inl (omega (arith, le))

stop_is : (route : Route) → is_stop (Ok route) ≡ true → route ≡ Stop
stop_is Diagram is = cc
stop_is (Element key) is = cc
stop_is Model is = cc
stop_is Command is = cc
stop_is Stop is = refl

module _ {S : Type 0} (law : Law S) (m m' : MachineTold S) where
  -- what is no request to stop is answered by the machine
  asked : (s : S) (body : List ℕ) (route : Route) → (route ≡ Stop → ⊥) → (outcome_at law s body (Ok route) ≡ law.reply s route body) × (is_stop (Ok route) ≡ false)
  asked s body Diagram not = (refl, refl)
  asked s body (Element key) not = (refl, refl)
  asked s body Model not = (refl, refl)
  asked s body Command not = (refl, refl)
  asked s body Stop not = absurd (not refl)

  pub made_at : (body given : List ℕ) (close : Bool) (route : Route) → (route ≡ Stop → ⊥) → given ≡ text_of (law.reply m.state route body) close → m'.state ≡ (law.reply m.state route body).after → RepliesAt law m m' body close route (reply.Made given close)
  made_at body given close route not made state =
      let is = asked m.state body route not in
      (made ∙ ap (λ o. text_of o close) (sym is.0), refl, is.1, state ∙ ap (λ o. o.after) (sym is.0))

module _ {S : Type 0} (law : Law S) (q : Request) (last : Bool) where
  -- a request that is none to stop closes the connection where it asks for it, or is the last one
  closes_as : (r : Result Route RouteRefusal) → route_for q ≡ r → is_stop r ≡ false → closes q last ≡ (q.close || last)
  closes_as r is none = ap (λ b. b || (q.close || last)) (ap is_stop is ∙ none)

  text_as : (s : S) (r : Result Route RouteRefusal) → route_for q ≡ r → is_stop r ≡ false → text_of (outcome_at law s q.body r) (q.close || last) ≡ text law s last (Replied q)
  text_as s r is none = ap (λ r'. text_of (outcome_at law s q.body r') (q.close || last)) (sym is) ∙ ap (λ c. text_of (outcome law s q) c) (sym (closes_as r is none))

  after_as : (s : S) (r : Result Route RouteRefusal) → route_for q ≡ r → (outcome_at law s q.body r).after ≡ after law s (Replied q)
  after_as s r is = ap (λ r'. (outcome_at law s q.body r').after) (sym is)

  pub same_route : (method target : List ℕ) → method ≡ q.method → target ≡ q.target → route_of method target ≡ route_for q
  same_route method target is is' = ap (λ m. route_of m target) is ∙ ap (λ t. route_of q.method t) is'

  -- the reply that is due
  replied : (s s' : S) (r : Result Route RouteRefusal) (given : List ℕ) (close : Bool) → route_for q ≡ r → is_stop r ≡ false → given ≡ text_of (outcome_at law s q.body r) (q.close || last) → close ≡ (q.close || last) → s' ≡ (outcome_at law s q.body r).after → IsReplyOf law s s' last (Replied q) (reply.Made given close)
  replied s s' r given close is none made closing state = record {
    text = made ∙ text_as s r is none;
    stops = sym (ap is_stop is ∙ none);
    closes = closing ∙ sym (closes_as r is none);
    state = state ∙ after_as s r is;
  }

  -- want of memory for it
  lacked : (s s' : S) (r : Result Route RouteRefusal) (close : Bool) → route_for q ≡ r → is_stop r ≡ false → close ≡ (q.close || last) → s' ≡ s → IsReplyOf law s s' last (NoRoom q) (reply.NoMemory close)
  lacked s s' r close is none closing state =
      let closes_is = closing ∙ sym (closes_as r is none) in
      record { text = ap (λ c. fixed_reply fixed.NoMemory c) closes_is; stops = refl; closes = closes_is; state = state }

  pub by_route : (m m' : MachineTold S) (route : Route) (made : Reply) → route_for q ≡ Ok route → m.faults ≤ m'.faults → RepliesAt law m m' q.body (q.close || last) route made → Replies law (Ok q) m m' last made
  by_route m m' route (reply.Made given close) is later by = (Replied q, refl, replied m.state m'.state (Ok route) given close is by.2 by.0 by.1 by.3, rise_of_none m.faults m'.faults later)
  by_route m m' route (reply.NoMemory close) is later by = (NoRoom q, refl, lacked m.state m'.state (Ok route) close is by.1 by.0 by.2, rise_of_none m.faults m'.faults later)
  by_route m m' route (reply.Unkept close) is later by =
      let command : route_for q ≡ Ok Command = is ∙ ap (λ r. Ok r) by.1.0 in
      let closes_is = by.0 ∙ sym (closes_as (Ok Command) command refl) in (
        Unkept q,
        (refl, (command, ap (λ r. (law.reply m.state r q.body).status) (sym by.1.0) ∙ by.1.1)),
        record { text = ap (λ c. fixed_reply fixed.Keeper c) closes_is; stops = refl; closes = closes_is; state = by.2 },
        rise_of_one m.faults m'.faults by.3,
      )
  by_route m m' route reply.Stopped is later by =
      let stop : route_for q ≡ Ok Stop = is ∙ ap (λ r. Ok r) (stop_is route by.0) in (
        Replied q,
        refl,
        record {
          text = sym (ap (λ r. text_of (outcome_at law m.state q.body r) (is_stop r || (q.close || last))) stop);
          stops = sym (ap is_stop stop);
          closes = sym (ap (λ r. is_stop r || (q.close || last)) stop);
          state = by.1 ∙ after_as m.state (Ok Stop) stop;
        },
        rise_of_none m.faults m'.faults later,
      )

  -- the reply of fixed text to what has no route, or want of memory for it
  fixed_by : (m : MachineTold S) (r : Result Route RouteRefusal) (made : Reply) → route_for q ≡ r → is_stop r ≡ false → m.state ≡ (outcome_at law m.state q.body r).after → SaysOrLacks (text_of (outcome_at law m.state q.body r) (q.close || last)) (q.close || last) made → Replies law (Ok q) m m last made
  fixed_by m r (reply.Made given close) is none same says = (Replied q, refl, replied m.state m.state r given close is none says.0 says.1 same, rise_of_none m.faults m.faults (omega arith))
  fixed_by m r (reply.NoMemory close) is none same says = (NoRoom q, refl, lacked m.state m.state r close is none says refl, rise_of_none m.faults m.faults (omega arith))
  fixed_by m r (reply.Unkept close) is none same says = absurd says
  fixed_by m r reply.Stopped is none same says = absurd says

  pub by_refusal : (m : MachineTold S) (refusal : RouteRefusal) (made : Reply) → IsRefusal (refusal_of refusal) (route_for q) → RefusesRoute refusal (q.close || last) made → Replies law (Ok q) m m last made
  by_refusal m refusals.NotFound made is says = fixed_by m (Err refusals.NotFound) made is refl refl says
  by_refusal m (refusals.NotAllowed method) made is says = fixed_by m (Err (refusals.NotAllowed method)) made is refl refl says
  by_refusal m refusals.NoMemory made is says = (NoRoomReading, tt, record { text = ap text_in says; stops = ap stops_with says; closes = ap closes_with says; state = refl }, rise_of_none m.faults m.faults (omega arith))

-- bytes that are refused, and want of memory
module _ {S : Type 0} (law : Law S) (m : MachineTold S) (last : Bool) where
  refused : (refusal : HttpRefusal) (made : Reply) → SaysOrLacks (fixed_reply (fixed.Http refusal) true) true made → Replies law (Err (read.Bad refusal)) m m last made
  refused refusal (reply.Made given close) says = (Refused refusal, refl, record { text = says.0; stops = refl; closes = says.1; state = refl }, rise_of_none m.faults m.faults (omega arith))
  refused refusal (reply.NoMemory close) says = (NoRoomReading, tt, record { text = ap (λ c. fixed_reply fixed.NoMemory c) says; stops = refl; closes = says; state = refl }, rise_of_none m.faults m.faults (omega arith))
  refused refusal (reply.Unkept close) says = absurd says
  refused refusal reply.Stopped says = absurd says

  without_memory : Replies law (Err read.NoMemory) m m last (reply.NoMemory true)
  without_memory = (NoRoomReading, tt, record { text = refl; stops = refl; closes = refl; state = refl }, rise_of_none m.faults m.faults (omega arith))

  pub without : (end : RequestEnd) (response : Response) → Refuses end response → Responds law (Err end) m m last response
  without (read.Bad refusal) (Say made) is = refused refusal made is
  without (read.Bad refusal) (Quit end) is = absurd is
  without read.Ended response is = subst (λ r. Responds law (Err read.Ended) m m last r) (sym is) (refl, refl)
  without read.Failed response is = subst (λ r. Responds law (Err read.Failed) m m last r) (sym is) (refl, refl)
  without read.NoMemory response is = subst (λ r. Responds law (Err read.NoMemory) m m last r) (sym is) without_memory
