-- What a machine answers to requests of routes, and what it tells.
use Rattle.std.specs.Prelude.{◌≡◌, ℕ, ◌≤◌, Bool, List, Option, Some}
use Rattle.wb_outer.specs.Faults.{Rose}
use Rattle.wb_outer.specs.declared.keeper.Row.{Row}
use Rattle.wb_http.specs.declared.routes.Route.{Route}
use Rattle.wb_http.specs.declared.routes.Route.TheVariants.{Command}
use Rattle.wb_http.specs.Replies.{response}
use Rattle.wb_serving.specs.declared.machine.Answer.{Answer}
use Rattle.wb_serving.specs.declared.machine.Answer.TheVariants.{Made, NoMemory, Unkept}

-- what a request is answered: the status, the method that is allowed where another one was asked, the body; and the
-- state afterwards
pub record Outcome (S : Type 0) : Type 0 where
  pub status : ℕ
  pub allow : Option (List ℕ)
  pub body : List ℕ
  pub after : S

-- the law of a machine: what it answers to a route and a body, and the rows that are kept of a state
pub record Law (S : Type 0) : Type 0 where
  pub reply : S → Route → List ℕ → Outcome S
  pub rows_of : S → List Row

-- what a machine tells: its state, the rows of its keeper where they are told, and the keeper's count of faults
pub record MachineTold (S : Type 0) : Type 0 where
  pub state : S
  pub rows : Option (List Row)
  pub faults : ℕ

-- the bytes of a reply
abbrev pub text_of : {S : Type 0} → Outcome S → Bool → List ℕ
text_of outcome close = response outcome.status outcome.allow close outcome.body

-- a command is accepted exactly where its reply has this status
abbrev pub is_fine : ℕ
is_fine = 200

-- a command that is accepted
abbrev pub IsAccepted : {S : Type 0} → Law S → S → Route → List ℕ → Type 0
IsAccepted law s route body = (route ≡ Command) × ((law.reply s route body).status ≡ is_fine)

-- the whole reply, and the state after it; or the state as before, for want of memory, or since a command that is
-- accepted could not be kept
abbrev pub AnswersBy : {S : Type 0} → Law S → S → S → Route → List ℕ → Bool → Answer → Type 0
AnswersBy law s s' route body close (Made text) = (text ≡ text_of (law.reply s route body) close) × (s' ≡ (law.reply s route body).after)
AnswersBy law s s' route body close NoMemory = s' ≡ s
AnswersBy law s s' route body close Unkept = (s' ≡ s) × IsAccepted law s route body

-- rows that are those of the state stay so, and the count never falls
pub record Keeps {S : Type 0} (law : Law S) (old new : MachineTold S) : Type 0 where
  pub rows : old.rows ≡ Some (law.rows_of old.state) → new.rows ≡ Some (law.rows_of new.state)
  pub later : old.faults ≤ new.faults

-- a request was answered
pub record Answers {S : Type 0} (law : Law S) (old new : MachineTold S) (route : Route) (body : List ℕ) (close : Bool) (answer : Answer) : Type 0 where
  pub answered : AnswersBy law old.state new.state route body close answer
  pub keeps : Keeps law old new
  pub failed : answer ≡ Unkept → Rose old.faults new.faults
