-- What a command answers, after the answers of its steps.
use Rattle.std.proofs.Common.{◌≡◌, ◌∙◌, Result, Ok, Err, IsErrAnd, refl, sym, ap, subst}
use Rattle.std.specs.Prelude.{⊤}
use Rattle.wb_base.specs.Answering.{IsRefusal}
use Rattle.wb_base.specs.Results.{◌>>=◌}
use Rattle.wb_base.proofs.Answered.{answered_first, answered_then}
use Rattle.wb_diagram.specs.declared.commands.Command.{Command}
use Rattle.wb_refresh.specs.Outcomes.{Gives as Outcomes}
use Rattle.wb_session.specs.declared.accepted.Accepted.{Accepted}
use Rattle.wb_session.specs.declared.refusal.Refusal.{Refusal}
use Rattle.wb_session.specs.declared.refusal.Refusal.TheVariants as r
use Rattle.wb_session.specs.Answering.{Answers, Gives, named}
use Rattle.wb_session.specs.States.{State}
use Rattle.wb_session.specs.Steps.{Stepped, current, stands, step, stepped}
use Rattle.wb_session.specs.Tries.{Tried, tried}

-- a refusal names itself, unless it is want of memory
names_itself : (A : Type 0) (e : Refusal) → IsRefusal {A = A} (named e) (Err e)
names_itself A r.NoMemory = tt
names_itself A r.Stale = refl
names_itself A r.RevisionsSpent = refl
names_itself A r.UnknownObject = refl
names_itself A r.UnknownClass = refl
names_itself A r.UnknownFeature = refl
names_itself A r.UnknownTool = refl
names_itself A r.BadArguments = refl
names_itself A r.UnknownElement = refl
names_itself A r.UnknownLayer = refl
names_itself A r.UnknownFilter = refl
names_itself A r.NotPlaceable = refl
names_itself A r.PositionOutOfRange = refl
names_itself A r.NotUnsynchronised = refl
names_itself A r.NotCandidate = refl
names_itself A r.NothingToUndo = refl
names_itself A r.NothingToRedo = refl
names_itself A (r.Tool refusal) = refl
names_itself A (r.Edit refusal) = refl
names_itself A r.RootRemoved = refl
names_itself A r.DiagramTooLarge = refl

pub exactly : {A : Type 0} (e : Refusal) (given : Result A Refusal) → Err e ≡ given → IsRefusal (named e) given
exactly {A} e given is = subst (IsRefusal (named e)) is (names_itself A e)

pub answers_refusal : (given : Result Stepped Refusal) (result : Result Accepted Refusal) (e : Refusal) (s : State) → IsErrAnd result (λ other. other ≡ e) → IsRefusal (named e) given → Answers given result s s
answers_refusal given (Ok x) e s is h = absurd is
answers_refusal given (Err other) e s is h = (subst (λ (y : Refusal). IsRefusal (named y) given) (sym is) h, refl)

pub gives_refusal : {A B : Type 0} (view : B → A) (given : Result A Refusal) (result : Result B Refusal) (e : Refusal) → IsErrAnd result (λ other. other ≡ e) → IsRefusal (named e) given → Gives view given result
gives_refusal view given (Ok x) e is h = absurd is
gives_refusal view given (Err other) e is h = subst (λ (y : Refusal). IsRefusal (named y) given) (sym is) h

module _ (gives : Outcomes) (s : State) (command : Command) where
  abbrev last : Tried → Result Stepped Refusal
  last a = stands gives s.spec s.root a >>= (λ (_ : ⊤). Ok (stepped gives s a))

  abbrev rest : ⊤ → Result Stepped Refusal
  rest _ = tried gives s command.action >>= last

  pub stopped_first : (e : Refusal) → IsRefusal (named e) (current s command.revision) → IsRefusal (named e) (step gives s command)
  unfolding step
  stopped_first e h = answered_first named (current s command.revision) rest e h

  pub stopped_tried : (e : Refusal) → current s command.revision ≡ Ok tt → IsRefusal (named e) (tried gives s command.action) → IsRefusal (named e) (step gives s command)
  unfolding step
  stopped_tried e now h = answered_then {E = Refusal} named (current s command.revision) rest tt (Err e) now (answered_first named (tried gives s command.action) last e h)

  pub stopped_standing : (e : Refusal) (a : Tried) → current s command.revision ≡ Ok tt → tried gives s command.action ≡ Ok a → IsRefusal (named e) (stands gives s.spec s.root a) → IsRefusal (named e) (step gives s command)
  unfolding step
  stopped_standing e a now is h =
      answered_then {E = Refusal} named (current s command.revision) rest tt (Err e) now
      (answered_then {E = Refusal} named (tried gives s command.action) last a (Err e) is
      (answered_first named (stands gives s.spec s.root a) (λ (_ : ⊤). let x : Result Stepped Refusal = Ok (stepped gives s a) in x) e h))

  pub went : (a : Tried) → current s command.revision ≡ Ok tt → tried gives s command.action ≡ Ok a → stands gives s.spec s.root a ≡ Ok tt → step gives s command ≡ Ok (stepped gives s a)
  unfolding step
  went a now is there =
      ap (λ (x : Result ⊤ Refusal). x >>= rest) now
      ∙ (ap (λ (x : Result Tried Refusal). x >>= last) is
      ∙ ap (λ (x : Result ⊤ Refusal). x >>= (λ (_ : ⊤). let y : Result Stepped Refusal = Ok (stepped gives s a) in y)) there)
