-- How a run ends, of what it decides on and what the sink answers.
use Rattle.std.proofs.Common.{◌≡◌, ◌∙◌, sym, ap, subst, refl, ℕ, ◌⊎◌, Bool, true, false, List, Option, Some, None, IsSome, IfSome, IfOk, [], Result, Ok, Err, inl, inr}
use Rattle.wb_base.specs.Options as options
use Rattle.wb_outer.specs.Faults.{Rose}
use Rattle.wb_outer.specs.declared.shelf.Call.{Call}
use Rattle.wb_outer.specs.Shelf.{ShelfTold}
use Rattle.wb_outer.specs.Sink.{SinkTold}
use Rattle.wb_program.specs.declared.status.Status.{Status}
use Rattle.wb_program.specs.declared.status.Status.TheVariants.{ShelfFault, SinkFault, KeeperFault, DoorFault, NoMemory}
use Rattle.wb_program.specs.declared.answer.Answer.{Answer}
use Rattle.wb_program.specs.declared.answer.Ending.{Ending}
use Rattle.wb_program.specs.declared.answer.Ending.TheVariants as ending
use Rattle.wb_program.specs.Course.{Course, stops, after, answered, play}
use Rattle.wb_program.specs.Files.{Files, answer_over}
use Rattle.wb_program.specs.Causes.{IsCaused, HasCauses, some_failed}
use Rattle.wb_program.specs.Asked.{AsksInTurn, AsksFront}
use Rattle.wb_program.specs.Steps.{AreOf, Reaches, Went}
use Rattle.wb_program.specs.Runs.{IsPrinted, IsPlayed, Settles, Concludes, IsDecision, Runs, IsOfFiles}
use Rattle.wb_program.proofs.CausedAnswers.{AnswerCaused, play_caused}
use Rattle.wb_program.proofs.AskedNames.{front_asked, front_of}
use Rattle.wb_program.proofs.OverFiles.{play_over}
use Rattle.wb_program.proofs.Gifts.{gave_nothing}

-- ---- what a run decides on

concluded : {E : Type 0} (course : Course Answer) (calls : List Call) (step : Result Answer Ending) (result : Result Answer E) → Reaches step (after course calls) → Settles step result → Concludes (after course calls) (play course calls) result
concluded course calls (Ok answer) (Ok given) h is = ap (λ left. options.◌>>=◌ left answered) h ∙ (let same : given ≡ answer = cc in ap Some (sym same))
concluded course calls (Ok answer) (Err e) h is = cc
concluded course calls (Err (ending.Answer answer)) (Ok given) h is = ap (λ left. options.◌>>=◌ left answered) h ∙ (let same : given ≡ answer = cc in ap Some (sym same))
concluded course calls (Err (ending.Answer answer)) (Err e) h is = cc
concluded course calls (Err ending.NoMemory) (Ok given) h is = cc
concluded course calls (Err ending.NoMemory) (Err e) h is = h

pub decided : {E : Type 0} (course : Course Answer) (step : Result Answer Ending) (result : Result Answer E) (old new : ShelfTold) → Went step course old new → Settles step result → IsDecision result course old new
decided course step result old new h is = record { calls = h.calls; gave = h.gave; concludes = concluded course h.calls step result h.reaches is }

-- a run that stops at once
stopped_at_once : {E : Type 0} (answer : Answer) (result : Result Answer E) → IfOk result (λ given. given ≡ answer) → Concludes (Some (stops answer)) (Some answer) result
stopped_at_once answer (Ok given) h = ap Some (sym h)
stopped_at_once answer (Err e) h = refl

pub decided_at_once : {E : Type 0} (answer : Answer) (result : Result Answer E) (told : ShelfTold) → IfOk result (λ given. given ≡ answer) → IsDecision result (stops answer) told told
decided_at_once answer result told h = record { calls = []; gave = gave_nothing told; concludes = stopped_at_once answer result h }

-- ---- how it ends

bind_some : {A B : Type 0} (o : Option A) (f : A → Option B) (y : B) → options.◌>>=◌ o f ≡ Some y → IsSome o
bind_some (Some x) f y h = refl
bind_some None f y h = cc

sink_is_not_memory : (status : Status) → status ≡ SinkFault → status ≡ NoMemory → ⊥
sink_is_not_memory status sink memory = let e : SinkFault ≡ NoMemory = sym sink ∙ memory in cc

printed_has_memory : (failed : Bool) (answer : Answer) (status : Status) (old new : SinkTold) → IsCaused failed answer.status → IsPrinted answer status old new → status ≡ NoMemory → ⊥
printed_has_memory failed answer status old new h (inl p) is = subst (IsCaused failed) (sym p.ended ∙ is) h
printed_has_memory failed answer status old new h (inr f) is = sink_is_not_memory status f.ended is

pub ran : {E : Type 0} (course : Course Answer) (answer : Answer) (status : Status) (shelf_old shelf_new : ShelfTold) (sink_old sink_new : SinkTold)
    → HasCauses AnswerCaused false course → IsDecision {E = E} (Ok answer) course shelf_old shelf_new → IsPrinted answer status sink_old sink_new
    → Runs course status shelf_old shelf_new sink_old sink_new
ran course answer status shelf_old shelf_new sink_old sink_new causes h printed = record {
  calls = h.calls;
  gave = h.gave;
  along = bind_some (after course h.calls) answered answer h.concludes;
  printed = λ _. subst (λ o. IsPlayed o status sink_old sink_new) (sym h.concludes) printed;
  memory = λ is. absurd (printed_has_memory (some_failed h.calls) answer status sink_old sink_new (play_caused course false h.calls answer causes h.concludes) printed is);
}

pub ran_out : {E : Type 0} (e : E) (course : Course Answer) (shelf_old shelf_new : ShelfTold) (sink : SinkTold)
    → IsDecision (Err e) course shelf_old shelf_new → Runs course NoMemory shelf_old shelf_new sink sink
ran_out e course shelf_old shelf_new sink h = record {
  calls = h.calls;
  gave = h.gave;
  along = h.concludes;
  printed = λ no. absurd (no refl);
  memory = λ _. refl;
}

-- ---- what follows of a run

-- its status is that of an answer with its cause, or a fault of the sink
abbrev pub IsEnd : Bool → Status → SinkTold → SinkTold → Type 0
IsEnd failed status old new = IsCaused failed status ⊎ ((status ≡ SinkFault) × Rose old.faults new.faults)

end_played : (failed : Bool) (o : Option Answer) (status : Status) (old new : SinkTold) → ((answer : Answer) → o ≡ Some answer → IsCaused failed answer.status) → IsPlayed o status old new → IsEnd failed status old new
end_played failed None status old new caused played = absurd played
end_played failed (Some answer) status old new caused (inl p) = inl (subst (IsCaused failed) (sym p.ended) (caused answer refl))
end_played failed (Some answer) status old new caused (inr f) = inr (f.ended, f.rose)

module _ (course : Course Answer) (status : Status) (shelf_old shelf_new : ShelfTold) (sink_old sink_new : SinkTold) (causes : HasCauses AnswerCaused false course) where
  end_of : (h : Runs course status shelf_old shelf_new sink_old sink_new) → ¬ (status ≡ NoMemory) → IsEnd (some_failed h.calls) status sink_old sink_new
  end_of h has_memory = end_played (some_failed h.calls) (play course h.calls) status sink_old sink_new (λ answer is. play_caused course false h.calls answer causes is) (h.printed has_memory)

  shelf_fault_in : (failed : Bool) → (failed ≡ true → Rose shelf_old.faults shelf_new.faults) → status ≡ ShelfFault → IsEnd failed status sink_old sink_new → Rose shelf_old.faults shelf_new.faults
  shelf_fault_in failed rose is (inl caused) = rose (subst (IsCaused failed) is caused)
  shelf_fault_in failed rose is (inr f) = absurd (let e : SinkFault ≡ ShelfFault = sym f.0 ∙ is in cc)

  pub shelf_fault_of : Runs course status shelf_old shelf_new sink_old sink_new → status ≡ ShelfFault → Rose shelf_old.faults shelf_new.faults
  shelf_fault_of h is = shelf_fault_in (some_failed h.calls) h.gave.failed is (end_of h (λ memory. let e : ShelfFault ≡ NoMemory = sym is ∙ memory in cc))

  sink_fault_in : (failed : Bool) → status ≡ SinkFault → IsEnd failed status sink_old sink_new → Rose sink_old.faults sink_new.faults
  sink_fault_in failed is (inl caused) = absurd (subst (IsCaused failed) is caused)
  sink_fault_in failed is (inr f) = f.1

  pub sink_fault_of : Runs course status shelf_old shelf_new sink_old sink_new → status ≡ SinkFault → Rose sink_old.faults sink_new.faults
  sink_fault_of h is = sink_fault_in (some_failed h.calls) is (end_of h (sink_is_not_memory status is))

  undecided : (failed : Bool) (s : Status) → (IsCaused failed s → ⊥) → ¬ (SinkFault ≡ s) → status ≡ s → IsEnd failed status sink_old sink_new → ⊥
  undecided failed s none other is (inl caused) = none (subst (IsCaused failed) is caused)
  undecided failed s none other is (inr f) = other (sym f.0 ∙ is)

  -- no run ends so that asks for no connections
  pub no_keeper_fault : Runs course status shelf_old shelf_new sink_old sink_new → status ≡ KeeperFault → ⊥
  no_keeper_fault h is = undecided (some_failed h.calls) KeeperFault (λ c. c) (λ (e : SinkFault ≡ KeeperFault). cc) is (end_of h (λ memory. let e : KeeperFault ≡ NoMemory = sym is ∙ memory in cc))

  pub no_door_fault : Runs course status shelf_old shelf_new sink_old sink_new → status ≡ DoorFault → ⊥
  no_door_fault h is = undecided (some_failed h.calls) DoorFault (λ c. c) (λ (e : SinkFault ≡ DoorFault). cc) is (end_of h (λ memory. let e : DoorFault ≡ NoMemory = sym is ∙ memory in cc))

-- ---- over files

calm_calls : (b : Bool) (before now : ℕ) → (b ≡ true → Rose before now) → ¬ (Rose before now) → b ≡ false
calm_calls true before now rose calm = absurd (calm (rose refl))
calm_calls false before now rose calm = refl

played_over : (files : Files) (course : Course Answer) (status : Status) (old new : SinkTold) (o : Option Answer) → ((answer : Answer) → o ≡ Some answer → answer ≡ answer_over files course) → IsPlayed o status old new → IsPrinted (answer_over files course) status old new
played_over files course status old new None same played = absurd played
played_over files course status old new (Some answer) same played = subst (λ a. IsPrinted a status old new) (same answer refl) played

module _ (course : Course Answer) (status : Status) (shelf_old shelf_new : ShelfTold) (sink_old sink_new : SinkTold) (h : Runs course status shelf_old shelf_new sink_old sink_new) where
  over : (files : Option Files) → IfSome files (λ told. AreOf told h.calls) → IfSome files (IsOfFiles (λ told. answer_over told course) status shelf_old shelf_new sink_old sink_new)
  over None told = tt
  over (Some files) told = λ calm has_memory.
      played_over files course status sink_old sink_new (play course h.calls)
      (λ answer is. play_over files course h.calls answer told (calm_calls (some_failed h.calls) shelf_old.faults shelf_new.faults h.gave.failed calm) is) (h.printed has_memory)

  pub files_of_run : IfSome shelf_old.files (IsOfFiles (λ told. answer_over told course) status shelf_old shelf_new sink_old sink_new)
  files_of_run = over shelf_old.files h.gave.told

  pub asked_of_run : (names : List (List ℕ)) → AsksInTurn names course → AsksFront shelf_old.given shelf_new.given names
  asked_of_run names turns = front_of shelf_old.given shelf_new.given h.calls names h.gave.given (front_asked names course h.calls turns h.along)
