-- What is read of the bytes that were read is what all bytes begin with.
use Rattle.std.proofs.Common.{◌≡◌, refl, ◌∙◌, sym, ap, subst, ℕ, List, ◌++◌, Option, None, Some, IfSome, Result, Ok, Err, append_assoc, append-nil}
use Rattle.wb_outer.specs.Door.{DoorTold, ToCome}
use Rattle.wb_http.specs.declared.requests.Request.{Request}
use Rattle.wb_http.specs.declared.requests.RequestEnd.{RequestEnd}
use Rattle.wb_http.specs.declared.requests.RequestEnd.TheVariants as ends
use Rattle.wb_http.specs.Requests.{Takes, Whole, Bad, Short}
use Rattle.wb_http.specs.Reading.{Answers, AnswersAll, CameFrom, IsAtEnd, IsExact, ReadsOne, end_of}
use Rattle.wb_http.proofs.Deciding.{stays_decided}

answers_all : (result : Result Request RequestEnd) (bytes held' rest all : List ℕ) → bytes ++ rest ≡ all → IsAtEnd (end_of result) rest → Answers result bytes held' → AnswersAll result all (held' ++ rest)
answers_all (Ok request) bytes held' rest all is at_end answered = subst (λ b. Takes b (Whole request (held' ++ rest))) is (stays_decided bytes rest (Whole request held') answered tt)
answers_all (Err (ends.Bad refusal)) bytes held' rest all is at_end answered =
    (subst (λ b. Takes b (Bad refusal)) is (stays_decided bytes rest (Bad refusal) answered.0 tt), ap (λ b. b ++ rest) answered.1 ∙ is)
answers_all (Err ends.Ended) bytes held' rest all is at_end answered =
    let whole : bytes ≡ all = sym (append-nil bytes) ∙ ap (λ r. bytes ++ r) (sym at_end) ∙ is in
    (subst (λ b. Takes b Short) whole answered.0, ap (λ b. b ++ rest) answered.1 ∙ is)
answers_all (Err ends.Failed) bytes held' rest all is at_end answered = ap (λ b. b ++ rest) answered.1 ∙ is
answers_all (Err ends.NoMemory) bytes held' rest all is at_end answered = ap (λ b. b ++ rest) answered ∙ is

exact_from : (result : Result Request RequestEnd) (held held' got : List ℕ) (old new : Option ToCome) → IfSome old (λ t. CameFrom (end_of result) t new got) → Answers result (held ++ got) held' → IsExact held held' old new result
exact_from result held held' got None new came answered = tt
exact_from result held held' got (Some t) new came answered =
    let all : (held ++ got) ++ came.0 ≡ held ++ t.here = append_assoc held got came.0 ∙ ap (λ b. held ++ b) (sym came.1) in
    let after : ToCome = record { here = came.0; waiting = t.waiting } in
    (after, came.2, refl, answers_all result (held ++ got) held' came.0 (held ++ t.here) all came.3 answered)

pub exactly : (result : Result Request RequestEnd) (held held' : List ℕ) (old new : DoorTold) → ReadsOne held held' old new result → IsExact held held' old.to_come new.to_come result
exactly result held held' old new reads = exact_from result held held' reads.got old.to_come new.to_come reads.gives.to_come reads.answered
