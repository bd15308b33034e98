-- The names that a run asks for are a front of those that its course asks for in turn.
use Rattle.std.proofs.Common.{◌≡◌, ◌∙◌, ap, refl, ℕ, zero, suc, Bool, true, false, cond, List, [], ◌∷◌, ◌++◌, take, None, IsSome}
use Rattle.std.proofs.lemmas.List.{map-append}
use Rattle.std.proofs.lemmas.Slice.Eq.{bytes_eq-Decides}
use Rattle.wb_base.specs.Names.{same_name}
use Rattle.wb_outer.specs.declared.shelf.Call.{Call}
use Rattle.wb_program.specs.declared.answer.Answer.{Answer}
use Rattle.wb_program.specs.Course.{Course, gives, stops, asks, ◌>>=◌, after}
use Rattle.wb_outer.specs.Shelf.{names_of}
use Rattle.wb_program.specs.Asked.{AsksInTurn, AsksFront}

pub stops_anywhere : (B : Type 0) (names : List (List ℕ)) (answer : Answer) → AsksInTurn {A = B} names (stops answer)
stops_anywhere B [] answer = tt
stops_anywhere B (name ∷ names) answer = tt

-- a first step asks for its names, and the next for its own
pub turns_then : {A B : Type 0} (names more : List (List ℕ)) (course : Course A) (f : A → Course B) → AsksInTurn names course → ((x : A) → AsksInTurn more (f x)) → AsksInTurn (names ++ more) (course >>= f)
unfolding ◌>>=◌
turns_then [] more (gives x) f h next = next x
turns_then (name ∷ names) more (gives x) f h next = absurd h
turns_then {A} {B} [] more (stops answer) f h next = stops_anywhere B more answer
turns_then (name ∷ names) more (stops answer) f h next = tt
turns_then [] more (asks name go_on) f h next = absurd h
turns_then (first ∷ names) more (asks name go_on) f h next = (h.0, λ taken. turns_then names more (go_on taken) f (h.1 taken) next)

pub front_asked : {A : Type 0} (names : List (List ℕ)) (course : Course A) (calls : List Call) → AsksInTurn names course → IsSome (after course calls) → (k : ℕ) × (names_of calls ≡ take k names)
front_asked names course [] h is = (zero, refl)
front_asked names (gives x) (call ∷ calls) h is = cc
front_asked names (stops answer) (call ∷ calls) h is = cc
front_asked [] (asks name next) (call ∷ calls) h is = absurd h
front_asked (first ∷ names) (asks name next) (call ∷ calls) h is = by (same_name call.name name) refl (front_asked names (next call.answer) calls (h.1 call.answer)) is
  where
    by : (b : Bool) → same_name call.name name ≡ b → (IsSome (after (next call.answer) calls) → (k : ℕ) × (names_of calls ≡ take k names))
        → IsSome (cond b (after (next call.answer) calls) None) → (k : ℕ) × (call.name ∷ names_of calls ≡ take k (first ∷ names))
    by true same rest now =
        let others = rest now in
        let own : call.name ≡ first = (bytes_eq-Decides call.name name).0 same ∙ h.0 in
        (suc others.0, ap (λ n. n ∷ names_of calls) own ∙ ap (λ ns. first ∷ ns) others.1)
    by false same rest now = cc

-- the same of what a shelf gave in all
pub front_of : (old new calls : List Call) (names : List (List ℕ)) → new ≡ old ++ calls → ((k : ℕ) × (names_of calls ≡ take k names)) → AsksFront old new names
front_of old new calls names given h = record {
  count = h.0;
  asked = ap names_of given ∙ map-append (λ (c : Call). c.name) old calls ∙ ap (λ ns. names_of old ++ ns) h.1;
}
