-- Laws of courses: what is left of a step and the next one, after calls.
use Rattle.std.proofs.Common.{◌≡◌, ap, refl, Bool, true, false, cond, List, [], ◌∷◌, ◌++◌, Some, None, IsSome}
use Rattle.wb_base.specs.Names.{same_name}
use Rattle.wb_outer.specs.declared.shelf.Call.{Call}
use Rattle.wb_program.specs.declared.answer.Answer.{Answer}
use Rattle.wb_program.specs.Course.{Course, gives, stops, asks, ◌>>=◌, after}

-- where a first step stops, the whole stops with its answer
pub after_stops : {A B : Type 0} (course : Course A) (f : A → Course B) (calls : List Call) (answer : Answer) → after course calls ≡ Some (stops answer) → after (course >>= f) calls ≡ Some (stops answer)
unfolding ◌>>=◌
after_stops (gives x) f [] answer h = cc
after_stops (stops given) f [] answer h = let same : given ≡ answer = cc in ap (λ a. Some (stops a)) same
after_stops (asks name next) f [] answer h = cc
after_stops (gives x) f (call ∷ calls) answer h = cc
after_stops (stops given) f (call ∷ calls) answer h = cc
after_stops {A} {B} (asks name next) f (call ∷ calls) answer h = by (same_name call.name name) (after_stops (next call.answer) f calls answer) h
  where
    by : (b : Bool) → (after (next call.answer) calls ≡ Some (stops answer) → after (next call.answer >>= f) calls ≡ Some (stops answer)) → cond b (after (next call.answer) calls) None ≡ Some (stops answer) → cond b (after (next call.answer >>= f) calls) None ≡ Some (stops answer)
    by true rest is = rest is
    by false rest is = cc

-- where a first step is on its way, the whole is
pub after_some : {A B : Type 0} (course : Course A) (f : A → Course B) (calls : List Call) → IsSome (after course calls) → IsSome (after (course >>= f) calls)
unfolding ◌>>=◌
after_some course f [] h = refl
after_some (gives x) f (call ∷ calls) h = cc
after_some (stops given) f (call ∷ calls) h = cc
after_some {A} {B} (asks name next) f (call ∷ calls) h = by (same_name call.name name) (after_some (next call.answer) f calls) h
  where
    by : (b : Bool) → (IsSome (after (next call.answer) calls) → IsSome (after (next call.answer >>= f) calls)) → IsSome (cond b (after (next call.answer) calls) None) → IsSome (cond b (after (next call.answer >>= f) calls) None)
    by true rest is = rest is
    by false rest is = cc

-- where a first step gives a value, what follows is left of the next step with it
pub after_gives : {A B : Type 0} (course : Course A) (f : A → Course B) (calls more : List Call) (x : A) → after course calls ≡ Some (gives x) → after (course >>= f) (calls ++ more) ≡ after (f x) more
unfolding ◌>>=◌
after_gives (gives y) f [] more x h = let same : y ≡ x = cc in ap (λ z. after (f z) more) same
after_gives (stops given) f [] more x h = cc
after_gives (asks name next) f [] more x h = cc
after_gives (gives y) f (call ∷ calls) more x h = cc
after_gives (stops given) f (call ∷ calls) more x h = cc
after_gives {A} {B} (asks name next) f (call ∷ calls) more x h = by (same_name call.name name) (after_gives (next call.answer) f calls more x) h
  where
    by : (b : Bool) → (after (next call.answer) calls ≡ Some (gives x) → after (next call.answer >>= f) (calls ++ more) ≡ after (f x) more) → cond b (after (next call.answer) calls) None ≡ Some (gives x) → cond b (after (next call.answer >>= f) (calls ++ more)) None ≡ after (f x) more
    by true rest is = rest is
    by false rest is = cc
