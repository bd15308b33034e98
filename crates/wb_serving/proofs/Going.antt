-- Turns, one after another.
use Rattle.std.proofs.Common.{inl, inr, ◌≡◌, refl, ◌∙◌, sym, ap, subst, ℕ, ◌+◌, ◌≤◌, ◌<◌, false, List, [], ◌∷◌, ◌++◌, length, Option, None, Some, append_assoc, append-nil, length-append, arith}
use Rattle.std.proofs.lemmas.Bool.Decides.{nat_tests}
use Rattle.wb_outer.specs.Door.{Connection, DoorTold, ToCome, fresh}
use Rattle.wb_http.specs.Requests.{Whole, Bad}
use Rattle.wb_http.proofs.Deciding.{stays_decided}
use Rattle.wb_serving.specs.declared.ends.End.{End}
use Rattle.wb_serving.specs.Machines.{Law, MachineTold, Keeps}
use Rattle.wb_serving.specs.Turns.{turn_limit, Turn, Replied, Refused, NoRoom, NoRoomReading, Unkept, is_last, text, after, end_after, TakesIn}
use Rattle.wb_serving.specs.Counts.{IsRiseOf, unkept_in, unkept_among, unkept_last}
use Rattle.wb_serving.specs.Talk.{Goes, state_after, texts, Ends}
use Rattle.wb_serving.specs.Responses.{Leaves, TurnOn, TakesTurn}
use Rattle.wb_serving.specs.Connections.{Visit, Served, IsServed, Went, IsGoing}

-- ---- what is left of the bytes

pub left_in : Option ToCome → List ℕ
left_in None = []
left_in (Some to_come) = to_come.here

leaves_none : (old : Option ToCome) → Leaves old old [] (left_in old)
unfolding left_in
leaves_none None = tt
leaves_none (Some to_come) = (refl, refl)

leaves_on : (old mid new : Option ToCome) (x y l l' : List ℕ) → Leaves old mid x l → Leaves mid new y l' → Leaves old new (x ++ y) l'
leaves_on None mid new x y l l' first second = tt
leaves_on (Some to_come) mid new x y l l' first second =
    let then = subst (λ (o : Option ToCome). Leaves o new y l') first.1 second in
    (first.0 ∙ ap (λ b. x ++ b) then.0 ∙ sym (append_assoc x y l'), then.1)

-- ---- more bytes come

-- a turn that leaves the connection open takes the same of more bytes
takes_more : {S : Type 0} (law : Law S) (t : Turn) (s : S) (bytes rest more : List ℕ) → TakesIn law s t bytes rest → TakesIn law s t (bytes ++ more) (rest ++ more)
takes_more law (Replied q) s bytes rest more takes = stays_decided bytes more (Whole q rest) takes tt
takes_more law (Refused refusal) s bytes rest more takes = (stays_decided bytes more (Bad refusal) takes.0 tt, ap (λ b. b ++ more) takes.1)
takes_more law (NoRoom q) s bytes rest more takes = stays_decided bytes more (Whole q rest) takes tt
takes_more law NoRoomReading s bytes rest more takes = ap (λ b. b ++ more) takes
takes_more law (Unkept q) s bytes rest more takes = (stays_decided bytes more (Whole q rest) takes.0 tt, takes.1)

goes_more : {S : Type 0} (law : Law S) (ts : List Turn) (k : ℕ) (s : S) (bytes rest more : List ℕ) → Goes law ts k s bytes rest → Goes law ts k s (bytes ++ more) (rest ++ more)
goes_more law [] k s bytes rest more goes = ap (λ b. b ++ more) goes
goes_more law (t ∷ ts) k s bytes rest more goes = (goes.0 ++ more, takes_more law t s bytes goes.0 more goes.1, goes.2, goes_more law ts (k + 1) (after law s t) goes.0 rest more goes.3)

-- ---- one turn more

goes_on : {S : Type 0} (law : Law S) (ts : List Turn) (k : ℕ) (s : S) (bytes rest rest' : List ℕ) (t : Turn) (n : ℕ) → n ≡ length ts + k → Goes law ts k s bytes rest → TakesIn law (state_after law ts s) t rest rest' → end_after (is_last n) t ≡ None → Goes law (ts ++ t ∷ []) k s bytes rest'
goes_on law [] k s bytes rest rest' t n is goes takes stays = (rest', subst (λ b. TakesIn law s t b rest') goes takes, subst (λ m. end_after (is_last m) t ≡ None) (is ∙ omega arith) stays, refl)
goes_on law (u ∷ ts) k s bytes rest rest' t n is goes takes stays = (goes.0, goes.1, goes.2, goes_on law ts (k + 1) (after law s u) goes.0 rest rest' t n (is ∙ omega arith) goes.3 takes stays)

state_on : {S : Type 0} (law : Law S) (ts : List Turn) (s : S) (t : Turn) → state_after law (ts ++ t ∷ []) s ≡ after law (state_after law ts s) t
state_on law [] s t = refl
state_on law (u ∷ ts) s t = state_on law ts (after law s u) t

texts_on : {S : Type 0} (law : Law S) (ts : List Turn) (k : ℕ) (s : S) (t : Turn) (n : ℕ) → n ≡ length ts + k → texts law (ts ++ t ∷ []) k s ≡ texts law ts k s ++ text law (state_after law ts s) (is_last n) t
texts_on law [] k s t n is = append-nil (text law s (is_last k) t) ∙ ap (λ m. text law s (is_last m) t) (sym (is ∙ omega arith))
texts_on law (u ∷ ts) k s t n is = ap (λ b. text law s (is_last k) u ++ b) (texts_on law ts (k + 1) (after law s u) t n (is ∙ omega arith)) ∙ sym (append_assoc (text law s (is_last k) u) (texts law ts (k + 1) (after law s u)) (text law (state_after law ts (after law s u)) (is_last n) t))

-- ---- counts

-- rises, one after another
pub rises_on : (m n x y z : ℕ) → IsRiseOf m x y → IsRiseOf n y z → y ≤ z → IsRiseOf (m + n) x z
rises_on m n x y z (inl a) (inl b) le = inl (omega (arith, a, b))
rises_on m n x y z (inl a) (inr full) le = inr full
rises_on m n x y z (inr full) second le = inr (omega (arith, full, le))

-- so many are those of the list with one more
pub rise_as : (m n x y : ℕ) → m ≡ n → IsRiseOf m x y → IsRiseOf n x y
rise_as m n x y is rise = subst (λ k. IsRiseOf k x y) is rise

unkept_on : (ts : List Turn) (t : Turn) → unkept_among ts + unkept_in t ≡ unkept_among (ts ++ t ∷ [])
unkept_on [] t = omega arith
unkept_on (u ∷ ts) t = let rest = unkept_on ts t in omega (arith, rest)

-- ---- what a machine keeps

pub keeps_same : {S : Type 0} (law : Law S) (m : MachineTold S) → Keeps law m m
keeps_same law m = record { rows = λ was. was; later = omega arith }

pub keeps_on : {S : Type 0} (law : Law S) (m m1 m2 : MachineTold S) → Keeps law m m1 → Keeps law m1 m2 → Keeps law m m2
keeps_on law m m1 m2 first second = record { rows = λ was. second.rows (first.rows was); later = omega (arith, first.later, second.later) }

-- ---- the connection at hand

module _ {S : Type 0} (law : Law S) (m m1 m2 : MachineTold S) (d d1 d2 : DoorTold) (held held' : List ℕ) (k : ℕ) (le : m1.faults ≤ m2.faults) where
  went_on : (earlier : List Connection) (went : Went law m m1 d d1 earlier held k) (c : Connection) → d2.taken ≡ earlier ++ c ∷ [] → TurnOn law m1 m2 d1.to_come d2.to_come held held' went.connection c (is_last k) None → Went law m m2 d d2 earlier held' (k + 1)
  went_on earlier went c at on =
      let t = on.turned.0 in
      let n : k ≡ length went.turns + 0 = omega (arith, went.count) in
      let goes = subst (λ b. Goes law went.turns 0 m.state b (held ++ on.got)) (sym on.read) (goes_more law went.turns 0 m.state went.connection.bytes_read held on.got went.goes) in
      record {
        connection = c;
        left = on.left;
        turns = went.turns ++ t ∷ [];
        taken = at;
        leaves = subst (λ b. Leaves d.to_come d2.to_come b on.left) (sym on.read) (leaves_on d.to_come d1.to_come d2.to_come went.connection.bytes_read on.got went.left on.left went.leaves on.leaves);
        count = simp length-append (ap (λ m. m + 1) went.count);
        goes = goes_on law went.turns 0 m.state c.bytes_read (held ++ on.got) held' t k n goes (subst (λ st. TakesIn law st t (held ++ on.got) held') went.state on.turned.1) on.turned.2;
        state = on.turned.3 ∙ ap (λ st. after law st t) went.state ∙ sym (state_on law went.turns m.state t);
        written = on.turned.4 ∙ ap (λ b. b ++ text law m1.state (is_last k) t) went.written ∙ ap (λ st. texts law went.turns 0 m.state ++ text law st (is_last k) t) went.state ∙ sym (texts_on law went.turns 0 m.state t k n);
        unkept = rise_as _ _ m.faults m2.faults (unkept_on went.turns t) (rises_on (unkept_among went.turns) (unkept_in t) m.faults m1.faults m2.faults went.unkept on.turned.5 le);
      }

  went_to_end : (earlier : List Connection) (went : Went law m m1 d d1 earlier held k) (c : Connection) (end : End) → d2.taken ≡ earlier ++ c ∷ [] → TurnOn law m1 m2 d1.to_come d2.to_come held held' went.connection c (is_last k) (Some end) → Served law m m2 d d2 earlier end
  went_to_end earlier went c end at on =
      let final = on.turned.0 in
      let out = on.turned.1 in
      let v : Visit S = record { connection = c; left = on.left; end = end; after = m2.state; turns = went.turns; final = final } in
      record {
        visit = v;
        is_visit = record {
          talk = record {
            rest = held ++ on.got;
            last_text = out;
            goes = subst (λ b. Goes law went.turns 0 m.state b (held ++ on.got)) (sym on.read) (goes_more law went.turns 0 m.state went.connection.bytes_read held on.got went.goes);
            written = on.turned.3 ∙ ap (λ b. b ++ out) went.written;
            ends = subst (λ st. Ends law end final (is_last (length went.turns)) st (held ++ on.got) out m2.state) went.state (subst (λ n. Ends law end final (is_last n) m1.state (held ++ on.got) out m2.state) (sym went.count) on.turned.2);
          };
          input = on.turned.4;
          fault = on.turned.5;
        };
        taken = at;
        leaves = subst (λ b. Leaves d.to_come d2.to_come b on.left) (sym on.read) (leaves_on d.to_come d1.to_come d2.to_come went.connection.bytes_read on.got went.left on.left went.leaves on.leaves);
        end_is = refl;
        after_is = refl;
        unkept = rises_on (unkept_among went.turns) (unkept_last final) m.faults m1.faults m2.faults went.unkept on.turned.6 le;
      }

  pub going_on : IsGoing law m m1 d d1 held k → TakesTurn law m1 m2 d1 d2 held held' (is_last k) None → IsGoing law m m2 d d2 held' (k + 1)
  going_on going takes earlier is =
      let went = going earlier is in
      let next = takes earlier went.connection went.taken in
      went_on earlier went next.0 next.1 next.2

  pub going_to_end : (end : End) → IsGoing law m m1 d d1 held k → TakesTurn law m1 m2 d1 d2 held held' (is_last k) (Some end) → IsServed law m m2 d d2 end
  going_to_end end going takes earlier is =
      let went = going earlier is in
      let next = takes earlier went.connection went.taken in
      went_to_end earlier went next.0 end next.1 next.2

pub going_none : {S : Type 0} (law : Law S) (m : MachineTold S) (d : DoorTold) (held : List ℕ) → held ≡ [] → IsGoing law m m d d held 0
going_none law m d held none earlier is = record { connection = fresh; left = left_in d.to_come; turns = []; taken = is; leaves = leaves_none d.to_come; count = refl; goes = none; state = refl; written = refl; unkept = inl (omega arith) }

pub within_on : (k : ℕ) → k < turn_limit → is_last k ≡ false → k + 1 < turn_limit
within_on k within not = grind (arith, nat_tests)
