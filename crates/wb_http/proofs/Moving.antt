-- Bytes that go from a connection to those held, one read after another.
use Rattle.std.proofs.Common.{◌≡◌, refl, ◌∙◌, sym, ap, subst, ℕ, ◌+◌, ◌≤◌, List, [], ◌∷◌, ◌++◌, length, take, drop, Option, None, Some, IfSome, append_assoc, append-nil, take-append-drop, arith}
use Rattle.std.specs.Bool.{⊤}
use Rattle.std.proofs.Math.Seq.{take-append-add}
use Rattle.std.proofs.lemmas.List.{take-append-le, length-take-le}
use borrow.Rule.Slice.PartMut.{put_mid, post_of}
use Rattle.wb_outer.specs.declared.door.Got.{Got}
use Rattle.wb_outer.specs.declared.door.Got.TheVariants as got
use Rattle.wb_outer.specs.Door.{Connection, DoorTold, ToCome, after_read, marked, change_at_hand, Reads, ReadsFrom, FitsRoom}
use Rattle.wb_http.specs.declared.requests.RequestEnd.{RequestEnd}
use Rattle.wb_http.specs.declared.requests.RequestEnd.TheVariants as ends
use Rattle.wb_http.specs.Reading.{Gives, CameFrom, taken_after}
use Rattle.wb_http.specs.Fronts.{Fills, ReadsBehind, read_of}

after_read_none : (c : Connection) → after_read [] c ≡ c
after_read_none c = ap (λ bytes. record { bytes_read = bytes; bytes_written = c.bytes_written; has_failed = c.has_failed }) (append-nil c.bytes_read)

after_read_add : (x y : List ℕ) (c : Connection) → after_read y (after_read x c) ≡ after_read (x ++ y) c
after_read_add x y c = ap (λ bytes. record { bytes_read = bytes; bytes_written = c.bytes_written; has_failed = c.has_failed }) (append_assoc c.bytes_read x y)

-- nothing was read
reads_none : (cs : List Connection) → change_at_hand (after_read []) cs ≡ cs
reads_none [] = refl
reads_none (c ∷ []) = ap (λ d. d ∷ []) (after_read_none c)
reads_none (c ∷ d ∷ cs) = ap (λ ds. c ∷ ds) (reads_none (d ∷ cs))

-- some bytes were read, and then more
reads_add : (x y : List ℕ) (cs : List Connection) → change_at_hand (after_read y) (change_at_hand (after_read x) cs) ≡ change_at_hand (after_read (x ++ y)) cs
reads_add x y [] = refl
reads_add x y (c ∷ []) = ap (λ d. d ∷ []) (after_read_add x y c)
reads_add x y (c ∷ d ∷ []) = ap (λ e. c ∷ e ∷ []) (after_read_add x y d)
reads_add x y (c ∷ d ∷ e ∷ cs) = ap (λ ds. c ∷ ds) (reads_add x y (d ∷ e ∷ cs))

taken_add : (end : Option RequestEnd) (x y : List ℕ) (cs : List Connection) → taken_after end y (change_at_hand (after_read x) cs) ≡ taken_after end (x ++ y) cs
taken_add None x y cs = reads_add x y cs
taken_add (Some ends.Ended) x y cs = reads_add x y cs
taken_add (Some ends.Failed) x y cs = ap (change_at_hand marked) (reads_add x y cs)
taken_add (Some (ends.Bad refusal)) x y cs = reads_add x y cs
taken_add (Some ends.NoMemory) x y cs = reads_add x y cs

came_none : (told : Option ToCome) → IfSome told (λ to_come. CameFrom None to_come told [])
came_none None = tt
came_none (Some to_come) = (to_come.here, refl, refl, tt)

came_on : (end : Option RequestEnd) (a b c : Option ToCome) (x y : List ℕ) → IfSome a (λ t. CameFrom None t b x) → IfSome b (λ t. CameFrom end t c y) → IfSome a (λ t. CameFrom end t c (x ++ y))
came_on end None b c x y first second = tt
came_on end (Some t) b c x y first second =
    let then_came : CameFrom end (record { here = first.0; waiting = t.waiting }) c y = subst (λ o. IfSome o (λ t. CameFrom end t c y)) first.2 second in
    (then_came.0, first.1 ∙ ap (λ rest. x ++ rest) then_came.1 ∙ sym (append_assoc x y then_came.0), then_came.2, then_came.3)

-- no read yet
pub gives_none : (told : DoorTold) → Gives told told None []
gives_none told = record {
  last = refl;
  taken = sym (reads_none told.taken);
  to_come = came_none told.to_come;
  later = omega arith;
  failed = λ is. absurd (cc is);
}

-- more reads
pub gives_on : (a b c : DoorTold) (end : Option RequestEnd) (x y : List ℕ) → Gives a b None x → Gives b c end y → Gives a c end (x ++ y)
gives_on a b c end x y first second = record {
  last = second.last ∙ first.last;
  taken = second.taken ∙ ap (taken_after end y) first.taken ∙ taken_add end x y a.taken;
  to_come = came_on end a.to_come b.to_come c.to_come x y first.to_come second.to_come;
  later = omega (arith, first.later, second.later);
  failed = λ is. omega (arith, first.later, second.failed is);
}

-- how a read ends
abbrev pub end_of_read : Got → Option RequestEnd
end_of_read (got.Bytes n) = None
end_of_read got.End = Some ends.Ended
end_of_read got.Failed = Some ends.Failed

came_by : (result : Got) (old new : Option ToCome) (room : List ℕ) → IfSome old (λ t. ReadsFrom t new room result) → IfSome old (λ t. CameFrom (end_of_read result) t new (take (read_of result) room))
came_by result None new room by = tt
came_by (got.Bytes n) (Some t) new room by = (drop n t.here, sym (take-append-drop n t.here) ∙ ap (λ front. front ++ drop n t.here) (sym by.0), by.1, tt)
came_by got.End (Some t) new room by = (t.here, refl, by.1, by.0)
came_by got.Failed (Some t) new room by = (t.here, refl, by, tt)

pub gives_read : (result : Got) (old new : DoorTold) (room : List ℕ) → Reads old new room result → Gives old new (end_of_read result) (take (read_of result) room)
gives_read (got.Bytes n) old new room by = record { last = by.last; taken = by.taken; to_come = came_by (got.Bytes n) old.to_come new.to_come room by.to_come; later = by.later; failed = λ is. absurd (cc is) }
gives_read got.End old new room by = record { last = by.last; taken = by.taken ∙ sym (reads_none old.taken); to_come = came_by got.End old.to_come new.to_come room by.to_come; later = by.later; failed = λ is. absurd (cc is) }
gives_read got.Failed old new room by = record { last = by.last; taken = by.taken ∙ ap (change_at_hand marked) (sym (reads_none old.taken)); to_come = came_by got.Failed old.to_come new.to_come room by.to_come; later = by.later; failed = λ _. by.failed refl }

-- the call itself ends with a refusal, or for want of memory
abbrev pub IsOwnEnd : RequestEnd → Type 0
IsOwnEnd (ends.Bad refusal) = ⊤
IsOwnEnd ends.NoMemory = ⊤
IsOwnEnd ends.Ended = ⊥
IsOwnEnd ends.Failed = ⊥

pub gives_own : (end : RequestEnd) (a b : DoorTold) (x : List ℕ) → IsOwnEnd end → Gives a b None x → Gives a b (Some end) x
gives_own (ends.Bad refusal) a b x own gives = record { last = gives.last; taken = gives.taken; to_come = gives.to_come; later = gives.later; failed = λ is. absurd (cc is) }
gives_own ends.NoMemory a b x own gives = record { last = gives.last; taken = gives.taken; to_come = gives.to_come; later = gives.later; failed = λ is. absurd (cc is) }
gives_own ends.Ended a b x own gives = absurd own
gives_own ends.Failed a b x own gives = absurd own

pub fills_none : (held : List ℕ) (told : DoorTold) → Fills held held told told None
fills_none held told = record { got = []; grown = sym (append-nil held); gives = gives_none told }

pub fills_on : (h i j : List ℕ) (a b c : DoorTold) (end : Option RequestEnd) → Fills h i a b None → Fills i j b c end → Fills h j a c end
fills_on h i j a b c end first second = record {
  got = first.got ++ second.got;
  grown = second.grown ∙ ap (λ bytes. bytes ++ second.got) first.grown ∙ append_assoc h first.got second.got;
  gives = gives_on a b c end first.got second.got first.gives second.gives;
}

pub fills_own : (end : RequestEnd) (h i : List ℕ) (a b : DoorTold) → IsOwnEnd end → Fills h i a b None → Fills h i a b (Some end)
fills_own end h i a b own fills = record { got = fills.got; grown = fills.grown; gives = gives_own end a b fills.got own fills.gives }

take_over : (xs ys : List ℕ) (len n : ℕ) → length xs ≡ len → take (len + n) (xs ++ ys) ≡ xs ++ take n ys
take_over xs ys len n is = subst (λ l. take (l + n) (xs ++ ys) ≡ xs ++ take n ys) is (take-append-add xs ys n)

-- what a read leaves behind the bytes held
pub behind : (len k n : ℕ) (room new : List ℕ) → len ≤ length room → n ≤ length new → take (len + n) (put_mid len k room new) ≡ take len room ++ take n new
behind len k n room new within fits =
    take_over (take len room) (new ++ post_of len k room) len n (length-take-le len room within) ∙ ap (λ xs. take len room ++ xs) (take-append-le n new (post_of len k room) fits)

pub fits_count : (result : Got) (room : List ℕ) → FitsRoom result room → read_of result ≤ length room
fits_count (got.Bytes n) room fits = fits.1
fits_count got.End room fits = omega arith
fits_count got.Failed room fits = omega arith

-- the bytes held grow by what a read gives
pub fills_read : (result : Got) (len : ℕ) (room room' : List ℕ) (old new : DoorTold) → ReadsBehind room room' len old new result → Fills (take len room) (take (len + read_of result) room') old new (end_of_read result)
fills_read result len room room' old new by = record { got = take (read_of result) by.0; grown = by.2; gives = gives_read result old new by.0 by.1 }

-- a read that gives none
pub fills_end : (result : Got) (len : ℕ) (room room' held : List ℕ) (old new : DoorTold) → read_of result ≡ 0 → take len room ≡ held → ReadsBehind room room' len old new result → Fills held (take len room') old new (end_of_read result)
fills_end result len room room' held old new none is by =
    let same : len + read_of result ≡ len = omega (arith, none) in
    subst (λ (h : List ℕ). Fills h (take len room') old new (end_of_read result)) is (subst (λ (l : ℕ). Fills (take len room) (take l room') old new (end_of_read result)) same (fills_read result len room room' old new by))
