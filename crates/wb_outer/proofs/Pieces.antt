-- Pieces of a connection.
use Rattle.std.proofs.Common.{◌≡◌, refl, ◌∙◌, ℕ, ◌+◌, ◌<◌, ◌≤◌, List, [], ◌∷◌, ◌++◌, length, take, drop, min, map, get_or, Some, ap, sym, subst, arith, length-drop}
use Rattle.std.specs.Global.{Vec}
use Rattle.std.specs.List.{remove}
use Rattle.std.proofs.lemmas.Grind.{common_steps}
use Rattle.std.proofs.lemmas.List.{drop_all, drop-append-le, take-append-le}
use Rattle.wb_outer.specs.Door.{Connection, ToCome, Comes, ComesFrom, ReadsFrom, fresh}
use Rattle.wb_outer.specs.Pieces.{bytes_of, before, filled, left_of, lines_of, HasUnread, ReadsPiece, SureDoorState, sure_told}
use Rattle.wb_outer.specs.declared.door.Next.TheVariants.{Line as IsLine, Failed as NextFailed}
use Rattle.wb_outer.specs.declared.door.Got.{Got}
use Rattle.wb_outer.specs.declared.door.Got.TheVariants.{Bytes as GotBytes, End, Failed as GotFailed}

pub left_at_start : (pieces : List (List ℕ)) → left_of 0 pieces ≡ filled pieces
left_at_start [] = refl
left_at_start (piece ∷ pieces) = refl

-- a piece that was read to its end goes
pub skip_first : (pieces : List (List ℕ)) (first : List ℕ) (n : ℕ) → 0 < length pieces → first ≡ get_or pieces 0 first → length first ≤ n → left_of 0 (remove pieces 0) ≡ left_of n pieces
skip_first [] first n some is passed = absurd (omega (arith, some))
skip_first (piece ∷ pieces) first n some is passed =
    let within : length piece ≤ n = subst (λ (p : List ℕ). length p ≤ n) is passed in
    left_at_start pieces ∙ ap (λ (rest : List ℕ). before rest (filled pieces)) (sym (drop_all n piece within))

-- so many more bytes of the first piece are read
read_on : (rest piece : List ℕ) (others : List (List ℕ)) (read n : ℕ) (room : List ℕ) → rest ≡ drop read piece → 0 < length rest → n ≡ min (length rest) (length room) → take n room ≡ take n rest
    → ReadsPiece (before rest others) (before (drop (read + n) piece) others) room (GotBytes n)
read_on [] piece others read n room is some count copied = absurd (omega (arith, some))
read_on (byte ∷ bytes) piece others read n room is some count copied =
    let further : drop (read + n) piece ≡ drop n (drop read piece) = grind (arith, common_steps) in
    (count, copied, ap (λ (rest : List ℕ). before rest others) (further ∙ ap (drop n) (sym is)))

pub reads_piece : (pieces : List (List ℕ)) (first : List ℕ) (read n : ℕ) (room : List ℕ) → 0 < length pieces → first ≡ get_or pieces 0 first → HasUnread read pieces → n ≡ min (length (drop read first)) (length room) → take n room ≡ take n (drop read first)
    → ReadsPiece (left_of read pieces) (left_of (read + n) pieces) room (GotBytes n)
reads_piece [] first read n room some is unread count copied = absurd (omega (arith, some))
reads_piece (piece ∷ pieces) first read n room some is unread count copied =
    let left : 0 < length (drop read piece) = rw (length-drop read piece) (omega (arith, unread)) in
    read_on (drop read piece) piece (filled pieces) read n room refl left (subst (λ (p : List ℕ). n ≡ min (length (drop read p)) (length room)) is count) (subst (λ (p : List ℕ). take n room ≡ take n (drop read p)) is copied)

bytes_before : (piece : List ℕ) (pieces : List (List ℕ)) → bytes_of (before piece pieces) ≡ piece ++ bytes_of pieces
bytes_before [] pieces = refl
bytes_before (byte ∷ bytes) pieces = refl

-- empty pieces have no bytes
pub bytes_filled : (pieces : List (List ℕ)) → bytes_of (filled pieces) ≡ bytes_of pieces
bytes_filled [] = refl
bytes_filled (piece ∷ pieces) = bytes_before piece (filled pieces) ∙ ap (λ bytes. piece ++ bytes) (bytes_filled pieces)

-- the bytes that a read gives are the next ones
pub reads_next : (left new : List (List ℕ)) (waiting : List (List ℕ)) (room : List ℕ) (got : Got) → ReadsPiece left new room got
    → ReadsFrom (record { here = bytes_of left; waiting = waiting }) (Some (record { here = bytes_of new; waiting = waiting })) room got
reads_next [] new waiting room (GotBytes n) by = absurd by
reads_next [] new waiting room End by = (refl, ap (λ (left : List (List ℕ)). let told : ToCome = record { here = bytes_of left; waiting = waiting } in Some told) by)
reads_next [] new waiting room GotFailed by = absurd by
reads_next (piece ∷ pieces) new waiting room (GotBytes n) by =
    let within : n ≤ length piece = omega (arith, by.0) in
    let bytes : bytes_of new ≡ drop n (piece ++ bytes_of pieces) = ap bytes_of by.2 ∙ bytes_before (drop n piece) pieces ∙ sym (drop-append-le n piece (bytes_of pieces) within) in
    (by.1 ∙ sym (take-append-le n piece (bytes_of pieces) within), ap (λ (here : List ℕ). let told : ToCome = record { here = here; waiting = waiting } in Some told) bytes)
reads_next (piece ∷ pieces) new waiting room End by = absurd by
reads_next (piece ∷ pieces) new waiting room GotFailed by = absurd by

-- the first connection that waits comes to hand
pub comes_next : (lines : List (Vec (List ℕ))) (line : Vec (List ℕ)) (here : List ℕ) → 0 < length lines → line ≡ get_or lines 0 line
    → ComesFrom (record { here = here; waiting = map bytes_of (lines_of lines) }) (Some (record { here = bytes_of (left_of 0 line.items); waiting = map bytes_of (lines_of (remove lines 0)) })) IsLine
comes_next [] line here some is = absurd (omega (arith, some))
comes_next (first ∷ lines) line here some is =
    let bytes : bytes_of (left_of 0 line.items) ≡ bytes_of first.items = ap bytes_of (left_at_start line.items) ∙ bytes_filled line.items ∙ ap (λ (l : Vec (List ℕ)). bytes_of l.items) is in
    (bytes_of first.items, map bytes_of (lines_of lines), refl, ap (λ (bytes : List ℕ). let told : ToCome = record { here = bytes; waiting = map bytes_of (lines_of lines) } in Some told) bytes)

pub comes : (old : SureDoorState) (lines rest : List (Vec (List ℕ))) (line : Vec (List ℕ)) (before_it taken : List Connection) → lines_of lines ≡ old.waiting → before_it ≡ old.taken → 0 < length lines → line ≡ get_or lines 0 line → rest ≡ remove lines 0 → taken ≡ before_it ++ fresh ∷ []
    → Comes (sure_told old) (record { last = Some IsLine; taken = taken; to_come = Some (record { here = bytes_of (left_of 0 line.items); waiting = map bytes_of (lines_of rest) }); faults = 0 }) IsLine
comes old lines rest line before_it taken waits is_before some is left added =
    let Comes_of : List (List (List ℕ)) → List (Vec (List ℕ)) → Type 0 = λ waiting rest. ComesFrom (record { here = bytes_of old.left; waiting = map bytes_of waiting }) (Some (record { here = bytes_of (left_of 0 line.items); waiting = map bytes_of (lines_of rest) })) IsLine in
    record {
      last = refl;
      taken = added ∙ ap (λ (cs : List Connection). cs ++ fresh ∷ []) is_before;
      to_come = subst (λ (waiting : List (List (List ℕ))). Comes_of waiting rest) waits (subst (Comes_of (lines_of lines)) (sym left) (comes_next lines line (bytes_of old.left) some is));
      later = omega arith;
      failed = λ (none : IsLine ≡ NextFailed). absurd (cc none);
    }
