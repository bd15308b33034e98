-- Pieces that are written one after another on the connection at hand.
use Rattle.std.proofs.Common.{◌≡◌, refl, ◌∙◌, ap, sym, ℕ, ◌+◌, ◌-◌, List, [], ◌∷◌, ◌++◌, take, drop, append_assoc, arith}
use Rattle.std.proofs.Math.Seq.{take-add}
use Rattle.std.proofs.lemmas.List.{append-nil}
use Rattle.wb_outer.specs.Door.{Connection, after_write, marked, change_at_hand}

-- two changes of it are one
changed_twice : (f g h : Connection → Connection) → ((c : Connection) → g (f c) ≡ h c) → (cs : List Connection) → change_at_hand g (change_at_hand f cs) ≡ change_at_hand h cs
changed_twice f g h both [] = refl
changed_twice f g h both (c ∷ []) = ap (λ x. x ∷ []) (both c)
changed_twice f g h both (c ∷ d ∷ []) = ap (λ x. c ∷ x ∷ []) (both d)
changed_twice f g h both (c ∷ d ∷ e ∷ cs) = ap (λ xs. c ∷ xs) (changed_twice f g h both (d ∷ e ∷ cs))

changed_not : (f : Connection → Connection) → ((c : Connection) → f c ≡ c) → (cs : List Connection) → change_at_hand f cs ≡ cs
changed_not f same [] = refl
changed_not f same (c ∷ []) = ap (λ x. x ∷ []) (same c)
changed_not f same (c ∷ d ∷ cs) = ap (λ xs. c ∷ xs) (changed_not f same (d ∷ cs))

-- other bytes written
abbrev with_written : Connection → List ℕ → Connection
with_written c bytes = record { bytes_read = c.bytes_read; bytes_written = bytes; has_failed = c.has_failed }

-- no byte of it is written
pub write_none : (piece : List ℕ) (cs : List Connection) → change_at_hand (after_write (take 0 piece)) cs ≡ cs
write_none piece cs = changed_not (after_write (take 0 piece)) (λ c. ap (with_written c) (append-nil c.bytes_written)) cs

-- the first n bytes and then k of the rest are the first n + k
pub write_on : (n k : ℕ) (piece : List ℕ) (cs : List Connection) → change_at_hand (after_write (take k (drop n piece))) (change_at_hand (after_write (take n piece)) cs) ≡ change_at_hand (after_write (take (n + k) piece)) cs
write_on n k piece cs =
    changed_twice (after_write (take n piece)) (after_write (take k (drop n piece))) (after_write (take (n + k) piece)) (λ c. ap (with_written c) (append_assoc c.bytes_written (take n piece) (take k (drop n piece)) ∙ ap (λ (bytes : List ℕ). c.bytes_written ++ bytes) (sym (take-add n k piece)))) cs

-- a front is written, and then the connection is marked
pub write_marked : (front : List ℕ) (cs : List Connection) → change_at_hand marked (change_at_hand (after_write front) cs) ≡ change_at_hand (λ c. marked (after_write front c)) cs
write_marked front cs = changed_twice (after_write front) marked (λ c. marked (after_write front c)) (λ c. refl) cs

-- the same of bytes that are given by where they begin and end
pub write_more : (n k : ℕ) (piece : List ℕ) (cs before : List Connection) → before ≡ change_at_hand (after_write (take n piece)) cs → change_at_hand (after_write (take ((n + k) - n) (drop n piece))) before ≡ change_at_hand (after_write (take (n + k) piece)) cs
write_more n k piece cs before is =
    let count : (n + k) - n ≡ k = omega arith in
    ap (λ (m : ℕ). change_at_hand (after_write (take m (drop n piece))) before) count ∙ ap (change_at_hand (after_write (take k (drop n piece)))) is ∙ write_on n k piece cs
