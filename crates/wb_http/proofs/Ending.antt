-- The end of a head is found byte by byte.
use Rattle.std.proofs.Common.{◌≡◌, refl, ◌∙◌, sym, ap, ℕ, ◌+◌, ◌<◌, ◌≤◌, List, [], ◌∷◌, ◌++◌, length, take, drop, get_or, Option, None, Some, option_map, append_assoc, append-nil, length-append, arith}
use Rattle.std.proofs.lemmas.List.{take_more, take_all, take-append-drop, length-take-le}
use Rattle.wb_http.specs.declared.ends.Mark.{Mark}
use Rattle.wb_http.specs.declared.ends.Mark.TheVariants.{Blank, Text, Feed, FeedReturn}
use Rattle.wb_http.specs.Ends.{head_length, to_empty_line, still_of, still_after, one_more, Tells}

-- the number of bytes before goes over one more byte
onward : (n : ℕ) (m : ℕ) (found : Option ℕ) → m ≡ n + 1 → option_map (λ k. k + n) (one_more found) ≡ option_map (λ k. k + m) found
onward n m None is = refl
onward n m (Some k) is = ap Some (omega (arith, is))

-- after one more byte, whatever follows
pub tells_on : (mark : Mark) (next : Option Mark) (bytes : List ℕ) (seen byte : ℕ) → seen < length bytes → byte ≡ get_or bytes seen 0 → Tells mark (take seen bytes)
    → ((rest : List ℕ) → still_of mark (byte ∷ rest) ≡ one_more (still_after next rest))
    → (rest : List ℕ) → head_length (take (seen + 1) bytes ++ rest) ≡ option_map (λ n. n + length (take (seen + 1) bytes)) (still_after next rest)
tells_on mark next bytes seen byte within is tells step rest =
    let longer : take (seen + 1) bytes ≡ take seen bytes ++ byte ∷ [] = take_more bytes seen 0 within ∙ ap (λ b. take seen bytes ++ b ∷ []) (sym is) in
    let count : length (take (seen + 1) bytes) ≡ length (take seen bytes) + 1 = ap length longer ∙ length-append (take seen bytes) (byte ∷ []) in
    ap (λ front. head_length (front ++ rest)) longer ∙ ap head_length (append_assoc (take seen bytes) (byte ∷ []) rest) ∙ tells (byte ∷ rest) ∙ ap (option_map (λ n. n + length (take seen bytes))) (step rest)
    ∙ onward (length (take seen bytes)) (length (take (seen + 1) bytes)) (still_after next rest) count

-- a head that is over
pub ends_here : (bytes : List ℕ) (seen : ℕ) → seen ≤ length bytes
    → ((rest : List ℕ) → head_length (take seen bytes ++ rest) ≡ option_map (λ n. n + length (take seen bytes)) (still_after None rest)) → Some seen ≡ head_length bytes
ends_here bytes seen within tells =
    let count : 0 + length (take seen bytes) ≡ seen = omega (arith, length-take-le seen bytes within) in
    sym (ap head_length (sym (take-append-drop seen bytes)) ∙ tells (drop seen bytes) ∙ ap Some count)

nothing_still : (mark : Mark) → still_of mark [] ≡ None
unfolding head_length to_empty_line
nothing_still Blank = refl
nothing_still Text = refl
nothing_still Feed = refl
nothing_still FeedReturn = refl

-- no head is over at the end of the bytes
pub no_end : (mark : Mark) (bytes : List ℕ) (seen : ℕ) → length bytes ≤ seen → Tells mark (take seen bytes) → None ≡ head_length bytes
no_end mark bytes seen all tells =
    sym (ap head_length (sym (append-nil bytes)) ∙ ap (λ b. head_length (b ++ [])) (sym (take_all seen bytes all)) ∙ tells [] ∙ ap (option_map (λ n. n + length (take seen bytes))) (nothing_still mark))

nothing_before : (found : Option ℕ) → found ≡ option_map (λ n. n + 0) found
nothing_before None = refl
nothing_before (Some n) = ap Some (omega arith)

-- before the first byte
pub tells_none : (bytes : List ℕ) → Tells Blank (take 0 bytes)
tells_none bytes rest = nothing_before (head_length rest)
