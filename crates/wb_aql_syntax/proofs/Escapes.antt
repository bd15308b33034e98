-- A text with its escapes, character by character.
use Rattle.std.proofs.Common.{◌≡◌, ℕ, suc, ◌<◌, ◌≤◌, List, [], ◌∷◌, ◌++◌, length, get_or, IsUtf8, inl, inr, refl, sym, ap, ap₂, ◌∙◌, arith, append-nil, flat_map}
use Rattle.std.proofs.lemmas.Bool.{cases_lt, ne_eqb}
use Rattle.std.proofs.lemmas.List.Concat.{flat_map-append}
use Rattle.std.proofs.lemmas.Str.{encode_ascii, inside_one, encodes-chars}
use Rattle.std.specs.Char.{encode_utf8}
use Rattle.std.specs.Str.{chars, encode_utf8_all}
use Rattle.wb_aql_syntax.specs.Printed.{escaped}

pub escaped_plain : (c : ℕ) → (c ≡ 92 → ⊥) → (c ≡ 39 → ⊥) → (c ≡ 10 → ⊥) → (c ≡ 9 → ⊥) → escaped c ≡ c ∷ []
unfolding escaped
escaped_plain c a b d e = rw (ne_eqb 92 c (λ h. a (sym h)), ne_eqb 39 c (λ h. b (sym h)), ne_eqb 10 c (λ h. d (sym h)), ne_eqb 9 c (λ h. e (sym h))) refl

high_bytes : (xs : List ℕ) → ((k : ℕ) → k < length xs → 128 ≤ get_or xs k 0) → flat_map escaped xs ≡ xs
high_bytes [] h = refl
high_bytes (x ∷ xs) h =
    let high : 128 ≤ x = h 0 (omega arith) in
    ap₂ (λ (a b : List ℕ). a ++ b) (escaped_plain x (λ e. omega arith) (λ e. omega arith) (λ e. omega arith) (λ e. omega arith)) (high_bytes xs (λ k below. h (suc k) (omega arith)))

one_byte : (c : ℕ) → c < 128 → flat_map escaped (encode_utf8 c) ≡ escaped c
one_byte c small = ap (flat_map escaped) (encode_ascii c small) ∙ append-nil (escaped c)

-- a character that needs no escape
pub plain_char : (c : ℕ) → (c ≡ 92 → ⊥) → (c ≡ 39 → ⊥) → (c ≡ 10 → ⊥) → (c ≡ 9 → ⊥) → flat_map escaped (encode_utf8 c) ≡ encode_utf8 c
plain_char c a b d e = elim (cases_lt c 128) [
  | inl small ↦ one_byte c small ∙ (escaped_plain c a b d e ∙ sym (encode_ascii c small))
  | inr big ↦ high_bytes (encode_utf8 c) (λ k below. elim (cases_lt (get_or (encode_utf8 c) k 0) 128) [
    | inl low ↦ absurd (omega (arith, inside_one c [] (encode_utf8 c) k (sym (append-nil _)) below low))
    | inr h ↦ h
  ])
]

-- one that has an escape
pub backslash : flat_map escaped (encode_utf8 92) ≡ 92 ∷ 92 ∷ []
unfolding escaped
backslash = one_byte 92 (omega arith)

pub quote : flat_map escaped (encode_utf8 39) ≡ 92 ∷ 39 ∷ []
unfolding escaped
quote = one_byte 39 (omega arith)

pub line_feed : flat_map escaped (encode_utf8 10) ≡ 92 ∷ 110 ∷ []
unfolding escaped
line_feed = one_byte 10 (omega arith)

pub tab : flat_map escaped (encode_utf8 9) ≡ 92 ∷ 116 ∷ []
unfolding escaped
tab = one_byte 9 (omega arith)

by_chars : (cs : List ℕ) → flat_map (λ c. flat_map escaped (encode_utf8 c)) cs ≡ flat_map escaped (encode_utf8_all cs)
by_chars [] = refl
by_chars (c ∷ cs) = ap (λ z. flat_map escaped (encode_utf8 c) ++ z) (by_chars cs) ∙ sym (flat_map-append escaped (encode_utf8 c) (encode_utf8_all cs))

-- the whole text
pub all_chars : (text : List ℕ) → IsUtf8 text → flat_map (λ c. flat_map escaped (encode_utf8 c)) (chars text) ≡ flat_map escaped text
all_chars text u = by_chars (chars text) ∙ ap (flat_map escaped) (encodes-chars text u)
