-- Escapes go by bytes, and the code writes them by characters.
use Rattle.std.proofs.Common.{◌≡◌, ℕ, suc, ◌<◌, List, [], ◌∷◌, ◌++◌, length, get_or, refl, sym, ap, ◌∙◌, append_assoc, append-nil, arith, encode_utf8, encode_utf8_all}
use Rattle.std.specs.List.{flat_map}
use Rattle.std.proofs.lemmas.Str.{inside_one}
use Rattle.wb_json.specs.Place.{escape}

pub flat_map-append : (xs ys : List ℕ) → flat_map escape (xs ++ ys) ≡ flat_map escape xs ++ flat_map escape ys
flat_map-append [] ys = refl
flat_map-append (x ∷ xs) ys = ap (λ r. escape x ++ r) (flat_map-append xs ys) ∙ sym (append_assoc (escape x) _ _)

-- a byte that is neither `~` nor `/` stands for itself
plain_byte : (b : ℕ) → (b ≡ 126 → ⊥) → (b ≡ 47 → ⊥) → escape b ≡ b ∷ []
plain_byte b tilde slash = grind arith

pub plain_bytes : (bs : List ℕ) → ((k : ℕ) → k < length bs → get_or bs k 0 ≡ 126 → ⊥) → ((k : ℕ) → k < length bs → get_or bs k 0 ≡ 47 → ⊥) → flat_map escape bs ≡ bs
plain_bytes [] tilde slash = refl
plain_bytes (b ∷ bs) tilde slash =
    rw (plain_byte b (tilde 0 (omega arith)) (slash 0 (omega arith)))
    (ap (λ r. b ∷ r) (plain_bytes bs (λ k h. tilde (suc k) (omega arith)) (λ k h. slash (suc k) (omega arith))))

-- so does a character
pub plain_char : (c : ℕ) → (c ≡ 126 → ⊥) → (c ≡ 47 → ⊥) → flat_map escape (encode_utf8 c) ≡ encode_utf8 c
plain_char c tilde slash =
    let none : encode_utf8 c ≡ encode_utf8 c ++ [] = sym (append-nil (encode_utf8 c)) in
    plain_bytes (encode_utf8 c)
    (λ k h e. tilde (inside_one c [] (encode_utf8 c) k none h (omega arith) ∙ e))
    (λ k h e. slash (inside_one c [] (encode_utf8 c) k none h (omega arith) ∙ e))

pub escaped_more : (cs : List ℕ) (c : ℕ) → flat_map escape (encode_utf8_all (cs ++ c ∷ [])) ≡ flat_map escape (encode_utf8_all cs) ++ flat_map escape (encode_utf8 c)
escaped_more [] c = flat_map-append (encode_utf8 c) [] ∙ append-nil _
escaped_more (d ∷ cs) c =
    flat_map-append (encode_utf8 d) _
    ∙ ap (λ r. flat_map escape (encode_utf8 d) ++ r) (escaped_more cs c)
    ∙ sym (append_assoc (flat_map escape (encode_utf8 d)) _ _)
    ∙ ap (λ r. r ++ flat_map escape (encode_utf8 c)) (sym (flat_map-append (encode_utf8 d) (encode_utf8_all cs)))
