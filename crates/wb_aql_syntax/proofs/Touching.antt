-- The bytes of a canonical spelling have its tokens: no token is lengthened by what stands right behind it.
use Rattle.std.proofs.Common.{◌≡◌, ℕ, suc, ◌+◌, List, [], ◌∷◌, ◌++◌, length, Bool, true, false, inl, inr, ◌⊎◌, refl, sym, ap, subst, arith, flat_map}
use Rattle.std.specs.Prelude.{Some, not, ⊤}
use Rattle.std.specs.Fmt.{decimal}
use Rattle.std.proofs.lemmas.Fmt.{decimal_is_IsNumeral}
use Rattle.std.proofs.lemmas.Bool.{cases_eq, ne_eqb, leb-true}
use Rattle.wb_aql_tokens.specs.Lexes.{word_of, escape_of, Means, means_none, means_raw, means_escaped, Spelling, is_within, largest_integer, Lexes, lexes_end, lexes_blank}
use Rattle.wb_aql_tokens.specs.Lexer.{first_start}
use Rattle.wb_aql_tokens.specs.Apart.{lengthens_sign, lengthens, ends_before}
use Rattle.wb_aql_syntax.specs.Canonical.{Piece, blank, token, tokens_in}
use Rattle.wb_aql_syntax.specs.Printed.{escaped, bytes_of, bytes_in}
use Rattle.wb_aql_tokens.specs.declared.characters.Start.{Start}
use Rattle.wb_aql_tokens.specs.declared.characters.Start.TheVariants as b
use Rattle.wb_aql_tokens.specs.declared.token.Token.{Token}
use Rattle.wb_aql_tokens.specs.declared.token.Token.TheVariants.{Sign, Name, Integer, Quoted, Bad}
use Rattle.wb_aql_tokens.specs.declared.token.Sign.{Sign as SignName}
use Rattle.wb_aql_tokens.specs.declared.token.Sign.TheVariants as s
use Rattle.wb_aql_grammar.proofs.Local.{not_both}
use Rattle.wb_aql_tokens.proofs.Apart.{spelled_first}
use Rattle.wb_aql_tokens.proofs.Spellings.{spelled_start, some_start, nothing}
use Rattle.wb_aql_syntax.proofs.Escapes.{escaped_plain}

-- ---- the bytes of a token spell it

-- they do, and it is within its bounds
abbrev pub Spelled : Token → Type 0
Spelled a = Spelling a (bytes_of a) × (is_within a ≡ true)

means_byte : (c : ℕ) {bytes value : List ℕ} → Means bytes value → Means (escaped c ++ bytes) (c ∷ value)
unfolding escaped escape_of
means_byte c {bytes} {value} m = elim (cases_eq c 92) [
  | inl e ↦ subst (λ d. Means (escaped d ++ bytes) (d ∷ value)) (sym e) (means_escaped refl refl m)
  | inr a ↦ elim (cases_eq c 39) [
    | inl e ↦ subst (λ d. Means (escaped d ++ bytes) (d ∷ value)) (sym e) (means_escaped refl refl m)
    | inr q ↦ elim (cases_eq c 10) [
      | inl e ↦ subst (λ d. Means (escaped d ++ bytes) (d ∷ value)) (sym e) (means_escaped refl refl m)
      | inr n ↦ elim (cases_eq c 9) [
        | inl e ↦ subst (λ d. Means (escaped d ++ bytes) (d ∷ value)) (sym e) (means_escaped refl refl m)
        | inr t ↦ subst (λ bs. Means (bs ++ bytes) (c ∷ value)) (sym (escaped_plain c a q n t)) (means_raw (rw (ne_eqb c 39 q, ne_eqb c 92 a) refl) m)
      ]
    ]
  ]
]

means_all : (value : List ℕ) → Means (flat_map escaped value) value
means_all [] = means_none
means_all (c ∷ value) = means_byte c (means_all value)

pub spelled_name : (v : List ℕ) → is_within (Name v) ≡ true → Spelled (Name v)
spelled_name v h = ((refl, h), h)

pub spelled_integer : (n : ℕ) → is_within (Integer n) ≡ true → Spelled (Integer n)
spelled_integer n h = let u = decimal_is_IsNumeral n (omega (arith, leb-true n largest_integer h)) in ((u.0, sym u.1), h)

pub spelled_text : (v : List ℕ) → is_within (Quoted v) ≡ true → Spelled (Quoted v)
spelled_text v h = ((record { inside = flat_map escaped v; whole = refl; means = means_all v }, h), h)

-- ---- what may stand right behind what

-- a sign that may stand right behind whatever token
abbrev pub closer : SignName → Bool
closer s.Close = true
closer s.CloseBrace = true
closer s.Comma = true
closer s.Dot = true
closer s.Arrow = true
closer s.Colons = true
closer s.Open = true
closer s.OpenBrace = true
closer _ = false

-- one that whatever begins an expression may stand right behind
abbrev pub opener : Token → Bool
opener (Sign s.Open) = true
opener (Sign s.OpenBrace) = true
opener (Sign s.Minus) = true
opener (Sign s.Dot) = true
opener (Sign s.Arrow) = true
opener (Sign s.Colons) = true
opener _ = false

abbrev pub begins : Token → Bool
begins (Name v) = true
begins (Integer n) = true
begins (Quoted v) = true
begins (Sign s.If) = true
begins (Sign s.Let) = true
begins (Sign s.Not) = true
begins (Sign s.Null) = true
begins (Sign s.True) = true
begins (Sign s.False) = true
begins (Sign s.Sequence) = true
begins (Sign s.OrderedSet) = true
begins (Sign s.Open) = true
begins (Sign s.Minus) = true
begins _ = false

abbrev pub closes : List Piece → Bool
closes (token (Sign a) ∷ ps) = closer a
closes (token a ∷ ps) = false
closes _ = true

abbrev pub begin : List Piece → Bool
begin (token a ∷ ps) = begins a
begin _ = false

abbrev pub Joins : Token → List Piece → Type 0
Joins a ps = (closes ps ≡ true) ⊎ ((opener a ≡ true) × (begin ps ≡ true))

-- each token spells itself, and may stand before what stands right behind it
abbrev pub Fine : List Piece → Type 0
Fine [] = ⊤
Fine (blank ∷ ps) = Fine ps
Fine (token a ∷ ps) = Spelled a × Joins a ps × Fine ps

-- ---- no token is lengthened

-- by the first byte of a closer, or a space
free_sign : (a : SignName) → (lengthens_sign a 41 ≡ false) × (lengthens_sign a 125 ≡ false) × (lengthens_sign a 44 ≡ false) × (lengthens_sign a 46 ≡ false)
    × (lengthens_sign a 45 ≡ false) × (lengthens_sign a 58 ≡ false) × (lengthens_sign a 40 ≡ false) × (lengthens_sign a 123 ≡ false) × (lengthens_sign a 32 ≡ false)
free_sign s.Less = (refl, refl, refl, refl, refl, refl, refl, refl, refl)
free_sign s.Greater = (refl, refl, refl, refl, refl, refl, refl, refl, refl)
free_sign _ = (refl, refl, refl, refl, refl, refl, refl, refl, refl)

free_token : (a : Token) → (lengthens a 41 ≡ false) × (lengthens a 125 ≡ false) × (lengthens a 44 ≡ false) × (lengthens a 46 ≡ false)
    × (lengthens a 45 ≡ false) × (lengthens a 58 ≡ false) × (lengthens a 40 ≡ false) × (lengthens a 123 ≡ false) × (lengthens a 32 ≡ false)
free_token (Sign a) = free_sign a
free_token (Name v) = (refl, refl, refl, refl, refl, refl, refl, refl, refl)
free_token _ = (refl, refl, refl, refl, refl, refl, refl, refl, refl)

ends_closer : (a : Token) (k : SignName) (rest : List ℕ) → closer k ≡ true → ends_before a (word_of k ++ rest) ≡ true
unfolding word_of
ends_closer a s.Close rest h = ap not (free_token a).0
ends_closer a s.CloseBrace rest h = ap not (free_token a).1
ends_closer a s.Comma rest h = ap not (free_token a).2
ends_closer a s.Dot rest h = ap not (free_token a).3
ends_closer a s.Arrow rest h = ap not (free_token a).4
ends_closer a s.Colons rest h = ap not (free_token a).5
ends_closer a s.Open rest h = ap not (free_token a).6
ends_closer a s.OpenBrace rest h = ap not (free_token a).7
ends_closer a _ rest h = absurd (not_both h)

-- after a prefix minus
minus_front : (front rest : List ℕ) (k : Start) → first_start front ≡ Some k → (b.Sign ≡ k → ⊥) → ends_before (Sign s.Minus) (front ++ rest) ≡ true
minus_front [] rest k e ne = absurd (nothing e)
minus_front (c ∷ front) rest k e ne = elim (cases_eq c 62) [
  | inl same ↦ absurd (ne (some_start (subst (λ d. first_start (d ∷ front) ≡ Some k) same e)))
  | inr other ↦ rw (ne_eqb c 62 other) refl
]

minus_ends : (a : Token) (rest : List ℕ) → Spelled a → begins a ≡ true → ends_before (Sign s.Minus) (bytes_of a ++ rest) ≡ true
unfolding word_of
minus_ends (Name v) rest h e = minus_front v rest b.Word (spelled_start (Name v) v h.0) (λ e. cc)
minus_ends (Integer n) rest h e = minus_front (decimal n) rest b.Integer (spelled_start (Integer n) (decimal n) h.0) (λ e. cc)
minus_ends (Quoted v) rest h e = refl
minus_ends (Sign s.If) rest h e = refl
minus_ends (Sign s.Let) rest h e = refl
minus_ends (Sign s.Not) rest h e = refl
minus_ends (Sign s.Null) rest h e = refl
minus_ends (Sign s.True) rest h e = refl
minus_ends (Sign s.False) rest h e = refl
minus_ends (Sign s.Sequence) rest h e = refl
minus_ends (Sign s.OrderedSet) rest h e = refl
minus_ends (Sign s.Open) rest h e = refl
minus_ends (Sign s.Minus) rest h e = refl
minus_ends _ rest h e = absurd (not_both e)

-- a sign that no byte lengthens
ends_any : (a : Token) → ((c : ℕ) → lengthens a c ≡ false) → (bytes : List ℕ) → ends_before a bytes ≡ true
ends_any a free [] = refl
ends_any a free (c ∷ bytes) = ap not (free c)

ends_opener : (a next : Token) (rest : List ℕ) → opener a ≡ true → Spelled next → begins next ≡ true → ends_before a (bytes_of next ++ rest) ≡ true
ends_opener (Sign s.Open) next rest o h e = ends_any (Sign s.Open) (λ c. refl) (bytes_of next ++ rest)
ends_opener (Sign s.OpenBrace) next rest o h e = ends_any (Sign s.OpenBrace) (λ c. refl) (bytes_of next ++ rest)
ends_opener (Sign s.Minus) next rest o h e = minus_ends next rest h e
ends_opener (Sign s.Dot) next rest o h e = ends_any (Sign s.Dot) (λ c. refl) (bytes_of next ++ rest)
ends_opener (Sign s.Arrow) next rest o h e = ends_any (Sign s.Arrow) (λ c. refl) (bytes_of next ++ rest)
ends_opener (Sign s.Colons) next rest o h e = ends_any (Sign s.Colons) (λ c. refl) (bytes_of next ++ rest)
ends_opener _ next rest o h e = absurd (not_both o)

joined_ends : (a : Token) (ps : List Piece) → Fine ps → Joins a ps → ends_before a (bytes_in ps) ≡ true
unfolding bytes_in
joined_ends a [] f j = refl
joined_ends a (blank ∷ ps) f j = ap not (free_token a).8
joined_ends a (token (Sign k) ∷ ps) f (inl h) = ends_closer a k _ h
joined_ends a (token (Name v) ∷ ps) f (inl h) = absurd (not_both h)
joined_ends a (token (Integer n) ∷ ps) f (inl h) = absurd (not_both h)
joined_ends a (token (Quoted v) ∷ ps) f (inl h) = absurd (not_both h)
joined_ends a (token Bad ∷ ps) f (inl h) = absurd (not_both h)
joined_ends a (token next ∷ ps) f (inr u) = ends_opener a next _ u.0 f.0 u.1

-- ---- the tokens of the bytes

pub lexes_fine : (ps : List Piece) → Fine ps → (offset : ℕ) → (starts : List ℕ) × Lexes offset (bytes_in ps) (tokens_in ps) starts
unfolding bytes_in
lexes_fine [] f offset = ([], lexes_end)
lexes_fine (blank ∷ ps) f offset = let u = lexes_fine ps f (suc offset) in (u.0, lexes_blank refl u.1)
lexes_fine (token a ∷ ps) f offset =
    let u = lexes_fine ps f.2 (offset + length (bytes_of a)) in
    (offset ∷ u.0, spelled_first offset a (bytes_of a) (bytes_in ps) (tokens_in ps) u.0 f.0.0 f.0.1 (joined_ends a ps f.2 f.1) u.1)
