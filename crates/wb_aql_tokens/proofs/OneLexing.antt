-- A text has its tokens in one way, each within its bounds.
use Rattle.std.proofs.Common.{◌≡◌, ℕ, suc, ◌+◌, Bool, true, false, List, [], ◌∷◌, ◌++◌, length, Some, refl, sym, ap, ◌∙◌, subst, append-nil, arith, true≢false, inl, inr}
use Rattle.std.specs.List.{list_all}
use Rattle.std.specs.Char.{is_ascii_digit}
use Rattle.std.specs.Str.{byte}
use Rattle.std.proofs.lemmas.Bool.{and_from}
use Rattle.std.proofs.lemmas.Bool.Decides.{nat_tests}
use Rattle.std.proofs.lemmas.List.{append_cancel_left}
use Rattle.wb_aql_tokens.specs.Lexes.{word_of, is_expression_name, is_blank, is_within, Quotes, Spelling, IsNext, NoToken, Lexes, lexes_end, lexes_blank, lexes_token, lexes_bad}
use Rattle.wb_base.specs.Names.{is_name_start, starts_name}
use Rattle.wb_aql_tokens.specs.declared.characters.Start.TheVariants as b
use Rattle.wb_aql_tokens.specs.declared.token.Token.{Token}
use Rattle.wb_aql_tokens.specs.declared.token.Token.TheVariants.{Sign, Name, Integer, Quoted, Bad}
use Rattle.wb_aql_tokens.specs.declared.token.Sign.{Sign as SignName}
use Rattle.wb_aql_tokens.specs.declared.token.Sign.TheVariants as s
use Rattle.wb_aql_tokens.proofs.Words.{is_word, is_short, is_long, shape, same_sign}
use Rattle.wb_aql_tokens.proofs.Spellings.{name_parts, from_digit, start, spelled_start, some_start, nothing, no_token, integer_bytes, quoted_bytes}
use Rattle.wb_aql_tokens.proofs.Pieces.{same_pieces, quote_stops}
use Rattle.wb_aql_tokens.proofs.Next.{fronts}

-- ---- the same bytes spell one token

same_quotes : (value known front : List ℕ) → Quotes value front → Quotes known front → value ≡ known
same_quotes value known front q r =
    let both : byte "'" ∷ (q.inside ++ (byte "'" ∷ [])) ≡ byte "'" ∷ (r.inside ++ (byte "'" ∷ [])) = sym q.whole ∙ r.whole in
    let tails : q.inside ++ (byte "'" ∷ []) ≡ r.inside ++ (byte "'" ∷ []) = cc in
    (same_pieces q.means r.means _ _ tails (quote_stops []) (quote_stops [])).1

-- a name is no reserved word, and no sign
pub no_sign_name : (sign : SignName) → is_expression_name (word_of sign) ≡ true → ⊥
no_sign_name sign h = let name = name_parts (word_of sign) h in elim (shape sign) [
  | is_word _ _ _ reserved ↦ true≢false (sym reserved ∙ name.free)
  | is_short f _ ↦ let wrong : Some b.Word ≡ Some b.Sign = sym (spelled_start (Name (word_of sign)) (word_of sign) (refl, h)) ∙ f in cc
  | is_long f _ ↦ let wrong : Some b.Word ≡ Some b.Sign = sym (spelled_start (Name (word_of sign)) (word_of sign) (refl, h)) ∙ f in cc
]

sign_or_name : (sign : SignName) (name front : List ℕ) → Spelling (Sign sign) front → Spelling (Name name) front → ⊥
sign_or_name sign name front h k = no_sign_name sign (subst (λ bytes. is_expression_name bytes ≡ true) (sym k.0 ∙ h) k.1)

pub one_spelled : (x y : Token) (front : List ℕ) → Spelling x front → Spelling y front → x ≡ y
one_spelled (Integer n) y front h k =
    let e : start y ≡ b.Integer = some_start (sym (spelled_start y front k) ∙ spelled_start (Integer n) front h) in
    ap (λ v. Integer v) h.1 ∙ sym (integer_bytes y front k e).0
one_spelled (Quoted value) y front h k =
    let e : start y ≡ b.Quoted = some_start (sym (spelled_start y front k) ∙ spelled_start (Quoted value) front h) in
    let u = quoted_bytes y front k e in
    ap (λ v. Quoted v) (same_quotes value u.0 front h.0 u.2) ∙ sym u.1
one_spelled x (Integer n) front h k =
    let e : start x ≡ b.Integer = some_start (sym (spelled_start x front h) ∙ spelled_start (Integer n) front k) in
    (integer_bytes x front h e).0 ∙ sym (ap (λ v. Integer v) k.1)
one_spelled x (Quoted value) front h k =
    let e : start x ≡ b.Quoted = some_start (sym (spelled_start x front h) ∙ spelled_start (Quoted value) front k) in
    let u = quoted_bytes x front h e in
    u.1 ∙ ap (λ v. Quoted v) (same_quotes u.0 value front u.2 k.0)
one_spelled (Sign x) (Sign y) front h k = ap (λ z. Sign z) (same_sign x y (sym h ∙ k))
one_spelled (Sign x) (Name name) front h k = absurd (sign_or_name x name front h k)
one_spelled (Name name) (Sign y) front h k = absurd (sign_or_name y name front k h)
one_spelled (Name name) (Name other) front h k = ap (λ v. Name v) (sym h.0 ∙ k.0)
one_spelled Bad y front h k = absurd h
one_spelled x Bad front h k = absurd k

-- ---- one token is next

pub one_next : (x y : Token) (front other rest behind : List ℕ) → front ++ rest ≡ other ++ behind → IsNext x front rest → IsNext y other behind → (x ≡ y) × (front ≡ other) × (rest ≡ behind)
one_next x y front other rest behind e h k =
    let same : front ≡ other = elim (fronts front rest other behind e) [
      | inl u ↦ let more = h.longest y u.0 behind u.2 (subst (Spelling y) u.1 k.spelled) in sym (u.1 ∙ ap (λ m. front ++ m) more ∙ append-nil front)
      | inr u ↦ let more = k.longest x u.0 rest u.2 (subst (Spelling x) u.1 h.spelled) in u.1 ∙ ap (λ m. other ++ m) more ∙ append-nil other
    ] in (
      one_spelled x y other (subst (Spelling x) same h.spelled) k.spelled,
      same,
      append_cancel_left other rest behind (subst (λ f. f ++ rest ≡ other ++ behind) same e),
    )

-- ---- no token begins with a blank

start_not_blank : (c : ℕ) → is_name_start c ≡ true → is_blank c ≡ false
start_not_blank c e = grind (arith, nat_tests)

digit_not_blank : (c : ℕ) → is_ascii_digit c ≡ true → is_blank c ≡ false
digit_not_blank c e = grind (arith, nat_tests)

abbrev first_blank : List ℕ → Bool
first_blank [] = false
first_blank (c ∷ text) = is_blank c

no_blank_sign : (sign : SignName) → first_blank (word_of sign) ≡ false
unfolding word_of
no_blank_sign s.If = refl
no_blank_sign _ = refl

no_blank_name : (name : List ℕ) → starts_name name ≡ true → first_blank name ≡ false
no_blank_name [] h = refl
no_blank_name (c ∷ name) h = start_not_blank c h

no_blank_first : (token : Token) (front : List ℕ) → Spelling token front → first_blank front ≡ false
no_blank_first (Sign sign) front h = ap first_blank h ∙ no_blank_sign sign
no_blank_first (Name name) front h = ap first_blank h.0 ∙ no_blank_name name (name_parts name h.1).starts
no_blank_first (Integer n) [] h = refl
no_blank_first (Integer n) (c ∷ front) h = digit_not_blank c (from_digit c h.0.1.0)
no_blank_first (Quoted value) front h = ap first_blank h.0.whole
no_blank_first Bad front h = absurd h

pub blank_no_token : (c : ℕ) (text : List ℕ) → is_blank c ≡ true → NoToken (c ∷ text)
blank_no_token c text blank token [] rest e next = nothing (spelled_start token [] next.spelled)
blank_no_token c text blank token (d ∷ front) rest e next =
    let heads : c ≡ d = cc in
    true≢false (sym blank ∙ ap is_blank heads ∙ no_blank_first token (d ∷ front) next.spelled)

-- ---- one lexing

pub one_text : {offset : ℕ} {text : List ℕ} {tokens : List Token} {starts : List ℕ} → Lexes offset text tokens starts → (others : List Token) (places : List ℕ) → Lexes offset text others places → (tokens ≡ others) × (starts ≡ places)
one_text lexes_end others places lexes_end = (refl, refl)
one_text lexes_end others places (lexes_token {front = front} {rest = rest} {token = token} whole next on) = absurd (no_token token front rest whole next)
one_text (lexes_blank blank d) others places (lexes_blank blank' d') = one_text d others places d'
one_text (lexes_blank {c = c} {text = text} blank d) others places (lexes_token {front = front} {rest = rest} {token = token} whole next on) = absurd (blank_no_token c text blank token front rest whole next)
one_text (lexes_blank blank d) others places (lexes_bad free none) = absurd (true≢false (sym blank ∙ free))
one_text (lexes_token {front = front} {rest = rest} {token = token} whole next on) others places lexes_end = absurd (no_token token front rest whole next)
one_text (lexes_token {front = front} {rest = rest} {token = token} whole next on) others places (lexes_blank {c = c} {text = text} blank d) = absurd (blank_no_token c text blank token front rest whole next)
one_text (lexes_token {offset = offset} {front = front} {rest = rest} {token = token} whole next on) others places (lexes_token {front = other} {rest = behind} {token = another} {tokens = more} {starts = later} whole' next' on') =
    let u = one_next token another front other rest behind (sym whole ∙ whole') next next' in
    let moved : Lexes (offset + length front) rest more later = subst (λ r. Lexes (offset + length front) r more later) (sym u.2) (subst (λ f. Lexes (offset + length f) behind more later) (sym u.1) on') in
    let v = one_text on more later moved in
    (cc (u.0, v.0), cc (v.1))
one_text (lexes_token {front = front} {rest = rest} {token = token} whole next on) others places (lexes_bad free none) = absurd (none token front rest whole next)
one_text (lexes_bad free none) others places (lexes_blank blank d) = absurd (true≢false (sym blank ∙ free))
one_text (lexes_bad free none) others places (lexes_token {front = front} {rest = rest} {token = token} whole next on) = absurd (none token front rest whole next)
one_text (lexes_bad free none) others places (lexes_bad free' none') = (refl, refl)

-- ---- what the tokens of a text are

pub all_within : {offset : ℕ} {text : List ℕ} {tokens : List Token} {starts : List ℕ} → Lexes offset text tokens starts → list_all is_within tokens ≡ true
all_within lexes_end = refl
all_within (lexes_blank blank d) = all_within d
all_within (lexes_token whole next on) = and_from _ _ next.within (all_within on)
all_within (lexes_bad free none) = refl

pub each_starts : {offset : ℕ} {text : List ℕ} {tokens : List Token} {starts : List ℕ} → Lexes offset text tokens starts → length starts ≡ length tokens
each_starts lexes_end = refl
each_starts (lexes_blank blank d) = each_starts d
each_starts (lexes_token whole next on) = ap (λ n. suc n) (each_starts on)
each_starts (lexes_bad free none) = refl
