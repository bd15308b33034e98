-- What the first byte of a text says of the token that begins it.
use Rattle.std.proofs.Common.{◌≡◌, ℕ, ◌≤◌, ◌<◌, ◌⊎◌, inl, inr, Bool, true, false, cond, List, [], ◌∷◌, ◌++◌, length, Some, None, refl, sym, ap, ◌∙◌, subst, arith}
use Rattle.std.specs.Prelude.{◌==◌, not}
use Rattle.std.specs.List.{list_all}
use Rattle.std.specs.Char.{is_ascii_digit, digit_value}
use Rattle.std.specs.Str.{byte}
use Rattle.std.specs.Str.Parse.{IsNumeral, AllDigits, digits_value}
use Rattle.std.proofs.lemmas.Bool.{and_parts, and_from, leb-true}
use Rattle.std.proofs.lemmas.Bool.Decides.{nat_tests}
use Rattle.wb_aql_tokens.specs.Lexes.{word_of, is_expression_name, is_reserved, is_quotable, Quotes, Spelling, NoToken}
use Rattle.wb_base.specs.Names.{is_name, is_name_start, is_name_byte, starts_name}
use Rattle.wb_aql_tokens.specs.Lexer.{start_of, first_start}
use Rattle.wb_aql_tokens.specs.declared.characters.Start.{Start}
use Rattle.wb_aql_tokens.specs.declared.characters.Start.TheVariants as b
use Rattle.wb_aql_tokens.specs.declared.token.Token.{Token}
use Rattle.wb_aql_tokens.specs.declared.token.Token.TheVariants.{Sign, Name, Integer, Quoted, Bad}
use Rattle.wb_aql_tokens.specs.declared.token.Sign.{Sign as SignName}
use Rattle.wb_aql_tokens.proofs.Words.{Shape, is_word, is_short, is_long, shape}

-- ---- starts

word_chosen : (w d q : Bool) → cond w b.Word (cond d b.Integer (cond q b.Quoted b.Sign)) ≡ b.Word → w ≡ true
word_chosen true d q e = refl
word_chosen false true q e = cc
word_chosen false false true e = cc
word_chosen false false false e = cc

digit_chosen : (w d q : Bool) → cond w b.Word (cond d b.Integer (cond q b.Quoted b.Sign)) ≡ b.Integer → d ≡ true
digit_chosen true d q e = cc
digit_chosen false true q e = refl
digit_chosen false false true e = cc
digit_chosen false false false e = cc

pub starts_word : (c : ℕ) → start_of c ≡ b.Word → is_name_start c ≡ true
starts_word c e = word_chosen _ _ _ e

pub starts_integer : (c : ℕ) → start_of c ≡ b.Integer → is_ascii_digit c ≡ true
starts_integer c e = digit_chosen _ _ _ e

pub word_starts : (c : ℕ) → is_name_start c ≡ true → start_of c ≡ b.Word
word_starts c e = ap (λ w. cond w b.Word (cond (is_ascii_digit c) b.Integer (cond (c == byte "'") b.Quoted b.Sign))) e

no_letter : (c : ℕ) → is_ascii_digit c ≡ true → is_name_start c ≡ false
no_letter c e = grind (arith, nat_tests)

pub integer_starts : (c : ℕ) → is_ascii_digit c ≡ true → start_of c ≡ b.Integer
integer_starts c e =
    ap (λ w. cond w b.Word (cond (is_ascii_digit c) b.Integer (cond (c == byte "'") b.Quoted b.Sign))) (no_letter c e)
    ∙ ap (λ d. cond d b.Integer (cond (c == byte "'") b.Quoted b.Sign)) e

pub start_is_name_byte : (c : ℕ) → is_name_start c ≡ true → is_name_byte c ≡ true
start_is_name_byte c e = grind (arith, nat_tests)

-- ---- digits

digit : (c : ℕ) → is_ascii_digit c ≡ true → digit_value c < 10
digit c e = grind (arith, nat_tests)

pub from_digit : (c : ℕ) → digit_value c < 10 → is_ascii_digit c ≡ true
from_digit c e = grind (arith, nat_tests)

pub all_digits : (bytes : List ℕ) → list_all is_ascii_digit bytes ≡ true → AllDigits 10 bytes
all_digits [] h = tt
all_digits (c ∷ bytes) h = let u = and_parts _ _ h in (digit c u.0, all_digits bytes u.1)

pub from_all_digits : (bytes : List ℕ) → AllDigits 10 bytes → list_all is_ascii_digit bytes ≡ true
from_all_digits [] h = refl
from_all_digits (c ∷ bytes) h = and_from _ _ (from_digit c h.0) (from_all_digits bytes h.1)

-- ---- what a token begins with

-- the start of its bytes
abbrev pub start : Token → Start
start (Sign sign) = elim (first_start (word_of sign)) [ None ↦ b.Sign | Some s ↦ s ]
start (Name name) = b.Word
start (Integer n) = b.Integer
start (Quoted value) = b.Quoted
start Bad = b.Sign

pub some_start : {x y : Start} → Some x ≡ Some y → x ≡ y
some_start e = cc

pub nothing : {x : Start} → None ≡ Some x → ⊥
nothing e = cc

sign_begins : (sign : SignName) → Shape sign → first_start (word_of sign) ≡ Some (start (Sign sign))
sign_begins sign (is_word e _ _ _) = e ∙ ap (λ s. Some (elim s [ None ↦ b.Sign | Some x ↦ x ])) (sym e)
sign_begins sign (is_short e _) = e ∙ ap (λ s. Some (elim s [ None ↦ b.Sign | Some x ↦ x ])) (sym e)
sign_begins sign (is_long e _) = e ∙ ap (λ s. Some (elim s [ None ↦ b.Sign | Some x ↦ x ])) (sym e)

name_starts : (name : List ℕ) → starts_name name ≡ true → first_start name ≡ Some b.Word
name_starts [] h = cc
name_starts (c ∷ name) h = ap (λ x. Some x) (word_starts c h)

-- what a name is
pub record IsName (name : List ℕ) : Type 0 where
  pub short : length name ≤ 64
  pub starts : starts_name name ≡ true
  pub bytes : list_all is_name_byte name ≡ true
  pub free : is_reserved name ≡ false

not_true : (t : Bool) → not t ≡ true → t ≡ false
not_true true e = cc
not_true false e = refl

pub name_parts : (name : List ℕ) → is_expression_name name ≡ true → IsName name
unfolding is_expression_name is_name
name_parts name h =
    let a = and_parts _ _ h in
    let c = and_parts _ _ a.0 in
    let d = and_parts _ _ c.0 in
    record { short = leb-true _ _ d.0; starts = d.1; bytes = c.1; free = not_true _ a.1 }

-- what spells a token begins as the token does
pub spelled_start : (token : Token) (front : List ℕ) → Spelling token front → first_start front ≡ Some (start token)
spelled_start (Sign sign) front h = ap first_start h ∙ sign_begins sign (shape sign)
spelled_start (Name name) front h = ap first_start h.0 ∙ name_starts name (name_parts name h.1).starts
spelled_start (Integer n) [] h = absurd (omega (arith, h.0.0))
spelled_start (Integer n) (c ∷ front) h = ap (λ x. Some x) (integer_starts c (from_digit c h.0.1.0))
spelled_start (Quoted value) front h = ap first_start h.0.whole
spelled_start Bad front h = absurd h

pub starts_more : (front rest : List ℕ) (s : Start) → first_start front ≡ Some s → first_start (front ++ rest) ≡ Some s
starts_more [] rest s e = absurd (nothing e)
starts_more (c ∷ front) rest s e = e

pub token_start : {text : List ℕ} (s : Start) (token : Token) (front rest : List ℕ) → first_start text ≡ Some s → text ≡ front ++ rest → Spelling token front → start token ≡ s
token_start s token front rest e whole h = some_start (sym (starts_more front rest _ (spelled_start token front h)) ∙ sym (ap first_start whole) ∙ e)

pub no_token : NoToken []
no_token token [] rest e next = nothing (spelled_start token [] next.spelled)
no_token token (c ∷ front) rest e next = cc

-- ---- the bytes of a token, by its start

pub word_bytes : (token : Token) (front : List ℕ) → Spelling token front → start token ≡ b.Word → (list_all is_name_byte front ≡ true) × (length front ≤ 64)
word_bytes (Sign sign) front h e = subst (λ bytes. (list_all is_name_byte bytes ≡ true) × (length bytes ≤ 64)) (sym h) (elim (shape sign) [
  | is_word _ all short _ ↦ (all, short)
  | is_short s _ ↦ absurd (let f : Some b.Sign ≡ Some b.Word = sym s ∙ sign_begins sign (shape sign) ∙ ap (λ x. Some x) e in cc)
  | is_long s _ ↦ absurd (let f : Some b.Sign ≡ Some b.Word = sym s ∙ sign_begins sign (shape sign) ∙ ap (λ x. Some x) e in cc)
])
word_bytes (Name name) front h e = let u = name_parts name h.1 in subst (λ bytes. (list_all is_name_byte bytes ≡ true) × (length bytes ≤ 64)) (sym h.0) (u.bytes, u.short)
word_bytes (Integer n) front h e = cc
word_bytes (Quoted value) front h e = cc
word_bytes Bad front h e = absurd h

sign_is : (sign : SignName) (s : Start) → start (Sign sign) ≡ s → (s ≡ b.Word) ⊎ (s ≡ b.Sign)
sign_is sign s e =
    let begins : first_start (word_of sign) ≡ Some s = sign_begins sign (shape sign) ∙ ap (λ x. Some x) e in
    elim (shape sign) [
      | is_word f _ _ _ ↦ inl (some_start (sym begins ∙ f))
      | is_short f _ ↦ inr (some_start (sym begins ∙ f))
      | is_long f _ ↦ inr (some_start (sym begins ∙ f))
    ]

pub integer_bytes : (token : Token) (front : List ℕ) → Spelling token front → start token ≡ b.Integer → (token ≡ Integer (digits_value 10 front)) × IsNumeral 10 front
integer_bytes (Sign sign) front h e = elim (sign_is sign b.Integer e) [ inl f ↦ absurd (cc) | inr f ↦ absurd (cc) ]
integer_bytes (Name name) front h e = cc
integer_bytes (Integer n) front h e = (ap (λ x. Integer x) h.1, h.0)
integer_bytes (Quoted value) front h e = cc
integer_bytes Bad front h e = absurd h

pub quoted_bytes : (token : Token) (front : List ℕ) → Spelling token front → start token ≡ b.Quoted → (value : List ℕ) × (token ≡ Quoted value) × Quotes value front × (is_quotable value ≡ true)
quoted_bytes (Sign sign) front h e = elim (sign_is sign b.Quoted e) [ inl f ↦ absurd (cc) | inr f ↦ absurd (cc) ]
quoted_bytes (Name name) front h e = cc
quoted_bytes (Integer n) front h e = cc
quoted_bytes (Quoted value) front h e = (value, refl, h.0, h.1)
quoted_bytes Bad front h e = absurd h

pub sign_bytes : (token : Token) (front : List ℕ) → Spelling token front → start token ≡ b.Sign → (sign : SignName) × (token ≡ Sign sign) × (front ≡ word_of sign) × ((length (word_of sign) ≡ 1) ⊎ (length (word_of sign) ≡ 2))
sign_bytes (Sign sign) front h e = (
  sign,
  refl,
  h,
  elim (shape sign) [
    | is_word f _ _ _ ↦ absurd (let g : Some b.Word ≡ Some b.Sign = sym f ∙ sign_begins sign (shape sign) ∙ ap (λ x. Some x) e in cc)
    | is_short _ n ↦ inl n
    | is_long _ n ↦ inr n
  ],
)
sign_bytes (Name name) front h e = cc
sign_bytes (Integer n) front h e = cc
sign_bytes (Quoted value) front h e = cc
sign_bytes Bad front h e = absurd h

pub low_name_byte : (c : ℕ) → is_name_byte c ≡ true → c < 128
low_name_byte c e = grind (arith, nat_tests)

pub low_digit : (c : ℕ) → is_ascii_digit c ≡ true → c < 128
low_digit c e = grind (arith, nat_tests)
