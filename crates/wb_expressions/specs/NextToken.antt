-- The token that begins a text, or that none does: a function of the text.
use Rattle.std.proofs.Common.{◌≡◌, ◌≢◌, ℕ, zero, suc, ◌≤◌, ◌⊎◌, inl, inr, Bool, true, false, cond, List, [], ◌∷◌, ◌++◌, length, take, drop, min, Option, Some, None, refl, sym, ap, ◌∙◌, subst, append_assoc, take-append-drop, true≢false, arith}
use Rattle.std.specs.Prelude.{bytes_eq}
use Rattle.std.specs.List.{list_any, prefix_len}
use Rattle.std.specs.Char.{is_ascii_digit}
use Rattle.std.specs.Str.{byte}
use Rattle.std.specs.Str.Parse.{digits_value}
use Rattle.std.proofs.lemmas.Bool.{cases_lt, or_from, eqb-true}
use Rattle.std.proofs.lemmas.Slice.Eq.{bytes_eq-Decides}
use Rattle.std.proofs.Math.Seq.{take-append_seam}
use Rattle.wb_aql_tokens.specs.Lexes.{word_of, is_reserved, reserved, is_quotable, escape_of, largest_integer, means_none, means_escaped, NoToken}
use Rattle.wb_base.specs.Names.{is_name_byte}
use Rattle.wb_aql_tokens.specs.Lexer.{start_of, first_start, BeginsWith, BeginsWithSign, BeginsWithEscape, BeginsWithPiece, NoSignOf, NoEscape, NoPiece, Unescapes}
use Rattle.wb_aql_tokens.specs.declared.characters.Start.{Start}
use Rattle.wb_aql_tokens.specs.declared.characters.Start.TheVariants as b
use Rattle.wb_aql_tokens.specs.declared.token.Token.{Token}
use Rattle.wb_aql_tokens.specs.declared.token.Token.TheVariants.{Sign, Name, Integer, Quoted}
use Rattle.wb_aql_tokens.specs.declared.token.Sign.{Sign as SignName}
use Rattle.wb_aql_tokens.specs.declared.token.Sign.TheVariants as s
use Rattle.wb_aql_tokens.proofs.Spellings.{no_token}
use Rattle.wb_aql_tokens.proofs.Next.{word_next, is_a_name, integer_next, integer_none, long_next, short_next, sign_none}
use Rattle.wb_aql_tokens.proofs.Pieces.{means_more, nothing_stops, quote_stops, escape_piece, raw_piece, piece_has_bytes, quoted_next, unquotable_none, unended_none}

-- a token that begins the text, and what follows it
pub record Found (text : List ℕ) : Type 0 where
  pub token : Token
  pub rest : List ℕ
  pub begins : BeginsWith text token rest

-- ---- numbers and words are the same, or not

same_number : (c d : ℕ) → (c ≡ d) ⊎ (c ≢ d)
same_number zero zero = inl refl
same_number zero (suc d) = inr (λ e. omega (arith, e))
same_number (suc c) zero = inr (λ e. omega (arith, e))
same_number (suc c) (suc d) = elim (same_number c d) [ inl e ↦ inl (ap suc e) | inr f ↦ inr (λ e. f (omega (arith, e))) ]

-- a sign among these has the bytes, or none has
sign_among : (bytes : List ℕ) (signs : List SignName) → ((sign : SignName) × (bytes ≡ word_of sign)) ⊎ (list_any (λ sign. bytes_eq (word_of sign) bytes) signs ≡ false)
sign_among bytes [] = inr refl
sign_among bytes (sign ∷ signs) = by (bytes_eq (word_of sign) bytes) refl (sign_among bytes signs)
  where
    by : (t : Bool) → bytes_eq (word_of sign) bytes ≡ t → ((x : SignName) × (bytes ≡ word_of x)) ⊎ (list_any (λ x. bytes_eq (word_of x) bytes) signs ≡ false) →
        ((x : SignName) × (bytes ≡ word_of x)) ⊎ (list_any (λ x. bytes_eq (word_of x) bytes) (sign ∷ signs) ≡ false)
    by true e later = inl (sign, sym ((bytes_eq-Decides (word_of sign) bytes).0 e))
    by false e (inl u) = inl u
    by false e (inr none) = inr (or_from _ _ e none)

-- ---- names and reserved words

reserved_word : (bytes : List ℕ) → ((sign : SignName) × (bytes ≡ word_of sign)) ⊎ (is_reserved bytes ≡ false)
unfolding is_reserved
reserved_word bytes = sign_among bytes reserved

word : (text : List ℕ) → first_start text ≡ Some b.Word → Found text
word text begins =
    let n = min (prefix_len is_name_byte text) 64 in
    elim (reserved_word (take n text)) [
      | inl u ↦ record { token = Sign u.0; rest = drop n text; begins = word_next text n refl begins (Sign u.0) u.1 refl }
      | inr free ↦
          let named = is_a_name text n refl begins free in
          record { token = Name (take n text); rest = drop n text; begins = word_next text n refl begins (Name (take n text)) (refl, named) named }
    ]

-- ---- integers

integer : (text : List ℕ) → first_start text ≡ Some b.Integer → Found text ⊎ NoToken text
integer text begins =
    let n = prefix_len is_ascii_digit text in
    let value = digits_value 10 (take n text) in
    elim (cases_lt largest_integer value) [
      | inl large ↦ inr (integer_none text begins large)
      | inr small ↦ inl record { token = Integer value; rest = drop n text; begins = integer_next text begins value refl small }
    ]

-- ---- texts in quotes

record Escape (bytes : List ℕ) : Type 0 where
  meaning : ℕ
  rest : List ℕ
  begins : BeginsWithEscape bytes meaning rest

escape : (bytes : List ℕ) → Escape bytes ⊎ NoEscape bytes
escape [] = inr (λ code rest e. cc)
escape (code ∷ rest) = by (escape_of code) refl
  where
    by : (found : Option ℕ) → escape_of code ≡ found → Escape (code ∷ rest) ⊎ NoEscape (code ∷ rest)
    by (Some meaning) e = inl record { meaning = meaning; rest = rest; begins = record { code = code; whole = refl; escape = e } }
    by None e = inr (λ other more same. let heads : code ≡ other = cc in subst (λ c. escape_of c ≡ None) heads e)

record Piece (bytes : List ℕ) : Type 0 where
  meaning : ℕ
  rest : List ℕ
  begins : BeginsWithPiece bytes meaning rest

escaped : (c : ℕ) (rest : List ℕ) → c ≡ byte "\\" → Escape rest ⊎ NoEscape rest → Piece (c ∷ rest) ⊎ NoPiece (c ∷ rest)
escaped c rest slash (inl u) = inl record {
  meaning = u.meaning;
  rest = u.rest;
  begins = record {
    piece = c ∷ u.begins.code ∷ [];
    whole = ap (λ xs. c ∷ xs) u.begins.whole;
    means = means_escaped slash u.begins.escape means_none;
  };
}
escaped c rest slash (inr wrong) = inr (escape_piece (c ∷ rest) rest (ap (λ d. d ∷ rest) slash) None wrong)

piece : (bytes : List ℕ) → Piece bytes ⊎ NoPiece bytes
piece [] = inr nothing_stops
piece (c ∷ rest) = by (same_number c (byte "\\")) (same_number c (byte "'"))
  where
    by : (c ≡ byte "\\") ⊎ (c ≢ byte "\\") → (c ≡ byte "'") ⊎ (c ≢ byte "'") → Piece (c ∷ rest) ⊎ NoPiece (c ∷ rest)
    by (inl slash) quote = escaped c rest slash (escape rest)
    by (inr no_slash) (inl quote) = inr (subst (λ d. NoPiece (d ∷ rest)) (sym quote) (quote_stops rest))
    by (inr no_slash) (inr no_quote) = inl record { meaning = c; rest = rest; begins = raw_piece (c ∷ rest) rest c refl no_slash no_quote }

-- what the pieces that begin the bytes mean together
record Unescaped (bytes : List ℕ) : Type 0 where
  value : List ℕ
  rest : List ℕ
  unescapes : Unescapes bytes value rest

no_more : (bytes : List ℕ) → NoPiece bytes → Unescaped bytes
no_more bytes stops = record { value = []; rest = bytes; unescapes = record { front = []; whole = refl; means = means_none; stops = stops } }

one_more : (bytes : List ℕ) (u : Piece bytes) → Unescaped u.rest → Unescaped bytes
one_more bytes u more =
    let first = u.begins.piece in
    let others = more.unescapes.front in
    record {
      value = u.meaning ∷ more.value;
      rest = more.rest;
      unescapes = record {
        front = first ++ others;
        whole = u.begins.whole ∙ ap (λ r. first ++ r) more.unescapes.whole ∙ sym (append_assoc first others more.rest);
        means = means_more u.begins.means more.unescapes.means;
        stops = more.unescapes.stops;
      };
    }

unescaped : (steps : ℕ) (bytes : List ℕ) → length bytes ≤ steps → Unescaped bytes
unescaped zero bytes short = elim (piece bytes) [ inl u ↦ absurd (omega (arith, piece_has_bytes u.begins)) | inr stops ↦ no_more bytes stops ]
unescaped (suc steps) bytes short = elim (piece bytes) [
  | inl u ↦ one_more bytes u (unescaped steps u.rest (omega (arith, piece_has_bytes u.begins)))
  | inr stops ↦ no_more bytes stops
]

behind_quote : (bytes : List ℕ) → ((rest : List ℕ) × (bytes ≡ byte "'" ∷ rest)) ⊎ ((rest : List ℕ) → bytes ≢ byte "'" ∷ rest)
behind_quote [] = inr (λ rest e. cc)
behind_quote (c ∷ bytes) = elim (same_number c (byte "'")) [
  | inl e ↦ inl (bytes, ap (λ d. d ∷ bytes) e)
  | inr f ↦ inr (λ rest e. f (cc))
]

quoted : (inside : List ℕ) → Found (byte "'" ∷ inside) ⊎ NoToken (byte "'" ∷ inside)
quoted inside = ended (unescaped (length inside) inside (omega arith))
  where
    closed : (u : Unescaped inside) (rest : List ℕ) → u.rest ≡ byte "'" ∷ rest → (t : Bool) → is_quotable u.value ≡ t → Found (byte "'" ∷ inside) ⊎ NoToken (byte "'" ∷ inside)
    closed u rest e true ok = inl record { token = Quoted u.value; rest = rest; begins = quoted_next inside u.value u.rest u.unescapes rest e ok }
    closed u rest e false bad = inr (unquotable_none inside u.value u.rest u.unescapes bad)

    ended : Unescaped inside → Found (byte "'" ∷ inside) ⊎ NoToken (byte "'" ∷ inside)
    ended u = elim (behind_quote u.rest) [
      | inl v ↦ closed u v.0 v.1 (is_quotable u.value) refl
      | inr none ↦ inr (unended_none inside u.value u.rest u.unescapes none)
    ]

-- ---- signs

all : List SignName
all = s.If ∷ s.Then ∷ s.Else ∷ s.Endif ∷ s.Let ∷ s.In ∷ s.And ∷ s.Or ∷ s.Xor ∷ s.Implies ∷ s.Not ∷ s.Div ∷ s.Null ∷ s.True ∷ s.False ∷ s.Sequence ∷ s.OrderedSet ∷ s.Equal ∷ s.Less ∷ s.Greater ∷ s.Plus ∷ s.Minus ∷ s.Times ∷ s.Dot ∷ s.Comma ∷ s.Bar ∷ s.Open ∷ s.Close ∷ s.OpenBrace ∷ s.CloseBrace ∷ s.NotEqual ∷ s.LessEqual ∷ s.GreaterEqual ∷ s.Arrow ∷ s.Colons ∷ []

has_bytes : (bytes : List ℕ) → Bool
has_bytes bytes = list_any (λ sign. bytes_eq (word_of sign) bytes) all

each_has : (sign : SignName) → has_bytes (word_of sign) ≡ true
unfolding word_of has_bytes all
each_has s.If = refl
each_has _ = refl

no_sign_has : (bytes : List ℕ) (sign : SignName) → bytes ≡ word_of sign → has_bytes bytes ≡ false → ⊥
no_sign_has bytes sign e none = true≢false (sym (ap has_bytes e ∙ each_has sign) ∙ none)

-- the sign of these bytes, or no sign has them
sign_of : (bytes : List ℕ) → ((sign : SignName) × (bytes ≡ word_of sign)) ⊎ ((sign : SignName) → bytes ≢ word_of sign)
unfolding has_bytes
sign_of bytes = elim (sign_among bytes all) [ inl u ↦ inl u | inr none ↦ inr (λ sign e. no_sign_has bytes sign e none) ]

record FoundSign (size : ℕ) (text : List ℕ) : Type 0 where
  sign : SignName
  rest : List ℕ
  begins : BeginsWithSign size text sign rest

sign_of_size : (size : ℕ) (text : List ℕ) → FoundSign size text ⊎ NoSignOf size text
sign_of_size size text = by (sign_of (take size text))
  where
    front : (x : SignName) (rest : List ℕ) → text ≡ word_of x ++ rest → length (word_of x) ≡ size → take size text ≡ word_of x
    front x rest whole same = ap (take size) whole ∙ ap (λ n. take n (word_of x ++ rest)) (sym same) ∙ take-append_seam (word_of x) rest

    sized : (u : (sign : SignName) × (take size text ≡ word_of sign)) → (length (word_of u.0) ≡ size) ⊎ (length (word_of u.0) ≢ size) → FoundSign size text ⊎ NoSignOf size text
    sized u (inl same) = inl record {
      sign = u.0;
      rest = drop size text;
      begins = record { whole = sym (take-append-drop size text) ∙ ap (λ w. w ++ drop size text) u.1; same = same };
    }
    sized u (inr other) = inr (λ x rest whole same. absurd (other (ap length (sym u.1 ∙ front x rest whole same) ∙ same)))

    by : ((sign : SignName) × (take size text ≡ word_of sign)) ⊎ ((sign : SignName) → take size text ≢ word_of sign) → FoundSign size text ⊎ NoSignOf size text
    by (inl u) = sized u (same_number (length (word_of u.0)) size)
    by (inr none) = inr (λ x rest whole same. absurd (none x (front x rest whole same)))

sign : (text : List ℕ) → first_start text ≡ Some b.Sign → Found text ⊎ NoToken text
sign text begins = elim (sign_of_size 2 text) [
  | inl u ↦ inl record { token = Sign u.sign; rest = u.rest; begins = long_next text begins u.sign u.rest u.begins }
  | inr no_long ↦ elim (sign_of_size 1 text) [
    | inl u ↦ inl record { token = Sign u.sign; rest = u.rest; begins = short_next text begins no_long u.sign u.rest u.begins }
    | inr no_short ↦ inr (sign_none text begins no_long no_short)
  ]
]

-- ---- the next token

quote_chosen : (w d q : Bool) → cond w b.Word (cond d b.Integer (cond q b.Quoted b.Sign)) ≡ b.Quoted → q ≡ true
quote_chosen true d q e = cc
quote_chosen false true q e = cc
quote_chosen false false true e = refl
quote_chosen false false false e = cc

starts_quoted : (c : ℕ) → start_of c ≡ b.Quoted → c ≡ byte "'"
starts_quoted c e = eqb-true _ _ (quote_chosen _ _ _ e)

-- a token begins the text, or none does
pub next_token : (text : List ℕ) → Found text ⊎ NoToken text
next_token [] = inr no_token
next_token (c ∷ text) = by (start_of c) refl
  where
    by : (start : Start) → start_of c ≡ start → Found (c ∷ text) ⊎ NoToken (c ∷ text)
    by b.Word e = inl (word (c ∷ text) (ap (λ x. Some x) e))
    by b.Integer e = integer (c ∷ text) (ap (λ x. Some x) e)
    by b.Quoted e = subst (λ d. Found (d ∷ text) ⊎ NoToken (d ∷ text)) (sym (starts_quoted c e)) (quoted text)
    by b.Sign e = sign (c ∷ text) (ap (λ x. Some x) e)
