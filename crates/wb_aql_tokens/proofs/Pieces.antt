-- Texts in quotes.
use Rattle.std.proofs.Common.{◌≡◌, ◌≢◌, ℕ, ◌<◌, length, true, false, List, [], ◌∷◌, ◌++◌, Option, Some, None, refl, sym, ap, ◌∙◌, subst, append_assoc, append-nil, true≢false, codes, arith, MatchOption, Bor}
use Rattle.std.specs.Str.{byte}
use Rattle.std.proofs.lemmas.Bool.{and_from, not_from_false, ne_eqb}
use Rattle.std.proofs.lemmas.List.{append_cancel_left, length-append}
use Rattle.wb_aql_tokens.specs.Lexes.{is_quotable, is_raw, escape_of, Quotes, Means, means_none, means_raw, means_escaped, NoToken}
use Rattle.wb_aql_tokens.specs.Lexer.{first_start, BeginsWith, BeginsWithPiece, BeginsWithEscape, NoEscape, NoPiece, Unescapes}
use Rattle.wb_aql_tokens.specs.declared.characters.Start.TheVariants as b
use Rattle.wb_aql_tokens.specs.declared.token.Token.TheVariants.{Quoted}
use Rattle.wb_aql_tokens.proofs.Spellings.{token_start, quoted_bytes}

-- ---- pieces

pub means_more : {front value more after : List ℕ} → Means front value → Means more after → Means (front ++ more) (value ++ after)
means_more means_none h = h
means_more (means_raw raw d) h = means_raw raw (means_more d h)
means_more (means_escaped slash e d) h = means_escaped slash e (means_more d h)

no_cons : {c : ℕ} {xs : List ℕ} → c ∷ xs ≡ [] → ⊥
no_cons e = cc

raw_slash : (c : ℕ) → is_raw c ≡ true → c ≡ byte "\\" → ⊥
raw_slash c raw e = true≢false (sym (subst (λ d. is_raw d ≡ true) e raw))

pub same_pieces : {front value : List ℕ} → Means front value → {other known : List ℕ} → Means other known → (x y : List ℕ) → front ++ x ≡ other ++ y → NoPiece x → NoPiece y →
    (front ≡ other) × (value ≡ known)
same_pieces means_none means_none x y e sx sy = (refl, refl)
same_pieces means_none (means_raw {c} {bytes} raw d) x y e sx sy = absurd (no_cons (sx (c ∷ bytes) _ y e (means_raw raw d)))
same_pieces means_none (means_escaped {c} {code} {meaning} {bytes} slash m d) x y e sx sy = absurd (no_cons (sx (c ∷ code ∷ bytes) _ y e (means_escaped slash m d)))
same_pieces (means_raw {c} {bytes} raw d) means_none x y e sx sy = absurd (no_cons (sy (c ∷ bytes) _ x (sym e) (means_raw raw d)))
same_pieces (means_escaped {c} {code} {meaning} {bytes} slash m d) means_none x y e sx sy = absurd (no_cons (sy (c ∷ code ∷ bytes) _ x (sym e) (means_escaped slash m d)))
same_pieces (means_raw {c} {bytes} raw d) (means_raw {c = f} {bytes = others} raw' d') x y e sx sy =
    let heads : c ≡ f = cc in
    let tails : bytes ++ x ≡ others ++ y = cc in
    let u = same_pieces d d' x y tails sx sy in
    (cc (heads, u.0), cc (heads, u.1))
same_pieces (means_raw {c} raw d) (means_escaped {c = f} slash m d') x y e sx sy = let heads : c ≡ f = cc in absurd (raw_slash c raw (heads ∙ slash))
same_pieces (means_escaped {c} slash m d) (means_raw {c = f} raw d') x y e sx sy = let heads : f ≡ c = cc in absurd (raw_slash f raw (heads ∙ slash))
same_pieces (means_escaped {c} {code} {meaning} {bytes} slash m d) (means_escaped {c = f} {code = other} {meaning = another} {bytes = others} slash' m' d') x y e sx sy =
    let heads : c ≡ f = cc in
    let seconds : code ≡ other = cc in
    let tails : bytes ++ x ≡ others ++ y = cc in
    let both : Some meaning ≡ Some another = sym m ∙ ap escape_of seconds ∙ m' in
    let meant : meaning ≡ another = cc in
    let u = same_pieces d d' x y tails sx sy in
    (cc (heads, seconds, u.0), cc (meant, u.1))

head_of : {c d : ℕ} {xs ys : List ℕ} → c ∷ xs ≡ d ∷ ys → c ≡ d
head_of e = cc

tail_of : {c d : ℕ} {xs ys : List ℕ} → c ∷ xs ≡ d ∷ ys → xs ≡ ys
tail_of e = cc

pub nothing_stops : NoPiece []
nothing_stops piece value more e means_none = refl
nothing_stops piece value more e (means_raw {c} {bytes} raw d) = absurd (no_cons (sym e))
nothing_stops piece value more e (means_escaped slash m d) = absurd (no_cons (sym e))

quote_is_not_raw : (c : ℕ) → byte "'" ≡ c → is_raw c ≡ true → ⊥
quote_is_not_raw c e raw = true≢false (sym (subst (λ d. is_raw d ≡ true) (sym e) raw))

quote_is_no_slash : (c : ℕ) → byte "'" ≡ c → c ≡ byte "\\" → ⊥
quote_is_no_slash c e slash = let wrong : byte "'" ≡ byte "\\" = e ∙ slash in cc

pub quote_stops : (rest : List ℕ) → NoPiece (byte "'" ∷ rest)
quote_stops rest piece value more e means_none = refl
quote_stops rest piece value more e (means_raw {c} raw d) = absurd (quote_is_not_raw c (head_of e) raw)
quote_stops rest piece value more e (means_escaped {c} slash m d) = absurd (quote_is_no_slash c (head_of e) slash)

some_none : {m : ℕ} → None ≡ Some m → ⊥
some_none e = cc

slash_stops : (rest : List ℕ) → NoEscape rest → NoPiece (byte "\\" ∷ rest)
slash_stops rest wrong piece value more e means_none = refl
slash_stops rest wrong piece value more e (means_raw {c} raw d) = absurd (raw_slash c raw (sym (head_of e)))
slash_stops rest wrong piece value more e (means_escaped {c} {code} {meaning} {bytes} slash m d) =
    absurd (some_none (sym (wrong code (bytes ++ more) (tail_of e)) ∙ m))

-- an escape is a piece
pub escape_piece : (bytes rest : List ℕ) → bytes ≡ byte "\\" ∷ rest → (found : Option (ℕ × Bor (List ℕ))) → MatchOption found (NoEscape rest) (λ u. BeginsWithEscape rest u.0 u.1.now) →
    MatchOption found (NoPiece bytes) (λ u. BeginsWithPiece bytes u.0 u.1.now)
escape_piece bytes rest e None wrong = subst NoPiece (sym e) (slash_stops rest wrong)
escape_piece bytes rest e (Some u) h = record {
  piece = byte "\\" ∷ h.code ∷ [];
  whole = e ∙ ap (λ xs. byte "\\" ∷ xs) h.whole;
  means = means_escaped refl h.escape means_none;
}

pub raw_piece : (bytes rest : List ℕ) (c : ℕ) → bytes ≡ c ∷ rest → c ≢ byte "\\" → c ≢ byte "'" → BeginsWithPiece bytes c rest
raw_piece bytes rest c e no_slash no_quote = record {
  piece = c ∷ [];
  whole = e;
  means = means_raw (and_from _ _ (not_from_false _ (ne_eqb _ _ no_quote)) (not_from_false _ (ne_eqb _ _ no_slash))) means_none;
}

-- a piece has a byte
pub piece_has_bytes : {bytes rest : List ℕ} {meaning : ℕ} → BeginsWithPiece bytes meaning rest → length rest < length bytes
piece_has_bytes {bytes} {rest} {meaning} found =
    omega (arith, ap length found.whole ∙ length-append found.piece rest, some_bytes found.means)
  where
    some_bytes : {piece : List ℕ} {one : ℕ} → Means piece (one ∷ []) → 0 < length piece
    some_bytes (means_raw raw d) = omega arith
    some_bytes (means_escaped slash m d) = omega arith

-- ---- a text in quotes at the front

module _ (inside value rest : List ℕ) (found : Unescapes inside value rest) where
  begins : first_start (byte "'" ∷ inside) ≡ Some b.Quoted
  begins = refl

  -- what a text in quotes at the front has between its quotes
  same_inside : (known front behind : List ℕ) → byte "'" ∷ inside ≡ front ++ behind → (q : Quotes known front) → (found.front ≡ q.inside) × (value ≡ known) × (rest ≡ byte "'" ∷ behind)
  same_inside known front behind e q =
      let whole : byte "'" ∷ inside ≡ byte "'" ∷ (q.inside ++ (byte "'" ∷ behind)) =
      e ∙ ap (λ f. f ++ behind) q.whole ∙ ap (λ xs. byte "'" ∷ xs) (append_assoc q.inside (byte "'" ∷ []) behind) in
      let both : found.front ++ rest ≡ q.inside ++ (byte "'" ∷ behind) = sym found.whole ∙ tail_of whole in
      let u = same_pieces found.means q.means rest (byte "'" ∷ behind) both found.stops (quote_stops behind) in
      (u.0, u.1, append_cancel_left q.inside rest (byte "'" ∷ behind) (subst (λ f. f ++ rest ≡ q.inside ++ (byte "'" ∷ behind)) u.0 both))

  pub quoted_next : (behind : List ℕ) → rest ≡ byte "'" ∷ behind → is_quotable value ≡ true → BeginsWith (byte "'" ∷ inside) (Quoted value) behind
  quoted_next behind e ok =
      let front : List ℕ = codes "'" ++ found.front ++ codes "'" in
      let whole : byte "'" ∷ inside ≡ front ++ behind =
      ap (λ xs. byte "'" ∷ xs) (found.whole ∙ ap (λ r. found.front ++ r) e ∙ sym (append_assoc found.front (byte "'" ∷ []) behind)) in
      record {
        front = front;
        whole = whole;
        next = record {
          spelled = (record { inside = found.front; whole = refl; means = found.means }, ok);
          longest = λ other more after apart spelled.
              let all : byte "'" ∷ inside ≡ (front ++ more) ++ after = whole ∙ ap (λ r. front ++ r) apart ∙ sym (append_assoc front more after) in
              let u = quoted_bytes other _ spelled (token_start b.Quoted other _ _ begins all spelled) in
              let v = same_inside u.0 _ after all u.2 in
              let short : front ++ more ≡ front ++ [] = u.2.whole ∙ ap (λ i. codes "'" ++ i ++ codes "'") (sym v.0) ∙ sym (append-nil front) in
              append_cancel_left front more [] short;
          within = ok;
        };
      }

  pub unquotable_none : is_quotable value ≡ false → NoToken (byte "'" ∷ inside)
  unquotable_none bad token front behind whole next =
      let u = quoted_bytes token front next.spelled (token_start b.Quoted token front behind begins whole next.spelled) in
      true≢false (sym u.3 ∙ ap is_quotable (sym (same_inside u.0 front behind whole u.2).1) ∙ bad)

  pub unended_none : ((behind : List ℕ) → rest ≢ byte "'" ∷ behind) → NoToken (byte "'" ∷ inside)
  unended_none open_end token front behind whole next =
      let u = quoted_bytes token front next.spelled (token_start b.Quoted token front behind begins whole next.spelled) in
      open_end behind (same_inside u.0 front behind whole u.2).2
