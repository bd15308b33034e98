-- How the tokens of a text are found one after the other.
use Rattle.std.proofs.Common.{◌≡◌, ◌≢◌, ℕ, suc, ◌+◌, ◌-◌, ◌≤◌, ◌<◌, Bool, true, false, cond, List, [], ◌∷◌, ◌++◌, length, drop, refl, sym, ap, ◌∙◌, subst, subst₂, append_assoc, append-nil, arith, one-add, add-zero}
use Rattle.std.specs.List.{prefix_len}
use Rattle.std.proofs.lemmas.List.{length-append, length-drop}
use Rattle.std.proofs.lemmas.List.Sums.{prefix_len-le-length}
use Rattle.wb_aql_tokens.specs.Lexes.{is_blank, NoToken, Lexes, lexes_end, lexes_blank, lexes_token, lexes_bad, Spelling}
use Rattle.wb_aql_tokens.specs.Lexer.{BeginsWith}
use Rattle.wb_aql_tokens.specs.declared.token.Token.{Token}
use Rattle.wb_aql_tokens.specs.declared.token.Token.TheVariants.{Bad}
use Rattle.wb_aql_tokens.proofs.Runs.{Ends, run_ends}
use Rattle.wb_aql_tokens.proofs.Spellings.{spelled_start, nothing}

abbrev blanks : List ℕ → ℕ
blanks text = prefix_len is_blank text

module _ (c : ℕ) (text : List ℕ) (tokens : List Token) (starts : List ℕ)
    (on : (offset : ℕ) → Lexes (offset + blanks text) (drop (blanks text) text) tokens starts → Lexes offset text tokens starts) where
  blank_or_not : (t : Bool) → is_blank c ≡ t → (offset : ℕ) → Lexes (offset + cond t (1 + blanks text) 0) (drop (cond t (1 + blanks text) 0) (c ∷ text)) tokens starts → Lexes offset (c ∷ text) tokens starts
  blank_or_not true e offset h =
      let behind : Lexes (offset + (1 + blanks text)) (drop (blanks text) text) tokens starts = subst (λ n. Lexes (offset + (1 + blanks text)) (drop n (c ∷ text)) tokens starts) (one-add (blanks text)) h in
      let moved : offset + (1 + blanks text) ≡ suc offset + blanks text = omega arith in
      lexes_blank e (on (suc offset) (subst (λ n. Lexes n (drop (blanks text) text) tokens starts) moved behind))
  blank_or_not false e offset h = subst (λ n. Lexes n (c ∷ text) tokens starts) (add-zero offset) h

-- blanks are passed over
pub over_blanks : (text : List ℕ) (tokens : List Token) (starts : List ℕ) (offset : ℕ) → Lexes (offset + blanks text) (drop (blanks text) text) tokens starts → Lexes offset text tokens starts
over_blanks [] tokens starts offset h = subst (λ n. Lexes n [] tokens starts) (add-zero offset) h
over_blanks (c ∷ text) tokens starts offset h = blank_or_not c text tokens starts (over_blanks text tokens starts) (is_blank c) refl offset h

-- a token has a byte
pub front_has_bytes : (token : Token) (front : List ℕ) → Spelling token front → 0 < length front
front_has_bytes token [] h = absurd (nothing (spelled_start token [] h))
front_has_bytes token (c ∷ front) h = omega arith

-- the tokens before the rest of a text were found, and the rest begins with no blank
pub record Lexing (text rest : List ℕ) (tokens : List Token) (starts : List ℕ) : Type 0 where
  pub within : length rest ≤ length text
  pub free : Ends is_blank rest
  pub lexed : (more : List Token) (others : List ℕ) → Lexes (length text - length rest) rest more others → Lexes 0 text (tokens ++ more) (starts ++ others)

pub lexing_begins : (text : List ℕ) → Lexing text (drop (blanks text) text) [] []
lexing_begins text = record {
  within = omega (arith, length-drop (blanks text) text);
  free = run_ends is_blank text;
  lexed = λ more others h.
      let offset : length text - length (drop (blanks text) text) ≡ 0 + blanks text = omega (arith, length-drop (blanks text) text, prefix_len-le-length is_blank text) in
      over_blanks text more others 0 (subst (λ n. Lexes n (drop (blanks text) text) more others) offset h);
}

module _ (text rest : List ℕ) (tokens : List Token) (starts : List ℕ) (so_far : Lexing text rest tokens starts) where
  pub lexing_ends : rest ≡ [] → Lexes 0 text tokens starts
  lexing_ends e =
      let all = so_far.lexed [] [] (subst (λ r. Lexes (length text - length rest) r [] []) (sym e) lexes_end) in
      subst₂ (Lexes 0 text) (append-nil tokens) (append-nil starts) all

  pub lexing_stops : rest ≢ [] → NoToken rest → Lexes 0 text (tokens ++ Bad ∷ []) (starts ++ (length text - length rest) ∷ [])
  lexing_stops some none = so_far.lexed (Bad ∷ []) ((length text - length rest) ∷ []) (stopped rest some so_far.free none)
    where
      stopped : {offset : ℕ} (bytes : List ℕ) → bytes ≢ [] → Ends is_blank bytes → NoToken bytes → Lexes offset bytes (Bad ∷ []) (offset ∷ [])
      stopped [] h free bad = absurd (h refl)
      stopped (c ∷ bytes) h free bad = lexes_bad free bad

  module _ (token : Token) (behind : List ℕ) (found : BeginsWith rest token behind) where
    sizes : length rest ≡ length found.front + length behind
    sizes = ap length found.whole ∙ length-append found.front behind

    pub shorter : length (drop (blanks behind) behind) < length rest
    shorter = omega (arith, sizes, length-drop (blanks behind) behind, front_has_bytes token found.front found.next.spelled)

    pub lexing_on : Lexing text (drop (blanks behind) behind) (tokens ++ token ∷ []) (starts ++ (length text - length rest) ∷ [])
    lexing_on = record {
      within = omega (arith, sizes, length-drop (blanks behind) behind, so_far.within);
      free = run_ends is_blank behind;
      lexed = λ more others h.
          let here = length text - length rest in
          let offset : length text - length (drop (blanks behind) behind) ≡ (here + length found.front) + blanks behind =
          omega (arith, sizes, length-drop (blanks behind) behind, prefix_len-le-length is_blank behind, so_far.within) in
          let next = over_blanks behind more others (here + length found.front) (subst (λ n. Lexes n (drop (blanks behind) behind) more others) offset h) in
          subst₂ (Lexes 0 text) (sym (append_assoc tokens (token ∷ []) more)) (sym (append_assoc starts (here ∷ []) others))
          (so_far.lexed (token ∷ more) (here ∷ others) (lexes_token found.whole found.next next));
    }
