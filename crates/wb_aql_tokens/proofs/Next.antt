-- The token that begins a text, found by the text's first byte.
use Rattle.std.proofs.Common.{◌≡◌, ℕ, suc, zero, ◌+◌, ◌-◌, ◌≤◌, ◌<◌, ◌⊎◌, inl, inr, Bool, true, false, cond, List, [], ◌∷◌, ◌++◌, length, take, drop, min, Some, refl, sym, ap, ◌∙◌, subst, append_assoc, append-nil, take-append-drop, arith, ◌^◌, Result, Ok, Err}
use Rattle.std.specs.List.{prefix_len}
use Rattle.std.specs.Char.{is_ascii_digit}
use Rattle.std.specs.Prelude.{◌==◌}
use Rattle.std.specs.Str.Parse.{IsNumeral, ParsesUnsigned, digits_value, without_leading_plus}
use Rattle.std.proofs.lemmas.Bool.Decides.{nat_tests}
use Rattle.std.proofs.lemmas.Bool.{and_from, cases_lt, leb-true, le-leb, not_from_false}
use Rattle.std.proofs.lemmas.List.{length-append, length-take, nil_from_length}
use Rattle.std.proofs.lemmas.List.Sums.{prefix_len-le-length}
use Rattle.wb_aql_tokens.specs.Lexes.{word_of, is_expression_name, is_reserved, Spelling, IsNext, NoToken, is_within, largest_integer}
use Rattle.wb_base.specs.Names.{is_name, is_name_byte, starts_name}
use Rattle.wb_aql_tokens.specs.Lexer.{first_start, BeginsWith, BeginsWithSign, NoSignOf}
use Rattle.wb_aql_tokens.specs.declared.characters.Start.TheVariants as b
use Rattle.wb_aql_tokens.specs.declared.token.Token.{Token}
use Rattle.wb_aql_tokens.specs.declared.token.Token.TheVariants.{Sign, Integer}
use Rattle.wb_aql_tokens.specs.declared.token.Sign.{Sign as SignName}
use Rattle.wb_aql_tokens.proofs.Runs.{Ends, run_passes, run_ends, longest_run, part_of_run}
use Rattle.wb_aql_tokens.proofs.Spellings.{starts_word, starts_integer, start_is_name_byte, all_digits, from_digit, from_all_digits, token_start, word_bytes, integer_bytes, sign_bytes, some_start, nothing}

-- ---- lists

prefix_pos : (p : ℕ → Bool) (c : ℕ) (text : List ℕ) → p c ≡ true → 0 < prefix_len p (c ∷ text)
prefix_pos p c text e = subst (λ t. 0 < cond t (1 + prefix_len p text) 0) (sym e) (omega arith)

take_first : (n c : ℕ) (text : List ℕ) → 0 < n → take n (c ∷ text) ≡ c ∷ take (n - 1) text
take_first zero c text h = absurd (omega arith)
take_first (suc n) c text h = ap (λ k. c ∷ take k text) (omega arith)

-- of two fronts of a text the one is a front of the other
pub fronts : (a x c y : List ℕ) → a ++ x ≡ c ++ y → ((m : List ℕ) × (c ≡ a ++ m) × (x ≡ m ++ y)) ⊎ ((m : List ℕ) × (a ≡ c ++ m) × (y ≡ m ++ x))
fronts [] x c y e = inl (c, refl, e)
fronts (d ∷ a) x [] y e = inr (d ∷ a, refl, sym e)
fronts (d ∷ a) x (f ∷ c) y e =
    let heads : d ≡ f = cc in
    let tails : a ++ x ≡ c ++ y = cc in
    elim (fronts a x c y tails) [
      | inl u ↦ inl (u.0, cc (heads, u.1), u.2)
      | inr u ↦ inr (u.0, cc (heads, u.1), u.2)
    ]

-- ---- names and reserved words

module _ (text : List ℕ) (n : ℕ) (is : n ≡ min (prefix_len is_name_byte text) 64) (begins : first_start text ≡ Some b.Word) where
  word_longest : (other : Token) (more behind : List ℕ) → drop n text ≡ more ++ behind → Spelling other (take n text ++ more) → more ≡ []
  word_longest other more behind e spelled =
      let whole : text ≡ (take n text ++ more) ++ behind = sym (take-append-drop n text) ∙ ap (λ r. take n text ++ r) e ∙ sym (append_assoc (take n text) more behind) in
      let u = word_bytes other _ spelled (token_start b.Word other _ _ begins whole spelled) in
      elim (cases_lt 64 (prefix_len is_name_byte text)) [
        | inl long ↦ nil_from_length more (omega (arith, u.1, length-append (take n text) more, length-take n text, prefix_len-le-length is_name_byte text))
        | inr short ↦
            let same : prefix_len is_name_byte text ≡ n = omega arith in
            longest_run is_name_byte (take n text) more behind (drop n text) (subst (λ k. Ends is_name_byte (drop k text)) same (run_ends is_name_byte text)) e u.0
      ]

  pub word_next : (token : Token) → Spelling token (take n text) → is_within token ≡ true → BeginsWith text token (drop n text)
  word_next token spelled within = record {
    front = take n text;
    whole = sym (take-append-drop n text);
    next = record { spelled = spelled; longest = word_longest; within = within };
  }

first_of_name : (text : List ℕ) (n : ℕ) → n ≡ min (prefix_len is_name_byte text) 64 → first_start text ≡ Some b.Word → starts_name (take n text) ≡ true
first_of_name [] n is e = absurd (nothing e)
first_of_name (c ∷ text) n is e =
    let s = starts_word c (some_start e) in
    let pos : 0 < prefix_len is_name_byte (c ∷ text) = prefix_pos is_name_byte c text (start_is_name_byte c s) in
    subst (λ xs. starts_name xs ≡ true) (sym (take_first n c text (omega arith))) s

pub is_a_name : (text : List ℕ) (n : ℕ) → n ≡ min (prefix_len is_name_byte text) 64 → first_start text ≡ Some b.Word → is_reserved (take n text) ≡ false → is_expression_name (take n text) ≡ true
unfolding is_expression_name is_name
is_a_name text n is e free =
    let short : length (take n text) ≤ 64 = omega (arith, length-take n text) in
    let le : n ≤ prefix_len is_name_byte text = omega arith in
    and_from _ _ (and_from _ _ (and_from _ _ (le-leb _ _ short) (first_of_name text n is e)) (part_of_run is_name_byte (prefix_len is_name_byte text) n text le (run_passes is_name_byte text))) (not_from_false _ free)

-- ---- integers

pub is_numeral : (text : List ℕ) → first_start text ≡ Some b.Integer → IsNumeral 10 (take (prefix_len is_ascii_digit text) text)
is_numeral [] e = absurd (nothing e)
is_numeral (c ∷ text) e =
    let s = starts_integer c (some_start e) in
    let n = prefix_len is_ascii_digit (c ∷ text) in
    let pos : 0 < n = prefix_pos is_ascii_digit c text s in
    (omega (arith, length-take n (c ∷ text), pos), all_digits _ (run_passes is_ascii_digit (c ∷ text)))

module _ (text : List ℕ) (begins : first_start text ≡ Some b.Integer) where
  integer_longest : (other : Token) (more behind : List ℕ) → drop (prefix_len is_ascii_digit text) text ≡ more ++ behind →
      Spelling other (take (prefix_len is_ascii_digit text) text ++ more) → more ≡ []
  integer_longest other more behind e spelled =
      let n = prefix_len is_ascii_digit text in
      let whole : text ≡ (take n text ++ more) ++ behind = sym (take-append-drop n text) ∙ ap (λ r. take n text ++ r) e ∙ sym (append_assoc (take n text) more behind) in
      let u = integer_bytes other _ spelled (token_start b.Integer other _ _ begins whole spelled) in
      longest_run is_ascii_digit (take n text) more behind (drop n text) (run_ends is_ascii_digit text) e (from_all_digits _ u.1.1)

  pub integer_next : (value : ℕ) → value ≡ digits_value 10 (take (prefix_len is_ascii_digit text) text) → value ≤ largest_integer →
      BeginsWith text (Integer value) (drop (prefix_len is_ascii_digit text) text)
  integer_next value e small = record {
    front = take (prefix_len is_ascii_digit text) text;
    whole = sym (take-append-drop (prefix_len is_ascii_digit text) text);
    next = record { spelled = (is_numeral text begins, e); longest = integer_longest; within = le-leb _ _ small };
  }

  same_run : (token : Token) (front rest : List ℕ) → text ≡ front ++ rest → IsNext token front rest → front ≡ take (prefix_len is_ascii_digit text) text
  same_run token front rest whole next =
      let run = take (prefix_len is_ascii_digit text) text in
      let left = drop (prefix_len is_ascii_digit text) text in
      elim (fronts run left front rest (take-append-drop (prefix_len is_ascii_digit text) text ∙ whole)) [
        | inl u ↦ u.1 ∙ ap (λ m. run ++ m) (integer_longest token u.0 rest u.2 (subst (Spelling token) u.1 next.spelled)) ∙ append-nil run
        | inr u ↦
            let more : u.0 ≡ [] = next.longest (Integer (digits_value 10 (front ++ u.0))) u.0 left u.2 (subst (IsNumeral 10) u.1 (is_numeral text begins), refl) in
            sym (u.1 ∙ ap (λ m. front ++ m) more ∙ append-nil front)
      ]

  pub integer_none : largest_integer < digits_value 10 (take (prefix_len is_ascii_digit text) text) → NoToken text
  integer_none large token front rest whole next =
      let u = integer_bytes token front next.spelled (token_start b.Integer token front rest begins whole next.spelled) in
      let small : digits_value 10 front ≤ largest_integer = leb-true _ _ (subst (λ t. is_within t ≡ true) u.0 next.within) in
      let same : digits_value 10 front ≡ digits_value 10 (take (prefix_len is_ascii_digit text) text) = ap (digits_value 10) (same_run token front rest whole next) in
      omega (arith, small, same, large)

-- ---- signs

module _ (text : List ℕ) (begins : first_start text ≡ Some b.Sign) where
  -- what a longer sign would be
  longer : (sign : SignName) (rest : List ℕ) → text ≡ word_of sign ++ rest → (other : Token) (more behind : List ℕ) → rest ≡ more ++ behind → Spelling other (word_of sign ++ more) →
      (x : SignName) × (word_of sign ++ more ≡ word_of x) × (text ≡ word_of x ++ behind) × ((length (word_of x) ≡ 1) ⊎ (length (word_of x) ≡ 2))
  longer sign rest whole other more behind e spelled =
      let all : text ≡ (word_of sign ++ more) ++ behind = whole ∙ ap (λ r. word_of sign ++ r) e ∙ sym (append_assoc (word_of sign) more behind) in
      let u = sign_bytes other _ spelled (token_start b.Sign other _ _ begins all spelled) in
      (u.0, u.2, all ∙ ap (λ w. w ++ behind) u.2, u.3)

  pub long_next : (sign : SignName) (rest : List ℕ) → BeginsWithSign 2 text sign rest → BeginsWith text (Sign sign) rest
  long_next sign rest found = record {
    front = word_of sign;
    whole = found.whole;
    next = record {
      spelled = refl;
      longest = λ other more behind e spelled.
          let u = longer sign rest found.whole other more behind e spelled in
          let size : length (word_of sign) + length more ≡ length (word_of u.0) = sym (length-append (word_of sign) more) ∙ ap length u.1 in
          nil_from_length more (elim u.3 [ inl one ↦ omega (arith, size, one, found.same) | inr two ↦ omega (arith, size, two, found.same) ]);
      within = refl;
    };
  }

  pub short_next : NoSignOf 2 text → (sign : SignName) (rest : List ℕ) → BeginsWithSign 1 text sign rest → BeginsWith text (Sign sign) rest
  short_next none sign rest found = record {
    front = word_of sign;
    whole = found.whole;
    next = record {
      spelled = refl;
      longest = λ other more behind e spelled.
          let u = longer sign rest found.whole other more behind e spelled in
          let size : length (word_of sign) + length more ≡ length (word_of u.0) = sym (length-append (word_of sign) more) ∙ ap length u.1 in
          nil_from_length more (elim u.3 [
            | inl one ↦ omega (arith, size, one, found.same)
            | inr two ↦ absurd (let wrong : Some b.Word ≡ Some b.Sign = sym (none u.0 behind u.2 two) ∙ begins in cc)
          ]);
      within = refl;
    };
  }

  pub sign_none : NoSignOf 2 text → NoSignOf 1 text → NoToken text
  sign_none none two token front rest whole next =
      let u = sign_bytes token front next.spelled (token_start b.Sign token front rest begins whole next.spelled) in
      let all : text ≡ word_of u.0 ++ rest = whole ∙ ap (λ w. w ++ rest) u.2 in
      elim u.3 [
        | inl size ↦ let wrong : Some b.Word ≡ Some b.Sign = sym (two u.0 rest all size) ∙ begins in cc
        | inr size ↦ let wrong : Some b.Word ≡ Some b.Sign = sym (none u.0 rest all size) ∙ begins in cc
      ]

-- ---- what `parse` reads

pub no_plus : (run : List ℕ) → IsNumeral 10 run → without_leading_plus run ≡ run
no_plus [] h = absurd (omega (arith, h.0))
no_plus (c ∷ run) h = ap (λ t. drop (cond t 1 0) (c ∷ run)) (not_plus c (from_digit c h.1.0))
  where
    not_plus : (d : ℕ) → is_ascii_digit d ≡ true → (d == 43) ≡ false
    not_plus d e = grind (arith, nat_tests)

pub one_value : {E : Type 0} {x y : ℕ} → ◌≡◌ {A = Result ℕ E} (Ok x) (Ok y) → x ≡ y
one_value e = cc

pub parsed : {E : Type 0} (run : List ℕ) → IsNumeral 10 run → (r : Result ℕ E) → ParsesUnsigned 64 10 run r → (value : ℕ) → r ≡ Ok value → value ≡ digits_value 10 run
parsed run h (Ok n) p value e = let same : n ≡ value = cc in sym same ∙ p.1 ∙ ap (digits_value 10) (no_plus run h)
parsed run h (Err x) p value e = cc

-- a run whose value is not read, or is too large, is above the largest integer
pub unread : {E : Type 0} (run : List ℕ) → IsNumeral 10 run → (r : Result ℕ E) → ParsesUnsigned 64 10 run r → ((value : ℕ) → r ≡ Ok value → largest_integer < value) → largest_integer < digits_value 10 run
unread {E} run h (Ok n) p large = subst (λ v. largest_integer < v) (parsed {E = E} run h (Ok n) p n refl) (large n refl)
unread run h (Err x) p large = elim (cases_lt largest_integer (digits_value 10 run)) [
  | inl above ↦ above
  | inr small ↦ absurd (subst (λ bytes. (IsNumeral 10 bytes × (digits_value 10 bytes < 2 ^ 64)) → ⊥) (no_plus run h) p (h, omega arith))
]
