-- A text that is spelled token by token has these tokens.
use Rattle.std.proofs.Common.{◌≡◌, ℕ, suc, ◌+◌, ◌<◌, true, List, [], ◌∷◌, ◌++◌, length, Some, refl, sym, ap, ◌∙◌, subst, append_assoc, arith, true≢false}
use Rattle.std.specs.Prelude.{not}
use Rattle.std.specs.List.{list_all}
use Rattle.std.specs.Char.{is_ascii_digit}
use Rattle.std.specs.Str.{byte}
use Rattle.std.proofs.lemmas.Bool.{and_parts, not_from_true}
use Rattle.std.proofs.lemmas.List.{append_cancel_left, length-append}
use Rattle.wb_aql_tokens.specs.Lexes.{word_of, is_within, Quotes, Spelling, IsNext, Lexes, lexes_blank, lexes_token}
use Rattle.wb_base.specs.Names.{is_name_byte}
use Rattle.wb_aql_tokens.specs.Lexer.{first_start}
use Rattle.wb_aql_tokens.specs.Apart.{lengthens_sign, lengthens, ends_before}
use Rattle.wb_aql_tokens.specs.declared.characters.Start.TheVariants as b
use Rattle.wb_aql_tokens.specs.declared.token.Token.{Token}
use Rattle.wb_aql_tokens.specs.declared.token.Token.TheVariants.{Sign, Name, Integer, Quoted, Bad}
use Rattle.wb_aql_tokens.specs.declared.token.Sign.{Sign as SignName}
use Rattle.wb_aql_tokens.specs.declared.token.Sign.TheVariants as s
use Rattle.wb_aql_tokens.proofs.Words.{is_word, is_short, is_long, shape, same_sign, no_colon}
use Rattle.wb_aql_tokens.proofs.Runs.{part_passes}
use Rattle.wb_aql_tokens.proofs.Spellings.{from_all_digits, start, spelled_start, starts_more, some_start, word_bytes, integer_bytes, quoted_bytes, sign_bytes}
use Rattle.wb_aql_tokens.proofs.Pieces.{same_pieces, quote_stops}

-- ---- longer signs

-- a word of two bytes, and of one, in two parts that are not empty
two_parts : (a d : ℕ) (w : List ℕ) (c : ℕ) (more : List ℕ) → a ∷ d ∷ [] ≡ w ++ (c ∷ more) → 0 < length w → (w ≡ a ∷ []) × (c ≡ d)
two_parts a d [] c more e h = absurd (omega arith)
two_parts a d (f ∷ []) c more e h = (cc, cc)
two_parts a d (f ∷ g ∷ w) c more e h = absurd (omega (arith, ap length e, length-append w (c ∷ more)))

one_part : (a : ℕ) (w : List ℕ) (c : ℕ) (more : List ℕ) → a ∷ [] ≡ w ++ (c ∷ more) → 0 < length w → ⊥
one_part a w c more e h = omega (arith, ap length e, length-append w (c ∷ more), h)

has_bytes : (x : SignName) → 0 < length (word_of x)
unfolding word_of
has_bytes s.If = omega arith
has_bytes _ = omega arith

word_not_sign : (y : SignName) → first_start (word_of y) ≡ Some b.Word → first_start (word_of y) ≡ Some b.Sign → ⊥
word_not_sign y e f = let wrong : Some b.Word ≡ Some b.Sign = sym e ∙ f in cc

-- a longer sign goes on with a byte that lengthens the sign
longer_sign : (y x : SignName) (c : ℕ) (more : List ℕ) → first_start (word_of y) ≡ Some b.Sign → word_of y ≡ word_of x ++ (c ∷ more) → lengthens_sign x c ≡ true
unfolding word_of
longer_sign s.If x c more f e = absurd (word_not_sign s.If refl f)
longer_sign s.Then x c more f e = absurd (word_not_sign s.Then refl f)
longer_sign s.Else x c more f e = absurd (word_not_sign s.Else refl f)
longer_sign s.Endif x c more f e = absurd (word_not_sign s.Endif refl f)
longer_sign s.Let x c more f e = absurd (word_not_sign s.Let refl f)
longer_sign s.In x c more f e = absurd (word_not_sign s.In refl f)
longer_sign s.And x c more f e = absurd (word_not_sign s.And refl f)
longer_sign s.Or x c more f e = absurd (word_not_sign s.Or refl f)
longer_sign s.Xor x c more f e = absurd (word_not_sign s.Xor refl f)
longer_sign s.Implies x c more f e = absurd (word_not_sign s.Implies refl f)
longer_sign s.Not x c more f e = absurd (word_not_sign s.Not refl f)
longer_sign s.Div x c more f e = absurd (word_not_sign s.Div refl f)
longer_sign s.Null x c more f e = absurd (word_not_sign s.Null refl f)
longer_sign s.True x c more f e = absurd (word_not_sign s.True refl f)
longer_sign s.False x c more f e = absurd (word_not_sign s.False refl f)
longer_sign s.Sequence x c more f e = absurd (word_not_sign s.Sequence refl f)
longer_sign s.OrderedSet x c more f e = absurd (word_not_sign s.OrderedSet refl f)
longer_sign s.Equal x c more f e = absurd (one_part _ (word_of x) c more e (has_bytes x))
longer_sign s.Less x c more f e = absurd (one_part _ (word_of x) c more e (has_bytes x))
longer_sign s.Greater x c more f e = absurd (one_part _ (word_of x) c more e (has_bytes x))
longer_sign s.Plus x c more f e = absurd (one_part _ (word_of x) c more e (has_bytes x))
longer_sign s.Minus x c more f e = absurd (one_part _ (word_of x) c more e (has_bytes x))
longer_sign s.Times x c more f e = absurd (one_part _ (word_of x) c more e (has_bytes x))
longer_sign s.Dot x c more f e = absurd (one_part _ (word_of x) c more e (has_bytes x))
longer_sign s.Comma x c more f e = absurd (one_part _ (word_of x) c more e (has_bytes x))
longer_sign s.Bar x c more f e = absurd (one_part _ (word_of x) c more e (has_bytes x))
longer_sign s.Open x c more f e = absurd (one_part _ (word_of x) c more e (has_bytes x))
longer_sign s.Close x c more f e = absurd (one_part _ (word_of x) c more e (has_bytes x))
longer_sign s.OpenBrace x c more f e = absurd (one_part _ (word_of x) c more e (has_bytes x))
longer_sign s.CloseBrace x c more f e = absurd (one_part _ (word_of x) c more e (has_bytes x))
longer_sign s.NotEqual x c more f e = let u = two_parts _ _ (word_of x) c more e (has_bytes x) in
    subst (λ d. lengthens_sign x d ≡ true) (sym u.1) (subst (λ z. lengthens_sign z (byte ">") ≡ true) (same_sign s.Less x (sym u.0)) refl)
longer_sign s.LessEqual x c more f e = let u = two_parts _ _ (word_of x) c more e (has_bytes x) in
    subst (λ d. lengthens_sign x d ≡ true) (sym u.1) (subst (λ z. lengthens_sign z (byte "=") ≡ true) (same_sign s.Less x (sym u.0)) refl)
longer_sign s.GreaterEqual x c more f e = let u = two_parts _ _ (word_of x) c more e (has_bytes x) in
    subst (λ d. lengthens_sign x d ≡ true) (sym u.1) (subst (λ z. lengthens_sign z (byte "=") ≡ true) (same_sign s.Greater x (sym u.0)) refl)
longer_sign s.Arrow x c more f e = let u = two_parts _ _ (word_of x) c more e (has_bytes x) in
    subst (λ d. lengthens_sign x d ≡ true) (sym u.1) (subst (λ z. lengthens_sign z (byte ">") ≡ true) (same_sign s.Minus x (sym u.0)) refl)
longer_sign s.Colons x c more f e = let u = two_parts _ _ (word_of x) c more e (has_bytes x) in absurd (no_colon x u.0)

word_lengthens : (x : SignName) → first_start (word_of x) ≡ Some b.Word → (c : ℕ) → lengthens_sign x c ≡ is_name_byte c
unfolding word_of
word_lengthens s.If e c = refl
word_lengthens s.Then e c = refl
word_lengthens s.Else e c = refl
word_lengthens s.Endif e c = refl
word_lengthens s.Let e c = refl
word_lengthens s.In e c = refl
word_lengthens s.And e c = refl
word_lengthens s.Or e c = refl
word_lengthens s.Xor e c = refl
word_lengthens s.Implies e c = refl
word_lengthens s.Not e c = refl
word_lengthens s.Div e c = refl
word_lengthens s.Null e c = refl
word_lengthens s.True e c = refl
word_lengthens s.False e c = refl
word_lengthens s.Sequence e c = refl
word_lengthens s.OrderedSet e c = refl
word_lengthens s.Equal e c = absurd (cc)
word_lengthens s.Less e c = absurd (cc)
word_lengthens s.Greater e c = absurd (cc)
word_lengthens s.Plus e c = absurd (cc)
word_lengthens s.Minus e c = absurd (cc)
word_lengthens s.Times e c = absurd (cc)
word_lengthens s.Dot e c = absurd (cc)
word_lengthens s.Comma e c = absurd (cc)
word_lengthens s.Bar e c = absurd (cc)
word_lengthens s.Open e c = absurd (cc)
word_lengthens s.Close e c = absurd (cc)
word_lengthens s.OpenBrace e c = absurd (cc)
word_lengthens s.CloseBrace e c = absurd (cc)
word_lengthens s.NotEqual e c = absurd (cc)
word_lengthens s.LessEqual e c = absurd (cc)
word_lengthens s.GreaterEqual e c = absurd (cc)
word_lengthens s.Arrow e c = absurd (cc)
word_lengthens s.Colons e c = absurd (cc)

-- ---- longer tokens

none_more : {c : ℕ} {more : List ℕ} → c ∷ more ≡ [] → ⊥
none_more e = cc

quote_whole : (value known front : List ℕ) (c : ℕ) (more : List ℕ) → Quotes value front → Quotes known (front ++ (c ∷ more)) → ⊥
quote_whole value known front c more q r =
    let both : byte "'" ∷ (q.inside ++ (byte "'" ∷ c ∷ more)) ≡ byte "'" ∷ (r.inside ++ (byte "'" ∷ [])) =
    sym (ap (λ f. f ++ (c ∷ more)) q.whole ∙ ap (λ xs. byte "'" ∷ xs) (append_assoc q.inside (byte "'" ∷ []) (c ∷ more))) ∙ r.whole in
    let tails : q.inside ++ (byte "'" ∷ c ∷ more) ≡ r.inside ++ (byte "'" ∷ []) = cc in
    let u = same_pieces q.means r.means _ _ tails (quote_stops (c ∷ more)) (quote_stops []) in
    let rests = append_cancel_left q.inside (byte "'" ∷ c ∷ more) (byte "'" ∷ []) (tails ∙ ap (λ i. i ++ (byte "'" ∷ [])) (sym u.0)) in
    let less : c ∷ more ≡ [] = cc in
    none_more less

part_is_name : (front : List ℕ) (c : ℕ) (more : List ℕ) → list_all is_name_byte (front ++ (c ∷ more)) ≡ true → is_name_byte c ≡ true
part_is_name front c more h = (and_parts _ _ (part_passes is_name_byte front (c ∷ more) h).1).0

-- a token that is longer goes on with a byte that lengthens the token
pub lengthened : (token other : Token) (front : List ℕ) (c : ℕ) (more : List ℕ) → Spelling token front → Spelling other (front ++ (c ∷ more)) → lengthens token c ≡ true
lengthened token other front c more h k = by_kind token h (some_start (sym (spelled_start other _ k) ∙ starts_more front (c ∷ more) _ (spelled_start token front h)))
  where
    by_sign : (sign : SignName) → front ≡ word_of sign → start other ≡ b.Sign → lengthens_sign sign c ≡ true
    by_sign sign h e =
        let u = sign_bytes other _ k e in
        let begins = sym (ap first_start u.2) ∙ spelled_start other _ k ∙ ap (λ x. Some x) e in
        longer_sign u.0 sign c more begins (sym u.2 ∙ ap (λ f. f ++ (c ∷ more)) h)

    by_kind : (token : Token) → Spelling token front → start other ≡ start token → lengthens token c ≡ true
    by_kind (Sign sign) h e = elim (shape sign) [
      | is_word f _ _ _ ↦ word_lengthens sign f c ∙ part_is_name front c more (word_bytes other _ k (e ∙ some_start (sym (spelled_start (Sign sign) front h) ∙ ap first_start h ∙ f))).0
      | is_short f _ ↦ by_sign sign h (e ∙ some_start (sym (spelled_start (Sign sign) front h) ∙ ap first_start h ∙ f))
      | is_long f _ ↦ by_sign sign h (e ∙ some_start (sym (spelled_start (Sign sign) front h) ∙ ap first_start h ∙ f))
    ]
    by_kind (Name name) h e = part_is_name front c more (word_bytes other _ k e).0
    by_kind (Integer n) h e = (and_parts _ _ (part_passes is_ascii_digit front (c ∷ more) (from_all_digits _ (integer_bytes other _ k e).1.1)).1).0
    by_kind (Quoted value) h e = let u = quoted_bytes other _ k e in absurd (quote_whole value u.0 front c more h.0 u.2)
    by_kind Bad h e = absurd h

-- a token that nothing lengthens is the next
pub next_spelled : (token : Token) (front rest : List ℕ) → Spelling token front → is_within token ≡ true → ends_before token rest ≡ true → IsNext token front rest
next_spelled token front rest h within ends = record { spelled = h; longest = longest rest ends; within = within }
  where
    longest : (rest : List ℕ) → ends_before token rest ≡ true → (other : Token) (more behind : List ℕ) → rest ≡ more ++ behind → Spelling other (front ++ more) → more ≡ []
    longest rest ends other [] behind e k = refl
    longest rest ends other (c ∷ more) behind e k =
        let free : not (lengthens token c) ≡ true = subst (λ r. ends_before token r ≡ true) e ends in
        absurd (true≢false (sym free ∙ not_from_true _ (lengthened token other front c more h k)))

pub spelled_first : (offset : ℕ) (token : Token) (front rest : List ℕ) (tokens : List Token) (starts : List ℕ) → Spelling token front → is_within token ≡ true → ends_before token rest ≡ true →
    Lexes (offset + length front) rest tokens starts → Lexes offset (front ++ rest) (token ∷ tokens) (offset ∷ starts)
spelled_first offset token front rest tokens starts h within ends on = lexes_token refl (next_spelled token front rest h within ends) on

pub spelled_behind_space : (offset : ℕ) (token : Token) (front rest : List ℕ) (tokens : List Token) (starts : List ℕ) → Spelling token front → is_within token ≡ true → ends_before token rest ≡ true →
    Lexes (suc offset + length front) rest tokens starts → Lexes offset (byte " " ∷ (front ++ rest)) (token ∷ tokens) (suc offset ∷ starts)
spelled_behind_space offset token front rest tokens starts h within ends on = lexes_blank refl (spelled_first (suc offset) token front rest tokens starts h within ends on)
