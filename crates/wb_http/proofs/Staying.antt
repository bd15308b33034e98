-- Where a head ends does not change with the bytes that follow.
use Rattle.std.proofs.Common.{◌≡◌, refl, ◌∙◌, sym, ap, subst, ℕ, ◌+◌, ◌-◌, ◌<◌, ◌≤◌, ◌==◌, min, ◌⊎◌, inl, inr, Bool, true, false, cond, List, [], ◌∷◌, ◌++◌, length, take, Option, None, Some, IfSome, append-nil, length-append, length-take, arith}
use Rattle.std.specs.Option.{option_or}
use Rattle.std.proofs.Math.Seq.{take-append-add}
use Rattle.std.proofs.lemmas.List.{take_all, take-append-le}
use Rattle.std.proofs.lemmas.Bool.{cases_lt}
use Rattle.wb_http.specs.Ends.{is_break, one_more, feed, line_end, to_empty_line, head_length}
use Rattle.wb_http.specs.Requests.{head_limit}

-- what is found stays found
abbrev Stays : Option ℕ → Option ℕ → Type 0
Stays f g = (n : ℕ) → f ≡ Some n → g ≡ Some n

more_stays : (f g : Option ℕ) → Stays f g → Stays (one_more f) (one_more g)
more_stays None g stays n is = cc
more_stays (Some k) g stays n is = ap one_more (stays k refl) ∙ is

or_stays : (f f' g g' : Option ℕ) → Stays f f' → ((k : ℕ) → f ≡ None → g ≡ Some k → f' ≡ None) → Stays g g' → Stays (option_or f g) (option_or f' g')
or_stays (Some k) f' g g' first none second n is = ap (λ o. option_or o g') (first k refl) ∙ is
or_stays None f' g g' first none second n is = ap (λ o. option_or o g') (none n refl is) ∙ second n is

feed_stays : (bytes more : List ℕ) → Stays (feed bytes) (feed (bytes ++ more))
feed_stays [] more n is = cc
feed_stays (b ∷ bytes) more n is = is

line_end_stays : (bytes more : List ℕ) → Stays (line_end bytes) (line_end (bytes ++ more))
line_end_stays [] more n is = cc
line_end_stays (b ∷ bytes) more n is = by (b == 10) (b == 13) n is
  where
    by : (u v : Bool) → Stays (cond u (Some 1) (cond v (one_more (feed bytes)) None)) (cond u (Some 1) (cond v (one_more (feed (bytes ++ more))) None))
    by true v n is = is
    by false true n is = more_stays (feed bytes) (feed (bytes ++ more)) (feed_stays bytes more) n is
    by false false n is = is

-- bytes in which an empty line ends do not begin with half a line end
no_half : (bytes more : List ℕ) (k : ℕ) → line_end bytes ≡ None → to_empty_line bytes ≡ Some k → line_end (bytes ++ more) ≡ None
unfolding to_empty_line
no_half [] more k none is = cc
no_half (b ∷ []) more k none is = by (b == 10) is
  where
    by : (u : Bool) → one_more (option_or (cond {A = Option ℕ} u None None) None) ≡ Some k → line_end ((b ∷ []) ++ more) ≡ None
    by true is = cc
    by false is = cc
no_half (b ∷ c ∷ bytes) more k none is = none

to_empty_line_stays : (bytes more : List ℕ) → Stays (to_empty_line bytes) (to_empty_line (bytes ++ more))
unfolding to_empty_line
to_empty_line_stays [] more n is = cc
to_empty_line_stays (b ∷ bytes) more n is = more_stays _ _ (by (b == 10) (to_empty_line_stays bytes more)) n is
  where
    by : (u : Bool) → Stays (to_empty_line bytes) (to_empty_line (bytes ++ more)) → Stays (option_or (cond u (line_end bytes) None) (to_empty_line bytes)) (option_or (cond u (line_end (bytes ++ more)) None) (to_empty_line (bytes ++ more)))
    by true later = or_stays (line_end bytes) (line_end (bytes ++ more)) (to_empty_line bytes) (to_empty_line (bytes ++ more)) (line_end_stays bytes more) (no_half bytes more) later
    by false later = later

pub head_length_stays : (bytes more : List ℕ) → Stays (head_length bytes) (head_length (bytes ++ more))
unfolding head_length
head_length_stays [] more n is = cc
head_length_stays (b ∷ bytes) more n is = more_stays _ _ (by (is_break b) (head_length_stays bytes more)) n is
  where
    by : (u : Bool) → Stays (head_length bytes) (head_length (bytes ++ more)) → Stays (cond u (head_length bytes) (to_empty_line bytes)) (cond u (head_length (bytes ++ more)) (to_empty_line (bytes ++ more)))
    by true later = later
    by false later = to_empty_line_stays bytes more

-- the bytes within the limit stay, and more may come behind them
limit_grows : (bytes more : List ℕ) → (rest : List ℕ) × (take head_limit (bytes ++ more) ≡ take head_limit bytes ++ rest)
limit_grows bytes more = by (cases_lt (length bytes) head_limit)
  where
    by : (length bytes < head_limit) ⊎ (head_limit ≤ length bytes) → (rest : List ℕ) × (take head_limit (bytes ++ more) ≡ take head_limit bytes ++ rest)
    by (inl less) =
        let left = head_limit - length bytes in
        let count : length bytes + left ≡ head_limit = omega (arith, less) in
        let longer : take head_limit (bytes ++ more) ≡ bytes ++ take left more = subst (λ l. take l (bytes ++ more) ≡ bytes ++ take left more) count (take-append-add bytes more left) in
        (take left more, longer ∙ ap (λ front. front ++ take left more) (sym (take_all head_limit bytes (omega (arith, less)))))
    by (inr all) = ([], take-append-le head_limit bytes more all ∙ sym (append-nil (take head_limit bytes)))

-- within the limit too
pub front_stays : (bytes more : List ℕ) → Stays (head_length (take head_limit bytes)) (head_length (take head_limit (bytes ++ more)))
front_stays bytes more n is =
    let grown = limit_grows bytes more in
    ap head_length grown.1 ∙ head_length_stays (take head_limit bytes) grown.0 n is

-- what was seen stays in front
pub seen_stays : (bytes more : List ℕ) (seen : ℕ) → seen ≤ length (take head_limit bytes) → take seen (take head_limit (bytes ++ more)) ≡ take seen (take head_limit bytes)
seen_stays bytes more seen within =
    let grown = limit_grows bytes more in
    ap (take seen) grown.1 ∙ take-append-le seen (take head_limit bytes) grown.0 within

pub seen_within : (bytes more : List ℕ) (seen : ℕ) → seen ≤ length (take head_limit bytes) → seen ≤ length (take head_limit (bytes ++ more))
seen_within bytes more seen within =
    let grown = limit_grows bytes more in
    let count : length (take head_limit (bytes ++ more)) ≡ length (take head_limit bytes) + length grown.0 = ap length grown.1 ∙ length-append (take head_limit bytes) grown.0 in
    omega (arith, within, count)

-- no more bytes are found than there are
abbrev IsUpTo : ℕ → Option ℕ → Type 0
IsUpTo l found = IfSome found (λ n. n ≤ l)

more_up_to : (f : Option ℕ) (l m : ℕ) → m ≡ l + 1 → IsUpTo l f → IsUpTo m (one_more f)
more_up_to None l m is up = tt
more_up_to (Some n) l m is up = omega (arith, is, up)

or_up_to : (f g : Option ℕ) (l : ℕ) → IsUpTo l f → IsUpTo l g → IsUpTo l (option_or f g)
or_up_to (Some n) g l up up' = up
or_up_to None g l up up' = up'

feed_up_to : (bytes : List ℕ) → IsUpTo (length bytes) (feed bytes)
feed_up_to [] = tt
feed_up_to (b ∷ bytes) = by (b == 10)
  where
    by : (u : Bool) → IsUpTo (length (b ∷ bytes)) (cond u (Some 1) None)
    by true = omega arith
    by false = tt

line_end_up_to : (bytes : List ℕ) → IsUpTo (length bytes) (line_end bytes)
line_end_up_to [] = tt
line_end_up_to (b ∷ bytes) = by (b == 10) (b == 13)
  where
    by : (u v : Bool) → IsUpTo (length (b ∷ bytes)) (cond u (Some 1) (cond v (one_more (feed bytes)) None))
    by true v = omega arith
    by false true = more_up_to (feed bytes) (length bytes) (length (b ∷ bytes)) (omega arith) (feed_up_to bytes)
    by false false = tt

to_empty_line_up_to : (bytes : List ℕ) → IsUpTo (length bytes) (to_empty_line bytes)
unfolding to_empty_line
to_empty_line_up_to [] = tt
to_empty_line_up_to (b ∷ bytes) = more_up_to _ (length bytes) (length (b ∷ bytes)) (omega arith) (by (b == 10) (to_empty_line_up_to bytes))
  where
    by : (u : Bool) → IsUpTo (length bytes) (to_empty_line bytes) → IsUpTo (length bytes) (option_or (cond u (line_end bytes) None) (to_empty_line bytes))
    by true later = or_up_to (line_end bytes) (to_empty_line bytes) (length bytes) (line_end_up_to bytes) later
    by false later = later

head_length_up_to : (bytes : List ℕ) → IsUpTo (length bytes) (head_length bytes)
unfolding head_length
head_length_up_to [] = tt
head_length_up_to (b ∷ bytes) = more_up_to _ (length bytes) (length (b ∷ bytes)) (omega arith) (by (is_break b) (head_length_up_to bytes))
  where
    by : (u : Bool) → IsUpTo (length bytes) (head_length bytes) → IsUpTo (length bytes) (cond u (head_length bytes) (to_empty_line bytes))
    by true later = later
    by false later = to_empty_line_up_to bytes

-- a head within the limit is within the bytes
pub front_within : (bytes : List ℕ) (n : ℕ) → head_length (take head_limit bytes) ≡ Some n → n ≤ length (take head_limit bytes)
front_within bytes n is = subst (IsUpTo (length (take head_limit bytes))) is (head_length_up_to (take head_limit bytes))

pub front_fits : (bytes : List ℕ) (n : ℕ) → head_length (take head_limit bytes) ≡ Some n → (n ≤ head_limit) × (n ≤ length bytes)
front_fits bytes n is =
    let within : n ≤ length (take head_limit bytes) = front_within bytes n is in
    let short : n ≤ min head_limit (length bytes) = subst (λ l. n ≤ l) (length-take head_limit bytes) within in
    (omega (arith, short), omega (arith, short))
