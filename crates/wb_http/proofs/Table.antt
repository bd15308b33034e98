-- What the walk over the table's rows finds.
use Rattle.std.proofs.Common.{◌≡◌, ℕ, zero, suc, ◌-◌, ◌<◌, List, [], ◌∷◌, length, get_or, drop, Option, Some, None, option_map, codes, Bool, true, false, cond, not, ◌&&◌, refl, ap, ◌∙◌, arith, nat_eq, ◌==◌, rules}
use Rattle.std.proofs.lemmas.Bool.Decides.{nat_tests}
use Rattle.std.specs.Str.{bytes_eq}
use Rattle.std.specs.List.{starts_with}
use Rattle.matchit.specs.Rows.{RowsOf, param_token}
use Rattle.matchit.specs.Router.{RouteOf}
use Rattle.wb_http.specs.declared.routes.Target.{Target}
use Rattle.wb_http.specs.Routes.{is_key, behind_slash, table, tails, kind_of, value_of}
use Rattle.matchit.specs.Seek.{own, step, or_else, seek, first, param_step, has_slash}

-- each byte is below 256, as those of a text are
abbrev pub AllBytes : List ℕ → Type 0
AllBytes [] = Unit {0}
AllBytes (b ∷ bs) = (b < 256) × AllBytes bs

module _ {K : Type 0} where
  pub param_step_none : (p : List ℕ) → (param_step {K = K} [] p).1 ≡ []
  unfolding param_step
  param_step_none p =
      elim (has_slash p) as (λ v. (cond {A = ℕ × RowsOf K} v (0, []) (length p, [])).1 ≡ []) [ true ↦ refl | false ↦ refl ]

  pub seek_none : (n : ℕ) (p : List ℕ) → seek {K = K} n [] p ≡ None
  unfolding seek
  seek_none zero [] = refl
  seek_none (suc n) [] = refl
  seek_none (suc n) (b ∷ p) = seek_none n p
  seek_none zero (b ∷ p) = rw (seek_none 0 p, param_step_none (b ∷ p), seek_none _ p) refl

  pub or_none : (a : Option K) → or_else a None ≡ a
  or_none None = refl
  or_none (Some k) = refl

  -- rows with a byte in front
  abbrev pub under : ℕ → RowsOf K → RowsOf K
  under x [] = []
  under x ((t, k) ∷ rs) = (x ∷ t, k) ∷ under x rs

  step_under : (x b : ℕ) (rs : RowsOf K) → step b (under x rs) ≡ cond (x == b) rs []
  step_under x b [] = by (x == b)
    where
      by : (v : Bool) → [] ≡ cond {A = RowsOf K} v [] []
      by true = refl
      by false = refl
  step_under x b ((t, k) ∷ rs) = by (x == b) (step_under x b rs)
    where
      by : (v : Bool) → step b (under x rs) ≡ cond v rs [] → cond v ((t, k) ∷ step b (under x rs)) (step b (under x rs)) ≡ cond v ((t, k) ∷ rs) []
      by true ih = ap (λ r. (t, k) ∷ r) ih
      by false ih = ih

  own_under : (x : ℕ) (rs : RowsOf K) → own (under x rs) ≡ None
  own_under x [] = refl
  own_under x ((t, k) ∷ rs) = own_under x rs

  pub first_under : (x : ℕ) (rs : RowsOf K) (b : ℕ) (p : List ℕ) → x < 256 → first (under x rs) (b ∷ p) ≡ cond (x == b) (first rs p) None
  unfolding seek
  first_under x rs b p small =
      let no_param : (x == 256) ≡ false = grind (arith, nat_tests, small) in
      let no_rest : (x == 257) ≡ false = grind (arith, nat_tests, small) in
      rw (step_under x 256 rs, step_under x 257 rs, step_under x b rs, no_param, no_rest, param_step_none (b ∷ p), seek_none _ p) (by (x == b))
    where
      by : (v : Bool) → or_else (seek 0 (cond v rs []) p) None ≡ cond v (seek 0 rs p) None
      by true = or_none _
      by false = rw (seek_none 0 p) refl

  -- rows with a text in front
  abbrev pub prefixed : List ℕ → RowsOf K → RowsOf K
  prefixed [] rs = rs
  prefixed (x ∷ w) rs = under x (prefixed w rs)

  pub first_prefixed : (w : List ℕ) (rs : RowsOf K) (p : List ℕ) → AllBytes w → first (prefixed w rs) p ≡ cond (starts_with nat_eq p w) (first rs (drop (length w) p)) None
  unfolding seek
  first_prefixed [] rs p h = refl
  first_prefixed (x ∷ w) rs [] h = own_under x (prefixed w rs)
  first_prefixed (x ∷ w) rs (b ∷ p) h = first_under x (prefixed w rs) b p h.0 ∙ by (x == b) refl (first_prefixed w rs p h.1)
    where
      by : (v : Bool) → (x == b) ≡ v → first (prefixed w rs) p ≡ cond (starts_with nat_eq p w) (first rs (drop (length w) p)) None
          → cond v (first (prefixed w rs) p) None ≡ cond (starts_with nat_eq (b ∷ p) (x ∷ w)) (first rs (drop (length w) p)) None
      by true e ih = rw e ih
      by false e ih = rw e refl

  -- a row that ends with a parameter
  seek_skip : (q : List ℕ) (rs : RowsOf K) → seek (length q) rs q ≡ own rs
  unfolding seek
  seek_skip [] rs = refl
  seek_skip (b ∷ q) rs = seek_skip q rs

  pub first_param : (k : K) (q : List ℕ) → AllBytes q → first ((param_token ∷ [], k) ∷ []) q ≡ cond (is_key q) (Some k) None
  unfolding seek param_step
  first_param k [] h = refl
  first_param k (b ∷ q) h =
      let no_byte : (256 == b) ≡ false = grind (arith, nat_tests, h.0) in
      rw (no_byte, seek_none 0 q) (by (has_slash (b ∷ q)))
    where
      by : (v : Bool) → or_else (seek ((cond {A = ℕ × RowsOf K} v (0, []) (length (b ∷ q), ([], k) ∷ [])).0 - 1) (cond {A = ℕ × RowsOf K} v (0, []) (length (b ∷ q), ([], k) ∷ [])).1 q) None ≡ cond (not v) (Some k) None
      by true = rw (seek_none 0 q) refl
      by false =
          let less : suc (length q) - 1 ≡ length q = omega arith in
          rw (less, seek_skip q (([], k) ∷ [])) refl

  pub first_whole : (w : List ℕ) (k : K) (p : List ℕ) → AllBytes w → first (prefixed w (([], k) ∷ [])) p ≡ cond (bytes_eq p w) (Some k) None
  unfolding seek
  first_whole [] k [] h = refl
  first_whole [] k (b ∷ p) h = rw (seek_none 0 p, param_step_none (b ∷ p), seek_none _ p) refl
  first_whole (x ∷ w) k [] h = own_under x (prefixed w (([], k) ∷ []))
  first_whole (x ∷ w) k (b ∷ p) h = first_under x (prefixed w (([], k) ∷ [])) b p h.0 ∙ by (x == b) refl (first_whole w k p h.1)
    where
      by : (v : Bool) → (x == b) ≡ v → first (prefixed w (([], k) ∷ [])) p ≡ cond (bytes_eq p w) (Some k) None
          → cond v (first (prefixed w (([], k) ∷ [])) p) None ≡ cond (bytes_eq (b ∷ p) (x ∷ w)) (Some k) None
      by true e ih = let e2 : (b == x) ≡ true = grind (arith, nat_tests) in rw e2 ih
      by false e ih = let e2 : (b == x) ≡ false = grind (arith, nat_tests) in rw e2 refl

module _ {K : Type 0} where
  -- where no row goes on with a parameter, the byte decides
  pub first_fork : (rs : RowsOf K) (c : ℕ) (p : List ℕ) → step param_token rs ≡ [] → own (step 257 rs) ≡ None → first rs (c ∷ p) ≡ first (step c rs) p
  unfolding seek
  first_fork rs c p e1 e2 = rw (e1, e2, param_step_none (c ∷ p), seek_none _ p) (or_none _)

  pub first_end : (rs : RowsOf K) → first rs [] ≡ own rs
  unfolding seek
  first_end rs = refl

abbrev Found : Type 0
Found = RouteOf Target

abbrev shown : Option Found → Option Target
shown = option_map value_of

shown_cond : (v : Bool) (k : Found) → shown (cond v (Some k) None) ≡ cond v (Some k.value) None
shown_cond true k = refl
shown_cond false k = refl

whole_case : (w : List ℕ) (k : Found) (p : List ℕ) → AllBytes w → shown (first (prefixed w (([], k) ∷ [])) p) ≡ cond (bytes_eq p w) (Some k.value) None
whole_case w k p h = rw (first_whole w k p h) (shown_cond (bytes_eq p w) k)

shown_both : (u v : Bool) (k : Found) → shown (cond u (cond v (Some k) None) None) ≡ cond (u && v) (Some k.value) None
shown_both true v k = shown_cond v k
shown_both false v k = refl

AllBytes-drop : (n : ℕ) (p : List ℕ) → AllBytes p → AllBytes (drop n p)
AllBytes-drop zero p h = h
AllBytes-drop (suc n) [] h = tt
AllBytes-drop (suc n) (b ∷ p) h = AllBytes-drop n p h.1

key_case : (w : List ℕ) (k : Found) (p : List ℕ) → AllBytes w → AllBytes p
    → shown (first (prefixed w ((param_token ∷ [], k) ∷ [])) p) ≡ cond (starts_with nat_eq p w && is_key (drop (length w) p)) (Some k.value) None
key_case w k p h hp =
    rw (first_prefixed w ((param_token ∷ [], k) ∷ []) p h, first_param k (drop (length w) p) (AllBytes-drop (length w) p hp))
    (shown_both (starts_with nat_eq p w) (is_key (drop (length w) p)) k)

-- behind the slash, the first byte decides
second : (c : ℕ) (p : List ℕ) → AllBytes p → shown (first (step c tails) p) ≡ kind_of (47 ∷ c ∷ p)
second c p h = by99 (99 == c) refl
  where
    none : (99 == c) ≡ false → (100 == c) ≡ false → (101 == c) ≡ false → (109 == c) ≡ false → (115 == c) ≡ false → shown (first (step c tails) p) ≡ kind_of (47 ∷ c ∷ p)
    none e99 e100 e101 e109 e115 =
        let f99 : (c == 99) ≡ false = grind (arith, nat_tests) in
        let f100 : (c == 100) ≡ false = grind (arith, nat_tests) in
        let f109 : (c == 109) ≡ false = grind (arith, nat_tests) in
        let f115 : (c == 115) ≡ false = grind (arith, nat_tests) in
        rw (e99, e100, e101, e109, e115, f99, f100, f109, f115, seek_none 0 p) refl

    by115 : (v : Bool) → (115 == c) ≡ v → (99 == c) ≡ false → (100 == c) ≡ false → (101 == c) ≡ false → (109 == c) ≡ false → shown (first (step c tails) p) ≡ kind_of (47 ∷ c ∷ p)
    by115 true e e99 e100 e101 e109 = let q : c ≡ 115 = grind (arith, nat_tests) in rw q (whole_case (codes "top") _ p (search rules))
    by115 false e e99 e100 e101 e109 = none e99 e100 e101 e109 e

    by109 : (v : Bool) → (109 == c) ≡ v → (99 == c) ≡ false → (100 == c) ≡ false → (101 == c) ≡ false → shown (first (step c tails) p) ≡ kind_of (47 ∷ c ∷ p)
    by109 true e e99 e100 e101 = let q : c ≡ 109 = grind (arith, nat_tests) in rw q (whole_case (codes "odel") _ p (search rules))
    by109 false e e99 e100 e101 = by115 (115 == c) refl e99 e100 e101 e

    by101 : (v : Bool) → (101 == c) ≡ v → (99 == c) ≡ false → (100 == c) ≡ false → shown (first (step c tails) p) ≡ kind_of (47 ∷ c ∷ p)
    by101 true e e99 e100 = let q : c ≡ 101 = grind (arith, nat_tests) in rw q (key_case (codes "lement/") _ p (search rules) h)
    by101 false e e99 e100 = by109 (109 == c) refl e99 e100 e

    by100 : (v : Bool) → (100 == c) ≡ v → (99 == c) ≡ false → shown (first (step c tails) p) ≡ kind_of (47 ∷ c ∷ p)
    by100 true e e99 = let q : c ≡ 100 = grind (arith, nat_tests) in rw q (whole_case (codes "iagram") _ p (search rules))
    by100 false e e99 = by101 (101 == c) refl e99 e

    by99 : (v : Bool) → (99 == c) ≡ v → shown (first (step c tails) p) ≡ kind_of (47 ∷ c ∷ p)
    by99 true e = let q : c ≡ 99 = grind (arith, nat_tests) in rw q (whole_case (codes "ommand") _ p (search rules))
    by99 false e = by100 (100 == c) refl e

tails_of : (p : List ℕ) → AllBytes p → shown (first tails p) ≡ kind_of (47 ∷ p)
tails_of [] h = rw (first_end tails) refl
tails_of (c ∷ p) h = rw (first_fork tails c p refl refl) (second c p h.1)

other : (b : ℕ) (p : List ℕ) → (47 == b) ≡ false → None ≡ kind_of (b ∷ p)
other b p e =
    let f : (b == 47) ≡ false = grind (arith, nat_tests) in
    rw (e, f) refl

-- the routes that the router's rows find are those of the definition
pub first-table : (p : List ℕ) → AllBytes p → shown (first table p) ≡ kind_of p
unfolding table
first-table [] h = rw (first_end (behind_slash tails)) refl
first-table (b ∷ p) h = rw (first_under 47 tails b p (omega arith)) (by (47 == b) refl)
  where
    by : (v : Bool) → (47 == b) ≡ v → shown (cond v (first tails p) None) ≡ kind_of (b ∷ p)
    by true e = let q : b ≡ 47 = grind (arith, nat_tests) in rw q (tails_of p h.1)
    by false e = other b p e

pub AllBytes-from_fits : (p : List ℕ) → ((i : ℕ) → get_or p i 0 < 256) → AllBytes p
AllBytes-from_fits [] h = tt
AllBytes-from_fits (b ∷ p) h = (h 0, AllBytes-from_fits p (λ i. h (suc i)))
