-- A walk over a list, element by element.
use Rattle.std.proofs.Common.{◌≡◌, ℕ, List, [], ◌∷◌, ◌++◌, Bool, true, false, nat_eq, Some, Bor, map, Result, Ok, Err, refl, sym, ap, ◌∙◌, append_assoc, append-nil}
use Rattle.std.specs.List.{list_any}
use Rattle.std.specs.Cmp.Lexicographic.{pointwise}
use Rattle.wb_json.specs.Place.{Place}
use Rattle.wb_json.specs.Form.{Gives, in_turn, meaning_of, ◌>>=◌}
use Rattle.wb_json.specs.declared.wrong.Wrong.{Wrong}
use Rattle.wb_json.specs.declared.wrong.Wrong.TheVariants.{At, NoMemory}

-- the whole walk is what was done, and then the walk over the rest
abbrev pub Goes : {A B : Type 0} → (A → Result B Place) → List B → List A → Result (List B) Place → Type 0
Goes step done rest whole = whole ≡ (in_turn step rest >>= (λ ys. Ok (done ++ ys)))

all_done : {B : Type 0} (r : Result (List B) Place) → r ≡ (r >>= (λ ys. Ok ([] ++ ys)))
all_done (Ok ys) = refl
all_done (Err p) = refl

pub goes_first : {A B : Type 0} (step : A → Result B Place) (xs : List A) → Goes step [] xs (in_turn step xs)
goes_first step xs = all_done (in_turn step xs)

regroup : {B : Type 0} (done : List B) (y : B) (r : Result (List B) Place) → ((r >>= (λ ys. Ok (y ∷ ys))) >>= (λ ys. Ok (done ++ ys))) ≡ (r >>= (λ ys. Ok ((done ++ y ∷ []) ++ ys)))
regroup done y (Ok ys) = ap Ok (sym (append_assoc done (y ∷ []) ys))
regroup done y (Err p) = refl

pub goes_on : {A B : Type 0} (step : A → Result B Place) (done : List B) (x : A) (y : B) (xs : List A) (whole : Result (List B) Place) → step x ≡ Ok y → Goes step done (x ∷ xs) whole → Goes step (done ++ y ∷ []) xs whole
goes_on step done x y xs whole is so_far = rw is at so_far ∙ regroup done y (in_turn step xs)

pub goes_wrong : {A B : Type 0} (step : A → Result B Place) (done : List B) (x : A) (xs : List A) (whole : Result (List B) Place) (e : Wrong) → Gives {A = B} (Err e) (step x) → Goes step done (x ∷ xs) whole → Gives {A = List B} (Err e) whole
goes_wrong step done x xs whole (At p) is so_far = rw is at so_far
goes_wrong step done x xs whole NoMemory is so_far = tt

pub goes_last : {A B : Type 0} (step : A → Result B Place) (done : List B) (whole : Result (List B) Place) → Goes step done [] whole → whole ≡ Ok done
goes_last step done whole so_far = so_far ∙ ap Ok (append-nil done)

pub list_any_map : {A B : Type 0} (p : B → Bool) (f : A → B) (xs : List A) → list_any p (map f xs) ≡ list_any (λ x. p (f x)) xs
list_any_map p f [] = refl
list_any_map p f (x ∷ xs) = rw (list_any_map p f xs)

-- the words as their texts with what they mean
abbrev pub words_now : {A : Type 0} → List (Bor (List ℕ) × A) → List (List ℕ × A)
words_now words = map (λ w. (w.0.now, w.1)) words

pub meaning_skips : {A : Type 0} (text : List ℕ) (here rest : List (Bor (List ℕ) × A)) (w : Bor (List ℕ) × A) → here ≡ w ∷ rest → pointwise nat_eq w.0.now text ≡ false → meaning_of (words_now here) text ≡ meaning_of (words_now rest) text
meaning_skips text here rest w is other = rw (is, other)

pub meaning_found : {A : Type 0} (text : List ℕ) (here rest : List (Bor (List ℕ) × A)) (w : Bor (List ℕ) × A) → here ≡ w ∷ rest → pointwise nat_eq w.0.now text ≡ true → Some w.1 ≡ meaning_of (words_now here) text
meaning_found text here rest w is same = rw (is, same)
