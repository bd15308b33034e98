-- Names that are taken, one after the other.
use Rattle.std.proofs.Common.{◌≡◌, ℕ, ◌+◌, ◌-◌, ◌<◌, ◌≤◌, Bool, true, false, cond, ◌||◌, List, [], ◌∷◌, ◌++◌, length, map, take, drop, get_or, Option, Some, None, Result, Ok, Err, suc, refl, sym, ap, ◌∙◌, subst, append_assoc, arith}
use Rattle.std.specs.Prelude.{⊤, is_some}
use Rattle.std.specs.Cmp.Lexicographic.{nat_list_eq_equiv}
use Rattle.std.proofs.lemmas.List.{take_more, drop_more}
use Rattle.std.proofs.lemmas.List.Folds.{list_any-append}
use Rattle.std.proofs.lemmas.Bool.{cond-false}
use Rattle.std.proofs.lemmas.Option.{slice_get_read}
use Rattle.std.specs.List.{list_any, find, range_with_len}
use Rattle.std.specs.Option.{option_or, option_map_or}
use Rattle.wb_json.specs.Place.{Place, at_index}
use Rattle.wb_ecore.specs.declared.numbered_names.NumberedNames.{NumberedNames}
use Rattle.wb_ecore.specs.Naming.{same_name, numbers}
use Rattle.wb_ecore.specs.invariants.NumberedNames.{number_of, fresh_in, GainsName, Holds}
use Rattle.wb_ecore.specs.Repeats.{◌>>=◌, each_from, fresh, repeats}

either : (o : Option ℕ) (b : Bool) (n : ℕ) → is_some (option_or o (cond b (Some n) None)) ≡ (is_some o || b)
either None true n = refl
either None false n = refl
either (Some x) b n = refl

pub added : (old new : NumberedNames) (name : List ℕ) (n : ℕ) → ((other : List ℕ) → number_of new other ≡ option_or (number_of old other) (cond (same_name name other) (Some n) None)) → GainsName old name new
added old new name n h = λ other. ap is_some (h other) ∙ either (number_of old other) (same_name name other) n

or-assoc : (a b c : Bool) → ((a || b) || c) ≡ (a || (b || c))
or-assoc true b c = refl
or-assoc false b c = refl

or-none : (b : Bool) → (b || false) ≡ b
or-none true = refl
or-none false = refl

-- one more name
pub holds-push : (old new : NumberedNames) (all : List (List ℕ)) (name : List ℕ) → Holds old all → GainsName old name new → Holds new (all ++ name ∷ [])
holds-push old new all name held takes = λ other.
    takes other
    ∙ ap (λ b. b || same_name name other) (held other)
    ∙ ap (λ b. list_any (same_name other) all || b) (nat_list_eq_equiv.symm name other ∙ sym (or-none (same_name other name)))
    ∙ sym (list_any-append (same_name other) all (name ∷ []))

map-push : {A B : Type 0} (f : A → B) (xs : List A) (x : A) → map f (xs ++ x ∷ []) ≡ map f xs ++ f x ∷ []
map-push f [] x = refl
map-push f (y ∷ ys) x = ap (λ zs. f y ∷ zs) (map-push f ys x)

-- one more of a list that is walked
pub holds-more : {X : Type 0} (f : X → List ℕ) (front : List (List ℕ)) (xs : List X) (i : ℕ) (x : X) (old new : NumberedNames) → Holds old (front ++ map f (take i xs)) → GainsName old (f x) new → i < length xs → x ≡ get_or xs i x
    → Holds new (front ++ map f (take (i + 1) xs))
holds-more f front xs i x old new held takes l e =
    subst (Holds new)
    (append_assoc front (map f (take i xs)) (f x ∷ [])
    ∙ ap (λ ys. front ++ ys) (sym (map-push f (take i xs) x) ∙ ap (λ v. map f (take i xs ++ v ∷ [])) e ∙ ap (map f) (sym (take_more xs i x l))))
    (holds-push old new (front ++ map f (take i xs)) (f x) held takes)

-- a name that is not taken stands nowhere earlier
pub not-repeated : {X : Type 0} (f : X → List ℕ) (xs : List X) (i : ℕ) (x : X) (taken : NumberedNames) → Holds taken (map f (take i xs)) → i < length xs → x ≡ get_or xs i x → repeats f xs i ≡ is_some (number_of taken (f x))
not-repeated f xs i x taken held l e =
    ap (λ o. option_map_or (λ y. list_any (same_name (f y)) (map f (take i xs))) o false) (slice_get_read xs (length xs) i x refl l e) ∙ sym (held (f x))

pub find-on : (p : ℕ → Bool) (n i : ℕ) → i < n → p i ≡ false → find p (range_with_len i (n - i)) ≡ find p (range_with_len (i + 1) (n - (i + 1)))
find-on p n i l no_ =
    let e : n - i ≡ suc (n - (i + 1)) = omega arith in
    ap (λ k. find p (range_with_len i k)) e ∙ cond-false (p i) (Some i) (find p (range_with_len (i + 1) (n - (i + 1)))) no_

pub find-here : (p : ℕ → Bool) (n i : ℕ) → i < n → p i ≡ true → find p (range_with_len i (n - i)) ≡ Some i
find-here p n i l yes_ =
    let e : n - i ≡ suc (n - (i + 1)) = omega arith in
    ap (λ k. find p (range_with_len i k)) e ∙ ap (λ b. cond b (Some i) (find p (range_with_len (i + 1) (n - (i + 1))))) yes_

-- a walk of checks, one on
pub each-on : {A : Type 0} (check : ℕ → A → Result ⊤ Place) (xs : List A) (i : ℕ) (x : A) (whole : Result ⊤ Place) → i < length xs → x ≡ get_or xs i x → at_index i (check i x) ≡ Ok tt → whole ≡ each_from check i (drop i xs) → whole ≡ each_from check (i + 1) (drop (i + 1) xs)
each-on check xs i x whole l e ok so_far =
    so_far ∙ ap (each_from check i) (drop_more xs i x l ∙ ap (λ v. v ∷ drop (i + 1) xs) (sym e)) ∙ ap (λ r. r >>= (λ _. each_from check (i + 1) (drop (i + 1) xs))) ok

pub each-stops : {A : Type 0} (check : ℕ → A → Result ⊤ Place) (xs : List A) (i : ℕ) (x : A) (whole : Result ⊤ Place) (place : Place) → i < length xs → x ≡ get_or xs i x → at_index i (check i x) ≡ Err place → whole ≡ each_from check i (drop i xs) → whole ≡ Err place
each-stops check xs i x whole place l e wrong so_far =
    so_far ∙ ap (each_from check i) (drop_more xs i x l ∙ ap (λ v. v ∷ drop (i + 1) xs) (sym e)) ∙ ap (λ r. r >>= (λ _. each_from check (i + 1) (drop (i + 1) xs))) wrong

pub fresh-same : (taken : NumberedNames) (all : List (List ℕ)) (name : List ℕ) → Holds taken all → fresh_in taken name ≡ fresh all name
fresh-same taken all name held = ap (λ b. cond b (Err []) (Ok tt)) (held name)

pub find-start : (p : ℕ → Bool) (n : ℕ) → find p (numbers n) ≡ find p (range_with_len 0 (n - 0))
find-start p n = ap (λ k. find p (range_with_len 0 k)) (let z : n ≡ n - 0 = omega arith in z)

pub find-done : (p : ℕ → Bool) (n i : ℕ) → n ≤ i → find p (range_with_len i (n - i)) ≡ None
find-done p n i h = ap (λ k. find p (range_with_len i k)) (let z : n - i ≡ 0 = omega arith in z)
