-- Without a cycle fewer classes stand above a supertype than above the class, so the features of a class stand still.
use Rattle.std.proofs.Common.{◌≡◌, ℕ, ◌+◌, ◌<◌, ◌≤◌, Bool, true, false, cond, eqb, List, [], ◌∷◌, ◌++◌, length, zero, suc, refl, ap, ◌∙◌, subst, ⊎_elim, arith}
use Rattle.std.proofs.lemmas.Bool.{cases_Bool, false≢true, or_cases, or_left, or_right, eqb-true, eq-eqb, cond-true, cond-false}
use Rattle.std.proofs.lemmas.List.Recursion.{is_count_by}
use Rattle.std.proofs.lemmas.List.FromFn.{length-range_with_len}
use Rattle.std.specs.List.{list_any, flat_map, count_by}
use Rattle.wb_metamodel.specs.Metamodel.{Metamodel, numbers, supertypes_of, is_supertype, is_below, first_places, own_features, features_within, features_of}
use Rattle.wb_metamodel.specs.invariants.Tables.{rank_of}
use Rattle.wb_metamodel.proofs.Paths.{among_range, below-step, below-joined}

unfoldable pub tally : {X : Type 0} → (X → Bool) → List X → ℕ
tally p [] = 0
tally p (x ∷ xs) = cond (p x) (1 + tally p xs) (tally p xs)

pub tally-is : {X : Type 0} (p : X → Bool) (xs : List X) → tally p xs ≡ count_by p xs
unfolding tally
tally-is p xs = is_count_by (tally p) p refl (λ x ys. refl) xs

tally-le : {X : Type 0} (p q : X → Bool) (xs : List X) → ((x : X) → p x ≡ true → q x ≡ true) → tally p xs ≤ tally q xs
unfolding tally
tally-le p q [] h = omega arith
tally-le p q (x ∷ xs) h =
    let more = tally-le p q xs h in
    ⊎_elim
    (λ y. let a = cond-true (p x) (1 + tally p xs) (tally p xs) y in let b = cond-true (q x) (1 + tally q xs) (tally q xs) (h x y) in omega arith)
    (λ n.
    let a = cond-false (p x) (1 + tally p xs) (tally p xs) n in
    ⊎_elim
    (λ y. let b = cond-true (q x) (1 + tally q xs) (tally q xs) y in omega arith)
    (λ m. let b = cond-false (q x) (1 + tally q xs) (tally q xs) m in omega arith)
    (cases_Bool (q x)))
    (cases_Bool (p x))

-- one more passes the weaker test
tally-lt : (p q : ℕ → Bool) (xs : List ℕ) (k : ℕ) → ((x : ℕ) → p x ≡ true → q x ≡ true) → list_any (eqb k) xs ≡ true → p k ≡ false → q k ≡ true → tally p xs < tally q xs
unfolding tally
tally-lt p q [] k h m low high = absurd (false≢true m)
tally-lt p q (x ∷ xs) k h m low high =
    ⊎_elim
    (λ e.
    let same : k ≡ x = eqb-true k x e in
    let a = cond-false (p x) (1 + tally p xs) (tally p xs) (subst (λ v. p v ≡ false) same low) in
    let b = cond-true (q x) (1 + tally q xs) (tally q xs) (subst (λ v. q v ≡ true) same high) in
    let c = tally-le p q xs h in
    omega arith)
    (λ i.
    let c = tally-lt p q xs k h i low high in
    ⊎_elim
    (λ y. let a = cond-true (p x) (1 + tally p xs) (tally p xs) y in let b = cond-true (q x) (1 + tally q xs) (tally q xs) (h x y) in omega arith)
    (λ n.
    let a = cond-false (p x) (1 + tally p xs) (tally p xs) n in
    ⊎_elim
    (λ y. let b = cond-true (q x) (1 + tally q xs) (tally q xs) y in omega arith)
    (λ z. let b = cond-false (q x) (1 + tally q xs) (tally q xs) z in omega arith)
    (cases_Bool (q x)))
    (cases_Bool (p x)))
    (or_cases (eqb k x) _ m)

tally-all : (xs : List ℕ) → tally (λ x. true) xs ≡ length xs
unfolding tally
tally-all [] = refl
tally-all (x ∷ xs) = let h = tally-all xs in omega arith

abbrev pub Acyclic : Metamodel → Type 0
Acyclic mm = (c : ℕ) → is_below mm c c ≡ false

abbrev pub Known : Metamodel → Type 0
Known mm = (c s : ℕ) → is_supertype mm c s ≡ true → s < length mm.classes

pub rank-falls : (mm : Metamodel) → Acyclic mm → Known mm → (c s : ℕ) → is_supertype mm c s ≡ true → rank_of mm s < rank_of mm c
unfolding rank_of
rank-falls mm acyclic known c s h =
    let ns = numbers (length mm.classes) in
    let step = below-step mm c s h in
    let less = tally-lt (is_below mm s) (is_below mm c) ns s (λ x p. below-joined mm c s x step p) (among_range s 0 (length mm.classes) (omega arith) (omega (arith, known c s h))) (acyclic s) step in
    omega (arith, tally-is (is_below mm s) ns, tally-is (is_below mm c) ns)

pub rank-within : (mm : Metamodel) → Acyclic mm → (c : ℕ) → c < length mm.classes → rank_of mm c < length mm.classes
unfolding rank_of
rank-within mm acyclic c h =
    let ns = numbers (length mm.classes) in
    let less = tally-lt (is_below mm c) (λ x. true) ns c (λ x p. refl) (among_range c 0 (length mm.classes) (omega arith) (omega arith)) (acyclic c) refl in
    omega (arith, tally-is (is_below mm c) ns, tally-all ns, length-range_with_len 0 (length mm.classes))

pub flat_map-same : (f g : ℕ → List ℕ) (xs : List ℕ) → ((x : ℕ) → list_any (eqb x) xs ≡ true → f x ≡ g x) → flat_map f xs ≡ flat_map g xs
flat_map-same f g [] h = refl
flat_map-same f g (x ∷ xs) h =
    ap (λ l. l ++ flat_map f xs) (h x (or_left _ _ (eq-eqb x x refl))) ∙ ap (λ l. g x ++ l) (flat_map-same f g xs (λ y m. h y (or_right (eqb y x) _ m)))

still : (mm : Metamodel) → Acyclic mm → Known mm → (n m c : ℕ) → rank_of mm c < n → rank_of mm c < m → features_within mm n c ≡ features_within mm m c
unfolding features_within
still mm acyclic known zero m c h k = absurd (omega arith)
still mm acyclic known (suc n) zero c h k = absurd (omega arith)
still mm acyclic known (suc n) (suc m) c h k =
    ap (λ l. first_places (l ++ own_features mm c))
    (flat_map-same (features_within mm n) (features_within mm m) (supertypes_of mm c)
    (λ s i.
    let falls = rank-falls mm acyclic known c s i in
    still mm acyclic known n m s (omega arith) (omega arith)))

unfolded : (mm : Metamodel) (n c : ℕ) → features_within mm (suc n) c ≡ first_places (flat_map (features_within mm n) (supertypes_of mm c) ++ own_features mm c)
unfolding features_within
unfolded mm n c = refl

-- the features of a class: those of its supertypes, and then its own, each at its first place
pub features_of-step : (mm : Metamodel) → Acyclic mm → Known mm → (c : ℕ) → c < length mm.classes
    → features_of mm c ≡ first_places (flat_map (features_of mm) (supertypes_of mm c) ++ own_features mm c)
unfolding features_of
features_of-step mm acyclic known c h =
    let all = length mm.classes in
    let low = rank-within mm acyclic c h in
    still mm acyclic known all (suc all) c low (omega arith) ∙ unfolded mm all c
