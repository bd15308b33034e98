-- The first places of names, and whether a name stands before an item.
use Rattle.std.proofs.Common.{◌≡◌, ℕ, zero, suc, ◌+◌, ◌<◌, ◌≤◌, Bool, true, false, not, ◌||◌, ◌&&◌, cond, ltb, List, [], ◌∷◌, length, take, map, Option, Some, None, Ok, Err, refl, sym, ap, ap₂, ◌∙◌, ⊎_elim, arith}
use Rattle.std.specs.Prelude.{is_some, slice_get, if◌then◌else◌}
use Rattle.std.specs.List.{list_any, position, position_or_len}
use Rattle.std.specs.Option.{option_or}
use Rattle.std.specs.Cmp.Lexicographic.{nat_list_eq_equiv}
use Rattle.std.proofs.lemmas.Bool.{cases_lt, lt-ltb, le-ltb}
use Rattle.std.proofs.lemmas.List.{length-map}
use Rattle.std.proofs.lemmas.List.Folds.{list_any_more}
use Rattle.std.proofs.lemmas.Option.{slice_get_within, get_or_from_slice_get}
use Rattle.wb_base.specs.Names.{same_name}
use Rattle.wb_expressions.specs.declared.problem.ProblemCode.TheVariants as code
use Rattle.wb_spec_check.specs.Findings.{own_name, problem_if}
use Rattle.wb_spec_check.specs.invariants.Known.{place_in}

-- ---- first places

first-map : {X Y : Type 0} (p : Y → Bool) (f : X → Y) (xs : List X) → position_or_len p (map f xs) ≡ position_or_len (λ x. p (f x)) xs
first-map p f [] = refl
first-map p f (x ∷ xs) = ap (λ k. cond (not (p (f x))) (1 + k) 0) (first-map p f xs)

-- the first place of a name among the names of items
pub placed : {X : Type 0} (f : X → List ℕ) (xs : List X) (name : List ℕ) → place_in (map f xs) name ≡ position (λ x. same_name (f x) name) xs
placed f xs name = ap₂ (λ k n. cond (ltb k n) (Some k) None) (first-map (λ other. same_name other name) f xs) (length-map xs f)

-- the item whose name was looked up
pub first_found : {X : Type 0} (f : X → List ℕ) (xs : List X) (name : List ℕ) (o : Option ℕ) → o ≡ place_in (map f xs) name → position (λ x. same_name (f x) name) xs ≡ o
first_found f xs name o is = sym (is ∙ placed f xs name)

-- ---- names of their own

less_by_one : (k n : ℕ) → ltb (1 + k) (suc n) ≡ ltb k n
less_by_one k n = ⊎_elim (λ l. lt-ltb (1 + k) (suc n) (omega arith) ∙ sym (lt-ltb k n l)) (λ m. le-ltb (1 + k) (suc n) (omega arith) ∙ sym (le-ltb k n m)) (cases_lt k n)

not_below : (b : Bool) (k : ℕ) → (b && ltb k 0) ≡ false
not_below true k = le-ltb k 0 (omega arith)
not_below false k = refl

any_step : (b r : Bool) (k n m : ℕ) → r ≡ (ltb k n && ltb k m) → (b || r) ≡ (ltb (cond (not b) (1 + k) 0) (suc n) && ltb (cond (not b) (1 + k) 0) (suc m))
any_step true r k n m is = sym (ap₂ (λ x y. x && y) (lt-ltb 0 (suc n) (omega arith)) (lt-ltb 0 (suc m) (omega arith)))
any_step false r k n m is = is ∙ sym (ap₂ (λ x y. x && y) (less_by_one k n) (less_by_one k m))

-- one of the first items passes where the first that passes is one of them
any_before : {X : Type 0} (p : X → Bool) (xs : List X) (m : ℕ) → list_any p (take m xs) ≡ (ltb (position_or_len p xs) (length xs) && ltb (position_or_len p xs) m)
any_before p [] zero = refl
any_before p [] (suc m) = refl
any_before p (x ∷ xs) zero = sym (not_below (ltb (position_or_len p (x ∷ xs)) (length (x ∷ xs))) (position_or_len p (x ∷ xs)))
any_before p (x ∷ xs) (suc m) = any_step (p x) (list_any p (take m xs)) (position_or_len p xs) (length xs) m (any_before p xs m)

turned : (name : List ℕ) (xs : List (List ℕ)) → list_any (same_name name) xs ≡ list_any (λ other. same_name other name) xs
turned name [] = refl
turned name (x ∷ xs) = ap₂ (λ a b. a || b) (nat_list_eq_equiv.symm name x) (turned name xs)

-- is the place one of the first?
abbrev pub is_before : Option ℕ → ℕ → Bool
is_before None m = false
is_before (Some k) m = ltb k m

by_place : (k n m : ℕ) (o : Option ℕ) → cond (ltb k n) (Some k) None ≡ o → (ltb k n && ltb k m) ≡ is_before o m
by_place k n m o is = by_case (ltb k n) k m o is
  where
    by_case : (b : Bool) (k m : ℕ) (o : Option ℕ) → cond b (Some k) None ≡ o → (b && ltb k m) ≡ is_before o m
    by_case true k m o is = ap (λ p. is_before p m) is
    by_case false k m o is = ap (λ p. is_before p m) is

pub before_or_not : (all : List (List ℕ)) (name : List ℕ) (m : ℕ) (o : Option ℕ) → place_in all name ≡ o → own_name (take m all) name ≡ problem_if (is_before o m) code.DuplicateName name
before_or_not all name m o is =
    ap (λ b. problem_if b code.DuplicateName name)
    (turned name (take m all) ∙ any_before (λ other. same_name other name) all m ∙ by_place (position_or_len (λ other. same_name other name) all) (length all) m o is)

-- the name stands before
pub repeated : (all : List (List ℕ)) (name : List ℕ) (m k : ℕ) → place_in all name ≡ Some k → k < m → own_name (take m all) name ≡ Err (code.DuplicateName, name)
repeated all name m k is less = before_or_not all name m (Some k) is ∙ ap (λ b. problem_if b code.DuplicateName name) (lt-ltb k m less)

-- it does not
pub not_repeated : (all : List (List ℕ)) (name : List ℕ) (m k : ℕ) → place_in all name ≡ Some k → m ≤ k → own_name (take m all) name ≡ Ok tt
not_repeated all name m k is more = before_or_not all name m (Some k) is ∙ ap (λ b. problem_if b code.DuplicateName name) (le-ltb k m more)

pub not_there : (all : List (List ℕ)) (name : List ℕ) (m : ℕ) → place_in all name ≡ None → own_name (take m all) name ≡ Ok tt
not_there all name m is = before_or_not all name m None is

-- ---- names that gain one

some_or : (a : Option ℕ) (b : Bool) (n : ℕ) → is_some (option_or a (if b then Some n else None)) ≡ (is_some a || b)
some_or None true n = refl
some_or None false n = refl
some_or (Some k) true n = refl
some_or (Some k) false n = refl

any_more : {X : Type 0} (p : X → Bool) (xs : List X) (i : ℕ) (x : X) → slice_get xs i ≡ Some x → list_any p (take (i + 1) xs) ≡ (list_any p (take i xs) || p x)
any_more p xs i x at =
    list_any_more p xs i x (slice_get_within xs i x at) ∙ ap (λ y. list_any p (take i xs) || p y) (get_or_from_slice_get xs i x x at)

-- the names of the first items, and then that of one more
pub gains : {X : Type 0} (p : X → Bool) (xs : List X) (i n : ℕ) (x : X) (b : Bool) (old new : Option ℕ) → slice_get xs i ≡ Some x → p x ≡ b → is_some old ≡ list_any p (take i xs) → new ≡ option_or old (if b then Some n else None) → is_some new ≡ list_any p (take (i + 1) xs)
gains p xs i n x b old new at passes so_far is =
    ap is_some is ∙ some_or old b n ∙ ap₂ (λ y z. y || z) so_far (sym passes) ∙ sym (any_more p xs i x at)

or_false : (b : Bool) → (b || false) ≡ b
or_false true = refl
or_false false = refl

-- an item that does not pass adds none
pub keeps : {X : Type 0} (p : X → Bool) (xs : List X) (i : ℕ) (x : X) (old : Option ℕ) → slice_get xs i ≡ Some x → p x ≡ false → is_some old ≡ list_any p (take i xs) → is_some old ≡ list_any p (take (i + 1) xs)
keeps p xs i x old at fails so_far =
    so_far ∙ sym (any_more p xs i x at ∙ ap (λ b. list_any p (take i xs) || b) fails ∙ or_false (list_any p (take i xs)))
