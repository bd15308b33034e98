-- The table of paths, with one more class between the ends.
use Rattle.std.proofs.Common.{◌≡◌, ℕ, ◌+◌, ◌-◌, ◌<◌, Bool, true, false, cond, ◌||◌, eqb, List, [], ◌∷◌, length, map, get_or, Some, zero, suc, refl, sym, ap, ◌∙◌, ⊎_elim, arith}
use Rattle.std.proofs.Math.Bool.{or-false}
use Rattle.std.proofs.lemmas.Bool.{cases_Bool, cond-true, cond-false}
use Rattle.std.proofs.lemmas.List.FromFn.{length-map-range_with_len, get_or-map-range_with_len, fill_by_all}
use Rattle.std.proofs.lemmas.Option.{slice_get-map, get_or_from_slice_get}
use Rattle.std.specs.List.{list_any, range_with_len, slice_get}
use Rattle.std.specs.Option.{option_map, option_map_or}
use Rattle.wb_ecore.specs.declared.classes.Class.{Class}
use Rattle.wb_metamodel.specs.Metamodel.{Metamodel, numbers, is_supertype, is_below}
use Rattle.wb_base.specs.Paths.{leads_through}
use Rattle.wb_base.proofs.ListLemmas.{present, map-same, map-map}
use Rattle.wb_metamodel.specs.invariants.Tables.{table_of, direct_row, or_row, widened, below_table}

pub length-map : {A B : Type 0} (f : A → B) (xs : List A) → length (map f xs) ≡ length xs
length-map f [] = refl
length-map f (x ∷ xs) = ap (λ n. suc n) (length-map f xs)

or_row-map : (f g : ℕ → Bool) (ns : List ℕ) → or_row (map f ns) (map g ns) ≡ map (λ b. f b || g b) ns
or_row-map f g [] = refl
or_row-map f g (n ∷ ns) = ap (λ ys. (f n || g n) ∷ ys) (or_row-map f g ns)

widened-map : (n k : ℕ) (f : ℕ → ℕ → Bool) (a : ℕ) → k < n → widened k (map (f k) (numbers n)) (map (f a) (numbers n)) ≡ map (λ b. f a b || cond (f a k) (f k b) false) (numbers n)
widened-map n k f a h =
    let cell : get_or (map (f a) (numbers n)) k false ≡ f a k = get_or-map-range_with_len (f a) 0 n k k false h (omega arith) in
    ⊎_elim
    (λ y.
    cond-true (get_or (map (f a) (numbers n)) k false) _ _ (cell ∙ y)
    ∙ or_row-map (f a) (f k) (numbers n)
    ∙ map-same (λ b. f a b || f k b) (λ b. f a b || cond (f a k) (f k b) false) (numbers n) (λ b. ap (λ v. f a b || v) (sym (cond-true (f a k) (f k b) false y))))
    (λ m.
    cond-false (get_or (map (f a) (numbers n)) k false) _ _ (cell ∙ m)
    ∙ map-same (f a) (λ b. f a b || cond (f a k) (f k b) false) (numbers n) (λ b. sym (ap (λ v. f a b || v) (cond-false (f a k) (f k b) false m) ∙ or-false (f a b))))
    (cases_Bool (f a k))

-- the rows widened by the row of a class have the paths through it
pub through-table : (n k : ℕ) (f : ℕ → ℕ → Bool) → k < n → map (widened k (get_or (table_of n f) k [])) (table_of n f) ≡ table_of n (λ a b. f a b || cond (f a k) (f k b) false)
through-table n k f h =
    ap (λ via. map (widened k via) (table_of n f)) (get_or-map-range_with_len (λ a. map (f a) (numbers n)) 0 n k k [] h (omega arith))
    ∙ map-map (widened k (map (f k) (numbers n))) (λ a. map (f a) (numbers n)) (numbers n)
    ∙ map-same (λ a. widened k (map (f k) (numbers n)) (map (f a) (numbers n))) (λ a. map (λ b. f a b || cond (f a k) (f k b) false) (numbers n)) (numbers n) (λ a. widened-map n k f a h)

pub leads-table : (mm : Metamodel) (n k : ℕ) (ks : List ℕ) → table_of n (λ a b. leads_through (is_supertype mm) ks a b || cond (leads_through (is_supertype mm) ks a k) (leads_through (is_supertype mm) ks k b) false) ≡ table_of n (leads_through (is_supertype mm) (k ∷ ks))
unfolding leads_through
leads-table mm n k ks = refl

direct_of : ℕ → Class → List Bool
direct_of n class = direct_row n class.supertypes

-- the first table: one step
pub direct-table : (mm : Metamodel) → map (λ (class : Class). direct_row (length mm.classes) class.supertypes) mm.classes ≡ table_of (length mm.classes) (leads_through (is_supertype mm) [])
unfolding leads_through
direct-table mm =
    let n = length mm.classes in
    let row : Class → List Bool = λ (class : Class). direct_row n class.supertypes in
    fill_by_all (λ a. map (is_supertype mm a) (numbers n)) (map row mm.classes) n [] (length-map row mm.classes)
    (λ a h.
    let found = present mm.classes a h in
    let read : slice_get (map row mm.classes) a ≡ Some (row found.0) = slice_get-map row mm.classes a ∙ ap (option_map row) found.1 in
    get_or_from_slice_get (map row mm.classes) a (row found.0) [] read
    ∙ sym (ap (λ o. map (λ b. list_any (eqb b) (option_map_or (λ (class : Class). class.supertypes) o [])) (numbers n)) found.1))

pub below-is : (mm : Metamodel) → table_of (length mm.classes) (leads_through (is_supertype mm) (numbers (length mm.classes))) ≡ below_table mm
unfolding below_table is_below
below-is mm = refl

-- one step of the walk over the classes, from the last to the first
pub ranged : (n done : ℕ) → done < n → (n - 1 - done) ∷ range_with_len (n - done) done ≡ range_with_len (n - (done + 1)) (done + 1)
ranged n done h =
    let low : n - 1 - done ≡ n - (done + 1) = omega arith in
    let next : n - done ≡ n - (done + 1) + 1 = omega arith in
    ap (λ k. k ∷ range_with_len (n - done) done) low ∙ ap (λ k. (n - (done + 1)) ∷ range_with_len k done) next ∙ grows (n - (done + 1)) done
  where
    grows : (a n : ℕ) → a ∷ range_with_len (a + 1) n ≡ range_with_len a (n + 1)
    grows a n = ap (range_with_len a) (let e : suc n ≡ n + 1 = omega arith in e)

pub length-table : (n : ℕ) (f : ℕ → ℕ → Bool) → length (table_of n f) ≡ n
length-table n f = length-map-range_with_len (λ a. map (f a) (numbers n)) 0 n

pub at_last : (mm : Metamodel) (n done : ℕ) → n ≡ length mm.classes → done ≡ n → table_of n (leads_through (is_supertype mm) (range_with_len (n - done) done)) ≡ below_table mm
at_last mm n done e d =
    let z : n - done ≡ 0 = omega arith in
    ap (λ k. table_of n (leads_through (is_supertype mm) (range_with_len k done))) z ∙ ap (λ k. table_of n (leads_through (is_supertype mm) (range_with_len 0 k))) d ∙ ap (λ k. table_of k (leads_through (is_supertype mm) (range_with_len 0 k))) e ∙ below-is mm
