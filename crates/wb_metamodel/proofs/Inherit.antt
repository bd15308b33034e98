-- The features of a class, from those of its supertypes.
use Rattle.std.proofs.Common.{◌≡◌, ℕ, ◌+◌, ◌<◌, ◌≤◌, Bool, true, false, not, cond, ◌||◌, eqb, List, [], ◌∷◌, ◌++◌, Some, length, map, get_or, set, length-set, get_or-set_same, get_or-set_other, take, append-nil, zero, suc, refl, sym, ap, ◌∙◌, subst, ⊎_elim, append_assoc, arith}
use Rattle.std.proofs.lemmas.Bool.{false≢true, or_cases, or_left, or_right, eqb-true, eq-eqb, ne_eqb, cases_eq, cases_lt}
use Rattle.std.proofs.lemmas.List.Folds.{list_any-append, list_any_at}
use Rattle.std.proofs.lemmas.List.{take_more, get_or_default}
use Rattle.std.proofs.lemmas.Option.{none-some, same_Some}
use Rattle.std.proofs.lemmas.List.FromFn.{fill_by_all}
use Rattle.std.specs.Cmp.{nat_eq_equiv}
use Rattle.std.specs.List.{list_any, find, flat_map, filter, range_with_len, count_by, slice_get}
use Rattle.std.specs.Option.{option_map_or}
use Rattle.wb_ecore.specs.declared.features.Feature.{Feature}
use Rattle.wb_metamodel.specs.Metamodel.{Metamodel, numbers, supertypes_of, is_supertype, is_below, first_places, own_features, features_within, features_of}
use Rattle.wb_metamodel.specs.invariants.Tables.{below_table, features_table, rank_of}
use Rattle.wb_metamodel.specs.invariants.Inherited.{IsHierarchy, FilledTo, all_features}
use Rattle.wb_metamodel.proofs.Ranks.{tally, tally-is, rank-falls, rank-within, flat_map-same, features_of-step}
use Rattle.wb_base.proofs.ListLemmas.{map-map, map-same, range-push, range-member, filter-member, first_places-member, first_places-push}
use Rattle.std.proofs.lemmas.List.Elements.{filter-append}

-- ---- members

pub flat_map-member : (f : ℕ) (g : ℕ → List ℕ) (xs : List ℕ) → list_any (eqb f) (flat_map g xs) ≡ true → (x : ℕ) × (list_any (eqb x) xs ≡ true) × (list_any (eqb f) (g x) ≡ true)
flat_map-member f g [] h = absurd (false≢true h)
flat_map-member f g (x ∷ xs) h =
    ⊎_elim
    (λ a. (x, or_left _ _ (eq-eqb x x refl), a))
    (λ b. let later = flat_map-member f g xs b in (later.0, or_right (eqb later.0 x) _ later.1, later.2))
    (or_cases (list_any (eqb f) (g x)) _ (sym (list_any-append (eqb f) (g x) (flat_map g xs)) ∙ h))

own-member : (mm : Metamodel) (c f : ℕ) → list_any (eqb f) (own_features mm c) ≡ true → f < length mm.features
own-member mm c f h = let l = range-member f 0 (length mm.features) (filter-member (eqb f) _ (numbers (length mm.features)) h) in omega arith

pub within-member : (mm : Metamodel) (n c f : ℕ) → list_any (eqb f) (features_within mm n c) ≡ true → f < length mm.features
unfolding features_within
within-member mm zero c f h = absurd (false≢true h)
within-member mm (suc n) c f h =
    ⊎_elim
    (λ a. let s = flat_map-member f (features_within mm n) (supertypes_of mm c) a in within-member mm n s.0 f s.2)
    (λ b. own-member mm c f b)
    (or_cases _ _ (sym (list_any-append (eqb f) (flat_map (features_within mm n) (supertypes_of mm c)) (own_features mm c)) ∙ first_places-member f _ h))

pub of-member : (mm : Metamodel) (c f : ℕ) → list_any (eqb f) (features_of mm c) ≡ true → f < length mm.features
unfolding features_of
of-member mm c f h = within-member mm (length mm.classes) c f h

-- ---- own features, one number more

abbrev pub is_owned : Metamodel → ℕ → ℕ → Bool
is_owned mm c f = option_map_or (λ (feature : Feature). eqb feature.owner c) (slice_get mm.features f) false

pub own-more : (mm : Metamodel) (c i : ℕ) → filter (is_owned mm c) (numbers (i + 1)) ≡ filter (is_owned mm c) (numbers i) ++ cond (is_owned mm c i) (i ∷ []) []
own-more mm c i =
    ap (filter (is_owned mm c)) (range-push 0 i ∙ ap (λ k. numbers i ++ k ∷ []) (let z : 0 + i ≡ i = omega arith in z)) ∙ filter-append (is_owned mm c) (numbers i) (i ∷ [])

-- ---- the table, rank by rank

tally-map : (p : ℕ → Bool) (ns : List ℕ) → tally (λ b. b) (map p ns) ≡ tally p ns
unfolding tally
tally-map p [] = refl
tally-map p (n ∷ ns) = ap (λ k. cond (p n) (1 + k) k) (tally-map p ns)

pub ranks-are : (mm : Metamodel) → map (count_by (λ reached. reached)) (below_table mm) ≡ map (rank_of mm) (numbers (length mm.classes))
unfolding below_table rank_of
ranks-are mm =
    let ns = numbers (length mm.classes) in
    map-map (count_by (λ reached. reached)) (λ a. map (is_below mm a) ns) ns
    ∙ map-same (λ a. count_by (λ reached. reached) (map (is_below mm a) ns)) (λ a. count_by (is_below mm a) ns) ns
    (λ a. sym (tally-is (λ reached. reached) (map (is_below mm a) ns)) ∙ tally-map (is_below mm a) ns ∙ tally-is (is_below mm a) ns)

-- a class's supertypes are of lower ranks, so their features stand in the table
pub supers-filled : (mm : Metamodel) (table : List (List ℕ)) (r c : ℕ) → IsHierarchy mm → FilledTo mm table r → rank_of mm c ≡ r → (s : ℕ) → is_supertype mm c s ≡ true → get_or table s [] ≡ features_of mm s
supers-filled mm table r c is filled e s h =
    let falls = rank-falls mm is.acyclic is.known c s h in
    filled.ready s (is.known c s h) (omega arith)

pub all-features-are : (mm : Metamodel) (table : List (List ℕ)) (r c : ℕ) → IsHierarchy mm → FilledTo mm table r → rank_of mm c ≡ r → all_features mm table c ≡ flat_map (features_of mm) (supertypes_of mm c) ++ own_features mm c
all-features-are mm table r c is filled e =
    ap (λ l. l ++ own_features mm c) (flat_map-same (λ s. get_or table s []) (features_of mm) (supertypes_of mm c) (λ s h. supers-filled mm table r c is filled e s h))

pub all-features-known : (mm : Metamodel) (table : List (List ℕ)) (r c : ℕ) → IsHierarchy mm → FilledTo mm table r → rank_of mm c ≡ r → (f : ℕ) → list_any (eqb f) (all_features mm table c) ≡ true → f < length mm.features
all-features-known mm table r c is filled e f h =
    ⊎_elim
    (λ a. let s = flat_map-member f (features_of mm) (supertypes_of mm c) a in of-member mm s.0 f s.2)
    (λ b. own-member mm c f b)
    (or_cases _ _ (sym (list_any-append (eqb f) (flat_map (features_of mm) (supertypes_of mm c)) (own_features mm c)) ∙ ap (list_any (eqb f)) (sym (all-features-are mm table r c is filled e)) ∙ h))

pub class-filled : (mm : Metamodel) (table : List (List ℕ)) (r c : ℕ) → IsHierarchy mm → FilledTo mm table r → rank_of mm c ≡ r → c < length mm.classes → first_places (all_features mm table c) ≡ features_of mm c
class-filled mm table r c is filled e l =
    ap first_places (all-features-are mm table r c is filled e) ∙ sym (features_of-step mm is.acyclic is.known c l)

pub table-filled : (mm : Metamodel) (table : List (List ℕ)) → IsHierarchy mm → FilledTo mm table (length mm.classes) → table ≡ features_table mm
unfolding features_table
table-filled mm table is filled =
    fill_by_all (features_of mm) table (length mm.classes) [] filled.lengths (λ c h. filled.ready c h (rank-within mm is.acyclic c h))

-- ---- steps of the code

flat-push : (g : ℕ → List ℕ) (xs : List ℕ) (x : ℕ) → flat_map g (xs ++ x ∷ []) ≡ flat_map g xs ++ g x
flat-push g [] x = append-nil (g x)
flat-push g (y ∷ ys) x = ap (λ l. g y ++ l) (flat-push g ys x) ∙ sym (append_assoc (g y) (flat_map g ys) (g x))

pub flat-more : (g : ℕ → List ℕ) (xs : List ℕ) (i x : ℕ) → i < length xs → x ≡ get_or xs i x → flat_map g (take (i + 1) xs) ≡ flat_map g (take i xs) ++ g x
flat-more g xs i x l e = ap (flat_map g) (take_more xs i x l ∙ ap (λ v. take i xs ++ v ∷ []) (sym e)) ∙ flat-push g (take i xs) x

pub member-at : (xs : List ℕ) (k d : ℕ) → k < length xs → list_any (eqb (get_or xs k d)) xs ≡ true
member-at xs k d h = list_any_at (eqb (get_or xs k d)) xs k d h (eq-eqb (get_or xs k d) (get_or xs k d) refl)

-- the marks of the numbers that were seen, and the numbers at their first places
pub record Seen (all : List ℕ) (count i : ℕ) (first : List ℕ) (seen : List Bool) : Type 0 where
  pub first_is : first ≡ first_places (take i all)
  pub length_is : length seen ≡ count
  pub marks : (f : ℕ) → f < count → get_or seen f false ≡ list_any (eqb f) (take i all)

taken-push : (all : List ℕ) (i f : ℕ) → i < length all → f ≡ get_or all i f → take (i + 1) all ≡ take i all ++ f ∷ []
taken-push all i f l e = take_more all i f l ∙ ap (λ v. take i all ++ v ∷ []) (sym e)

or-none : (b : Bool) → (b || false) ≡ b
or-none true = refl
or-none false = refl

any-push : (g : ℕ) (xs : List ℕ) (f : ℕ) → list_any (eqb g) (xs ++ f ∷ []) ≡ (list_any (eqb g) xs || eqb g f)
any-push g xs f = list_any-append (eqb g) xs (f ∷ []) ∙ ap (λ b. list_any (eqb g) xs || b) (or-none (eqb g f))

or-true : (b : Bool) → (b || true) ≡ true
or-true true = refl
or-true false = refl

pub seen-new : (all : List ℕ) (count i f : ℕ) (first : List ℕ) (seen : List Bool) → Seen all count i first seen → i < length all → f ≡ get_or all i f → f < count → get_or seen f false ≡ false → Seen all count (i + 1) (first ++ f ∷ []) (set seen f true)
seen-new all count i f first seen s l e h absent =
    let more = taken-push all i f l e in
    let new : list_any (eqb f) (take i all) ≡ false = sym (s.marks f h) ∙ absent in
    record {
      first_is = ap (λ xs. xs ++ f ∷ []) s.first_is ∙ sym (ap first_places more ∙ first_places-push (take i all) f ∙ ap (λ b. first_places (take i all) ++ cond b [] (f ∷ [])) new);
      length_is = length-set seen f true ∙ s.length_is;
      marks = λ g k.
          ⊎_elim
          (λ same.
          ap (λ x. get_or (set seen f true) x false) same ∙ get_or-set_same seen f true false (omega (arith, s.length_is))
          ∙ sym (ap (list_any (eqb g)) more ∙ any-push g (take i all) f ∙ ap (λ b. list_any (eqb g) (take i all) || b) (eq-eqb g f same) ∙ or-true _))
          (λ apart.
          get_or-set_other seen f g true false apart ∙ s.marks g k
          ∙ sym (ap (list_any (eqb g)) more ∙ any-push g (take i all) f ∙ ap (λ b. list_any (eqb g) (take i all) || b) (ne_eqb g f apart) ∙ or-none _))
          (cases_eq g f);
    }

or-same : (a b : Bool) → (b ≡ true → a ≡ true) → (a || b) ≡ a
or-same true b h = refl
or-same false true h = sym (h refl)
or-same false false h = refl

kept-any : (g f : ℕ) (xs : List ℕ) → list_any (eqb f) xs ≡ true → (list_any (eqb g) xs || eqb g f) ≡ list_any (eqb g) xs
kept-any g f xs h = or-same (list_any (eqb g) xs) (eqb g f) (λ e. subst (λ x. list_any (eqb x) xs ≡ true) (sym (eqb-true g f e)) h)

pub seen-old : (all : List ℕ) (count i f : ℕ) (first : List ℕ) (seen : List Bool) → Seen all count i first seen → i < length all → f ≡ get_or all i f → f < count → get_or seen f false ≡ true → Seen all count (i + 1) first seen
seen-old all count i f first seen s l e h there =
    let more = taken-push all i f l e in
    let old : list_any (eqb f) (take i all) ≡ true = sym (s.marks f h) ∙ there in
    record {
      first_is = s.first_is ∙ sym (ap first_places more ∙ first_places-push (take i all) f ∙ ap (λ b. first_places (take i all) ++ cond b [] (f ∷ [])) old ∙ append-nil (first_places (take i all)));
      length_is = s.length_is;
      marks = λ g k.
          s.marks g k
          ∙ sym (ap (list_any (eqb g)) more ∙ any-push g (take i all) f ∙ kept-any g f (take i all) old);
    }

-- what `find` gives stands in the list
found-in : (p : ℕ → Bool) (x : ℕ) (xs : List ℕ) (g : ℕ) → (find p xs ≡ Some g → list_any (eqb g) xs ≡ true) → (b : Bool) → cond b (Some x) (find p xs) ≡ Some g → (eqb g x || list_any (eqb g) xs) ≡ true
found-in p x xs g later true h = or_left _ _ (eq-eqb g x (sym (same_Some x g h)))
found-in p x xs g later false h = or_right (eqb g x) _ (later h)

pub find-member : (p : ℕ → Bool) (xs : List ℕ) (g : ℕ) → find p xs ≡ Some g → list_any (eqb g) xs ≡ true
find-member p [] g h = absurd (none-some g h)
find-member p (x ∷ xs) g h = found-in p x xs g (find-member p xs g) (p x) h

pub item-at : (all : List ℕ) (i x f : ℕ) → f ≡ x → x ≡ get_or all i x → i < length all → f ≡ get_or all i f
item-at all i x f e is l = e ∙ is ∙ get_or_default all i x f l

-- ---- the table at one more class

pub fill-step : (mm : Metamodel) (table : List (List ℕ)) (r k : ℕ) (features : List ℕ) → FilledTo mm table r → ((c : ℕ) → c < k → rank_of mm c ≡ r → get_or table c [] ≡ features_of mm c) → k < length mm.classes → rank_of mm k ≡ r → features ≡ features_of mm k
    → FilledTo mm (set table k features) r × ((c : ℕ) → c < k + 1 → rank_of mm c ≡ r → get_or (set table k features) c [] ≡ features_of mm c)
fill-step mm table r k features filled prior l e is = (
  record {
    lengths = length-set table k features ∙ filled.lengths;
    ready = λ c h low. get_or-set_other table k c features [] (λ q. let s = ap (rank_of mm) q in absurd (omega arith)) ∙ filled.ready c h low;
  },
  λ c h same.
      ⊎_elim
      (λ q. ap (λ j. get_or (set table k features) j []) q ∙ get_or-set_same table k features [] (omega (arith, filled.lengths)) ∙ is ∙ ap (features_of mm) (sym q))
      (λ apart. get_or-set_other table k c features [] apart ∙ prior c (omega arith) same)
      (cases_eq c k),
)

pub fill-skip : (mm : Metamodel) (table : List (List ℕ)) (r k : ℕ) → FilledTo mm table r → ((c : ℕ) → c < k → rank_of mm c ≡ r → get_or table c [] ≡ features_of mm c) → (rank_of mm k ≡ r → ⊥)
    → FilledTo mm table r × ((c : ℕ) → c < k + 1 → rank_of mm c ≡ r → get_or table c [] ≡ features_of mm c)
fill-skip mm table r k filled prior not_it = (
  filled,
  λ c h same.
      ⊎_elim
      (λ q. absurd (not_it (ap (rank_of mm) (sym q) ∙ same)))
      (λ apart. prior c (omega arith) same)
      (cases_eq c k),
)

pub fill-end : (mm : Metamodel) (table : List (List ℕ)) (r k : ℕ) → FilledTo mm table r → ((c : ℕ) → c < k → rank_of mm c ≡ r → get_or table c [] ≡ features_of mm c) → length mm.classes ≤ k → FilledTo mm table (r + 1)
fill-end mm table r k filled prior all =
    record {
      lengths = filled.lengths;
      ready = λ c h low.
          ⊎_elim
          (λ less. filled.ready c h less)
          (λ past. prior c (omega arith) (omega arith))
          (cases_lt (rank_of mm c) r);
    }

pub fill-start : (mm : Metamodel) (table : List (List ℕ)) → length table ≡ length mm.classes → FilledTo mm table 0
fill-start mm table e = record { lengths = e; ready = λ c h low. absurd (omega arith) }
