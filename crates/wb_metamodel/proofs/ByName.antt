-- The features of a class by their names, and the classes that have two features of one name.
use Rattle.std.proofs.Common.{◌≡◌, ℕ, ◌+◌, ◌<◌, Bool, true, false, not, cond, ◌&&◌, eqb, List, [], ◌∷◌, ◌++◌, length, map, take, get_or, set, length-set, get_or-set_same, get_or-set_other, Option, Some, None, zero, suc, refl, sym, ap, ◌∙◌, subst, ⊎_elim, arith}
use Rattle.std.specs.Prelude.{unwrap_or, All}
use Rattle.std.proofs.lemmas.List.{take_more, get_or_default}
use Rattle.std.proofs.lemmas.List.Folds.{find-append}
use Rattle.std.proofs.lemmas.Bool.{false≢true, cases_Bool, cases_eq, both_ways, or_cases, or_left, or_right, and_parts, and_from, not-true, eqb-true, eq-eqb, ne_eqb, cond-true, cond-false}
use Rattle.std.proofs.lemmas.Option.{same_Some, slice_get_within, slice_get-map, slice_get-get_or, slice_get_read, get_or_from_slice_get}
use Rattle.std.specs.Cmp.Lexicographic.{bytes_decides, nat_list_eq_equiv}
use Rattle.std.specs.List.{list_any, find, slice_get, AllZip}
use Rattle.std.specs.Option.{option_map, option_map_or, option_and_then, option_or}
use Rattle.wb_ecore.specs.declared.features.Feature.{Feature}
use Rattle.wb_metamodel.specs.Metamodel.{Metamodel, same_name, names_feature, numbers, features_of, feature_at, feature_named}
use Rattle.wb_metamodel.specs.invariants.Tables.{features_table, feature_place, placed, is_other, HasRow, IsByName}
use Rattle.wb_metamodel.specs.Checks.{is_name_of, clashes, has_clash}
use Rattle.wb_base.proofs.Positions.{position-Some, position-None}
use Rattle.wb_base.proofs.Zips.{zip-length, zip-at}
use Rattle.wb_metamodel.proofs.Warshall.{length-map}
use Rattle.wb_metamodel.proofs.TableLemmas.{entry-cell}
use Rattle.wb_base.proofs.ListLemmas.{present, number-at}
use Rattle.wb_metamodel.proofs.Checked.{find-passes}
use Rattle.wb_metamodel.proofs.Inherit.{of-member, member-at}
use Rattle.std.proofs.lemmas.List.FromFn.{length-range_with_len}

named-one : (mm : Metamodel) (f : ℕ) (feature : Feature) → feature_at mm f ≡ Some feature → (o : Option ℕ) → feature_place mm feature.name ≡ o → (j : ℕ) × (feature_place mm feature.name ≡ Some j)
named-one mm f feature at None e =
    absurd (false≢true (sym (position-None (λ (one : Feature). same_name one.name feature.name) mm.features f feature e at) ∙ nat_list_eq_equiv.refl feature.name))
named-one mm f feature at (Some j) e = (j, e)

abbrev pub places_of : Metamodel → List ℕ
places_of mm = map (λ (feature : Feature). unwrap_or (feature_place mm feature.name) 0) mm.features

place-at : (mm : Metamodel) (places : List ℕ) (f j : ℕ) (feature : Feature) → places ≡ places_of mm → feature_at mm f ≡ Some feature → feature_place mm feature.name ≡ Some j → get_or places f 0 ≡ j
place-at mm places f j feature e at own =
    let number : Feature → ℕ = λ (one : Feature). unwrap_or (feature_place mm one.name) 0 in
    ap (λ ps. get_or ps f 0) e
    ∙ get_or_from_slice_get (map number mm.features) f (number feature) 0 (slice_get-map number mm.features f ∙ ap (option_map number) at)
    ∙ ap (λ o. unwrap_or o 0) own

-- the place of a feature's name tells whether it has a name
pub placed-same : (mm : Metamodel) (places : List ℕ) (k f : ℕ) (name : List ℕ) → places ≡ places_of mm → feature_place mm name ≡ Some k → f < length mm.features → placed places k f ≡ is_name_of mm name f
placed-same mm places k f name e found l =
    let it = present mm.features f l in
    let feature = it.0 in
    let own = named-one mm f feature it.1 (feature_place mm feature.name) refl in
    let j = own.0 in
    let left : placed places k f ≡ eqb j k = ap (λ n. eqb n k) (place-at mm places f j feature e it.1 own.1) in
    let right : is_name_of mm name f ≡ same_name feature.name name = ap (λ o. option_map_or (λ (one : Feature). same_name one.name name) o false) it.1 in
    ⊎_elim
    (λ y.
    let same : feature.name ≡ name = (bytes_decides feature.name name).0 y in
    let equal : j ≡ k = same_Some j k (sym own.1 ∙ ap (feature_place mm) same ∙ found) in
    left ∙ eq-eqb j k equal ∙ sym y ∙ sym right)
    (λ n.
    let apart : j ≡ k → ⊥ = λ equal.
    let a = position-Some (λ (one : Feature). same_name one.name feature.name) mm.features j own.1 in
    let b = position-Some (λ (one : Feature). same_name one.name name) mm.features k found in
    let one : a.0 ≡ b.0 = same_Some a.0 b.0 (sym a.1 ∙ ap (slice_get mm.features) equal ∙ b.1) in
    let first : a.0.name ≡ feature.name = (bytes_decides a.0.name feature.name).0 a.2 in
    let second : b.0.name ≡ name = (bytes_decides b.0.name name).0 b.2 in
    let same : feature.name ≡ name = sym first ∙ ap (λ (x : Feature). x.name) one ∙ second in
    both_ways (same_name feature.name name) n ((bytes_decides feature.name name).1 same) in
    left ∙ ne_eqb j k apart ∙ sym n ∙ sym right)
    (cases_Bool (same_name feature.name name))

pub find-same-in : (p q : ℕ → Bool) (xs : List ℕ) → ((x : ℕ) → list_any (eqb x) xs ≡ true → p x ≡ q x) → find p xs ≡ find q xs
find-same-in p q [] h = refl
find-same-in p q (x ∷ xs) h =
    ap (λ b. cond b (Some x) (find p xs)) (h x (or_left _ _ (eq-eqb x x refl))) ∙ ap (cond (q x) (Some x)) (find-same-in p q xs (λ y m. h y (or_right (eqb y x) _ m)))

features-at : (mm : Metamodel) (c : ℕ) → c < length mm.classes → slice_get (features_table mm) c ≡ Some (features_of mm c)
unfolding features_table
features-at mm c l = slice_get-map (features_of mm) (numbers (length mm.classes)) c ∙ ap (option_map (features_of mm)) (number-at (length mm.classes) c l)

length-features : (mm : Metamodel) → length (features_table mm) ≡ length mm.classes
unfolding features_table
length-features mm = length-map (features_of mm) (numbers (length mm.classes)) ∙ length-range_with_len 0 (length mm.classes)

-- the table finds the feature of a name
pub by-name : (mm : Metamodel) (rows : List (List (Option ℕ))) (places : List ℕ) → places ≡ places_of mm → AllZip (HasRow places) rows (features_table mm) → IsByName mm rows
by-name mm rows places e zip = λ c k name l found.
    let same = zip-length (HasRow places) rows (features_table mm) zip in
    let size = length-features mm in
    let row = present rows c (omega arith) in
    let has = zip-at (HasRow places) rows (features_table mm) c row.0 (features_of mm c) zip row.1 (features-at mm c l) in
    let one = position-Some (λ (x : Feature). same_name x.name name) mm.features k found in
    let count : length places ≡ length mm.features = ap length e ∙ length-map (λ (feature : Feature). unwrap_or (feature_place mm feature.name) 0) mm.features in
    let inside : k < length places = omega (arith, slice_get_within mm.features k one.0 one.1) in
    ap (option_and_then (λ r. slice_get r k)) row.1
    ∙ slice_get-get_or row.0 k None (omega (arith, has.length_is))
    ∙ ap Some (has.cells k inside ∙ find-same-in (placed places k) (is_name_of mm name) (features_of mm c) (λ f m. placed-same mm places k f name e found (of-member mm c f m)))

-- ---- two features of one name

any-member : (p : ℕ → Bool) (xs : List ℕ) → list_any p xs ≡ true → (x : ℕ) × (list_any (eqb x) xs ≡ true) × (p x ≡ true)
any-member p [] h = absurd (false≢true h)
any-member p (x ∷ xs) h =
    ⊎_elim (λ a. (x, or_left _ _ (eq-eqb x x refl), a)) (λ b. let later = any-member p xs b in (later.0, or_right (eqb later.0 x) _ later.1, later.2)) (or_cases (p x) _ h)

member-any : (p : ℕ → Bool) (xs : List ℕ) (x : ℕ) → list_any (eqb x) xs ≡ true → p x ≡ true → list_any p xs ≡ true
member-any p [] x m h = absurd (false≢true m)
member-any p (y ∷ ys) x m h =
    ⊎_elim (λ e. or_left _ _ (subst (λ v. p v ≡ true) (eqb-true x y e) h)) (λ i. or_right (p y) _ (member-any p ys x i h)) (or_cases (eqb x y) _ m)

same-bools : (a b : Bool) → (a ≡ true → b ≡ true) → (b ≡ true → a ≡ true) → a ≡ b
same-bools true b h k = sym (h refl)
same-bools false true h k = k refl
same-bools false false h k = refl

passes : (mm : Metamodel) (f : ℕ) (feature : Feature) → feature_at mm f ≡ Some feature → is_name_of mm feature.name f ≡ true
passes mm f feature at = ap (λ o. option_map_or (λ (one : Feature). same_name one.name feature.name) o false) at ∙ nat_list_eq_equiv.refl feature.name

-- what the row holds at each feature's own name
abbrev pub ReadsNames : Metamodel → ℕ → List (Option ℕ) → List ℕ → Type 0
ReadsNames mm c row places = (f : ℕ) (feature : Feature) → feature_at mm f ≡ Some feature → get_or row (get_or places f 0) None ≡ feature_named mm c feature.name

other-from : (mm : Metamodel) (c : ℕ) (row : List (Option ℕ)) (places : List ℕ) → ReadsNames mm c row places → (f h : ℕ) (feature : Feature) → feature_at mm f ≡ Some feature → feature_named mm c feature.name ≡ Some h → eqb h f ≡ false → is_other row places f ≡ true
other-from mm c row places reads f h feature at found apart =
    ap (λ o. not (names_feature o f)) (reads f feature at ∙ found) ∙ ap not apart

pub clash-same : (mm : Metamodel) (c : ℕ) (row : List (Option ℕ)) (places : List ℕ) → ReadsNames mm c row places → list_any (is_other row places) (features_of mm c) ≡ has_clash mm c
clash-same mm c row places reads =
    let own = features_of mm c in
    same-bools (list_any (is_other row places) own) (has_clash mm c)
    (λ h.
    let f = any-member (is_other row places) own h in
    let feature = present mm.features f.0 (of-member mm c f.0 f.1) in
    let g = find-passes (is_name_of mm feature.0.name) own f.0 f.1 (passes mm f.0 feature.0 feature.1) in
    let differs : eqb g.0 f.0 ≡ false = sym (ap (λ o. names_feature o f.0) (reads f.0 feature.0 feature.1 ∙ g.1)) ∙ not-true _ f.2 in
    let turned : eqb f.0 g.0 ≡ false = ne_eqb f.0 g.0 (λ e. both_ways (eqb g.0 f.0) differs (eq-eqb g.0 f.0 (sym e))) in
    let two = member-any (λ k. not (eqb f.0 k) && is_name_of mm feature.0.name k) own g.0 g.2 (and_from _ _ (ap not turned) g.3) in
    member-any (clashes mm c) own f.0 f.1 (ap (λ o. option_map_or (λ (one : Feature). list_any (λ k. not (eqb f.0 k) && is_name_of mm one.name k) own) o false) feature.1 ∙ two))
    (λ h.
    let f = any-member (clashes mm c) own h in
    let feature = present mm.features f.0 (of-member mm c f.0 f.1) in
    let two = sym (ap (λ o. option_map_or (λ (one : Feature). list_any (λ k. not (eqb f.0 k) && is_name_of mm one.name k) own) o false) feature.1) ∙ f.2 in
    let g = any-member (λ k. not (eqb f.0 k) && is_name_of mm feature.0.name k) own two in
    let parts = and_parts (not (eqb f.0 g.0)) (is_name_of mm feature.0.name g.0) g.2 in
    let first = find-passes (is_name_of mm feature.0.name) own f.0 f.1 (passes mm f.0 feature.0 feature.1) in
    ⊎_elim
    (λ e.
    let other = present mm.features g.0 (of-member mm c g.0 g.1) in
    let same : other.0.name ≡ feature.0.name = (bytes_decides other.0.name feature.0.name).0 (sym (ap (λ o. option_map_or (λ (one : Feature). same_name one.name feature.0.name) o false) other.1) ∙ parts.1) in
    let found = ap (feature_named mm c) same ∙ first.1 in
    let apart : eqb first.0 g.0 ≡ false = ap (λ k. eqb k g.0) e ∙ not-true _ parts.0 in
    member-any (is_other row places) own g.0 g.1 (other-from mm c row places reads g.0 first.0 other.0 other.1 found apart))
    (λ n. member-any (is_other row places) own f.0 f.1 (other-from mm c row places reads f.0 first.0 feature.0 feature.1 first.1 (ne_eqb first.0 f.0 n)))
    (cases_eq first.0 f.0))

-- ---- what the code asks for

pub length-places : (mm : Metamodel) (places : List ℕ) → places ≡ places_of mm → length places ≡ length mm.features
length-places mm places e = ap length e ∙ length-map (λ (feature : Feature). unwrap_or (feature_place mm feature.name) 0) mm.features

pub places-known : (mm : Metamodel) (places : List ℕ) → places ≡ places_of mm → All (λ k. k < length places) places
places-known mm places e = λ f d l.
    let n = length-places mm places e in
    let it = present mm.features f (omega arith) in
    let own = named-one mm f it.0 it.1 (feature_place mm it.0.name) refl in
    let found = position-Some (λ (x : Feature). same_name x.name it.0.name) mm.features own.0 own.1 in
    let read : get_or places f d ≡ own.0 = get_or_default places f d 0 l ∙ place-at mm places f own.0 it.0 e it.1 own.1 in
    omega (arith, slice_get_within mm.features own.0 found.0 found.1)

pub features-known : (mm : Metamodel) (c n : ℕ) (own : List ℕ) → length mm.features ≡ n → own ≡ features_of mm c → All (λ f. f < n) own
features-known mm c n own size e = λ k d l.
    let m = of-member mm c (get_or own k d) (ap (list_any (eqb (get_or own k d))) (sym e) ∙ member-at own k d l) in
    omega arith

pub row-features : (mm : Metamodel) (table : List (List ℕ)) (c : ℕ) (own : List ℕ) → table ≡ features_table mm → slice_get table c ≡ Some own → own ≡ features_of mm c
row-features mm table c own e at =
    let l = slice_get_within table c own at in
    let n = ap length e ∙ length-features mm in
    same_Some own (features_of mm c) (sym at ∙ ap (λ t. slice_get t c) e ∙ features-at mm c (omega arith))

pub reads-names : (mm : Metamodel) (rows : List (List (Option ℕ))) (places : List ℕ) (c : ℕ) (row : List (Option ℕ)) → places ≡ places_of mm → IsByName mm rows → c < length mm.classes → row ≡ get_or rows c row → ReadsNames mm c row places
reads-names mm rows places c row e named l r = λ f feature at.
    let own = named-one mm f feature at (feature_place mm feature.name) refl in
    let k = own.0 in
    let cell = entry-cell rows c k (feature_named mm c feature.name) row (named c k feature.name l own.1) r in
    ap (λ j. get_or row j None) (place-at mm places f k feature e at own.1) ∙ get_or_from_slice_get row k (feature_named mm c feature.name) None cell

pub row-length : (mm : Metamodel) (rows : List (List (Option ℕ))) (places : List ℕ) (table : List (List ℕ)) (c : ℕ) (row : List (Option ℕ)) → AllZip (HasRow places) rows table → table ≡ features_table mm → c < length mm.classes → row ≡ get_or rows c row → length row ≡ length places
row-length mm rows places table c row zip e l r =
    let n = ap length e ∙ length-features mm in
    let m = zip-length (HasRow places) rows table zip in
    let at = slice_get_read rows (length rows) c row refl (omega arith) r in
    let own = ap (λ t. slice_get t c) e ∙ features-at mm c l in
    (zip-at (HasRow places) rows table c row (features_of mm c) zip at own).length_is

-- ---- a row, feature by feature

pub record RowTo (places own : List ℕ) (i : ℕ) (row : List (Option ℕ)) : Type 0 where
  pub length_is : length row ≡ length places
  pub cells : (k : ℕ) → k < length places → get_or row k None ≡ find (placed places k) (take i own)

or-none : (o : Option ℕ) → option_or o None ≡ o
or-none None = refl
or-none (Some x) = refl

found-more : (places own : List ℕ) (i f k : ℕ) → i < length own → f ≡ get_or own i f → find (placed places k) (take (i + 1) own) ≡ option_or (find (placed places k) (take i own)) (cond (placed places k f) (Some f) None)
found-more places own i f k l e = ap (find (placed places k)) (take_more own i f l ∙ ap (λ v. take i own ++ v ∷ []) (sym e)) ∙ find-append (placed places k) (take i own) (f ∷ [])

pub row-new : (places own : List ℕ) (i f place : ℕ) (row : List (Option ℕ)) → RowTo places own i row → i < length own → f ≡ get_or own i f → place ≡ get_or places f 0 → place < length places → get_or row place None ≡ None → RowTo places own (i + 1) (set row place (Some f))
row-new places own i f place row r l e at h empty =
    record {
      length_is = length-set row place (Some f) ∙ r.length_is;
      cells = λ k j.
          ⊎_elim
          (λ q.
          let none : find (placed places k) (take i own) ≡ None = sym (r.cells k j) ∙ ap (λ x. get_or row x None) q ∙ empty in
          ap (λ x. get_or (set row place (Some f)) x None) q ∙ get_or-set_same row place (Some f) None (omega (arith, r.length_is))
          ∙ sym (found-more places own i f k l e ∙ ap (λ o. option_or o (cond (placed places k f) (Some f) None)) none ∙ cond-true (placed places k f) (Some f) None (eq-eqb (get_or places f 0) k (sym at ∙ sym q))))
          (λ apart.
          get_or-set_other row place k (Some f) None apart ∙ r.cells k j
          ∙ sym (found-more places own i f k l e ∙ ap (option_or (find (placed places k) (take i own))) (cond-false (placed places k f) (Some f) None (ne_eqb (get_or places f 0) k (λ q. apart (sym q ∙ sym at)))) ∙ or-none _))
          (cases_eq k place);
    }

pub row-old : (places own : List ℕ) (i f place g : ℕ) (row : List (Option ℕ)) → RowTo places own i row → i < length own → f ≡ get_or own i f → place ≡ get_or places f 0 → place < length places → get_or row place None ≡ Some g → RowTo places own (i + 1) row
row-old places own i f place g row r l e at h full =
    record {
      length_is = r.length_is;
      cells = λ k j.
          ⊎_elim
          (λ q.
          let some : find (placed places k) (take i own) ≡ Some g = sym (r.cells k j) ∙ ap (λ x. get_or row x None) q ∙ full in
          r.cells k j ∙ some ∙ sym (found-more places own i f k l e ∙ ap (λ o. option_or o (cond (placed places k f) (Some f) None)) some))
          (λ apart.
          r.cells k j
          ∙ sym (found-more places own i f k l e ∙ ap (option_or (find (placed places k) (take i own))) (cond-false (placed places k f) (Some f) None (ne_eqb (get_or places f 0) k (λ q. apart (sym q ∙ sym at)))) ∙ or-none _))
          (cases_eq k place);
    }
