-- The finite maps that a list of objects shows: what they have at a key, and their entries in order.
use Rattle.std.proofs.Common.{◌≡◌, ℕ, ◌+◌, ◌≤◌, suc, Bool, true, false, ◌&&◌, List, [], ◌∷◌, ◌++◌, map, length, Option, Some, None, refl, sym, ap, subst, ◌∙◌, cond, ltb, eqb, arith, Ordering, T, append_assoc}
use Rattle.wb_store.proofs.Found.{is_itself}
use Rattle.std.proofs.lemmas.Bool.{and_parts, eqb-true}
use Rattle.std.proofs.lemmas.Bool.Decides.{nat_tests}
use Rattle.std.proofs.lemmas.Cmp.{nat_cmp_total, then_total, on_total}
use Rattle.std.specs.Cmp.{IsTotalOrder}
use Rattle.std.specs.Ordering.{nat_cmp, eq_by_cmp, is_lt}
use Rattle.std.specs.Option.{option_map, option_map_or, option_and_then, option_or}
use Rattle.std.specs.List.{list_all, flat_map}
use Rattle.std.specs.FinMap.{find, is_sorted, IsAntisymmetric, nat_cmp-IsAntisymmetric, entries, from_entries, get-from_entries, entries-from_sorted, from_sorted, get-from_sorted, same_map, len, len-empty, len-insert, contains_key}
use Rattle.std.specs.FinMap.Entries.{below_all}
use Rattle.wb_metamodel.specs.Metamodel.{Metamodel}
use Rattle.wb_store.specs.declared.scalars.Scalar.{Scalar}
use Rattle.wb_store.specs.declared.records.Record.{Record}
use Rattle.wb_store.specs.declared.records.Slot.{Slot}
use Rattle.wb_store.specs.Contents.{Filled, members, slot_cmp, kind, slot}
use Rattle.wb_store.specs.Places.{rises, numbered}
use Rattle.wb_store.specs.Records.{kind_entry, filled, slot_entry, slot_entries, contents_of, id_of, feature_of, values_in}

-- ---- orders of keys

pub slot_cmp_total : IsTotalOrder slot_cmp
slot_cmp_total = then_total (on_total (λ (k : ℕ × ℕ). k.0) nat_cmp_total) (on_total (λ (k : ℕ × ℕ). k.1) nat_cmp_total)

pub tied : (a b : ℕ) → eq_by_cmp nat_cmp a b ≡ eqb a b
tied a b = grind (arith, nat_tests)

less : (a b : ℕ) → is_lt (nat_cmp a b) ≡ ltb a b
less a b = grind (arith, nat_tests)

both_tied : (a b f g : ℕ) → eq_by_cmp slot_cmp (a, f) (b, g) ≡ (eqb a b && eqb f g)
both_tied a b f g = grind (arith, nat_tests)

less_first : (a b f g : ℕ) → ltb a b ≡ true → is_lt (slot_cmp (a, f) (b, g)) ≡ true
less_first a b f g h = grind (arith, nat_tests)

less_second : (a f g : ℕ) → ltb f g ≡ true → is_lt (slot_cmp (a, f) (a, g)) ≡ true
less_second a f g h = grind (arith, nat_tests)

level_first : (a b f g : ℕ) → slot_cmp (a, f) (b, g) ≡ Ordering.Equal → a ≡ b
level_first a b f g e = grind (arith, nat_tests)

level_second : (a b f g : ℕ) → slot_cmp (a, f) (b, g) ≡ Ordering.Equal → f ≡ g
level_second a b f g e = grind (arith, nat_tests)

pub slot_cmp-IsAntisymmetric : IsAntisymmetric slot_cmp
slot_cmp-IsAntisymmetric k l e = λ i. (level_first k.0 l.0 k.1 l.1 e i, level_second k.0 l.0 k.1 l.1 e i)

-- ---- the class of an object

class_of : Record → ℕ
class_of r = r.class

pub find-kinds : (o : ℕ) (rs : List Record) → find nat_cmp o (map kind_entry rs) ≡ option_map (λ (r : Record). r.class) (numbered id_of o rs)
find-kinds o [] = refl
find-kinds o (r ∷ rs) =
    ap (λ b. cond b (Some r.class) (find nat_cmp o (map kind_entry rs))) (tied o r.id)
    ∙ elim (eqb o r.id) as (λ b. cond b (Some r.class) (find nat_cmp o (map kind_entry rs)) ≡ option_map (λ (r : Record). r.class) (cond b (Some r) (numbered id_of o rs))) [
      | true ↦ refl
      | false ↦ find-kinds o rs
    ]

pub kind-numbered : (metamodel : Metamodel) (next : ℕ) (rs : List Record) (roots : List ℕ) (o : ℕ) → kind (contents_of metamodel next rs roots) o ≡ option_map (λ (r : Record). r.class) (numbered id_of o rs)
kind-numbered metamodel next rs roots o = get-from_entries nat_cmp_total (map kind_entry rs) o ∙ find-kinds o rs

-- ---- the values of a slot

filled_values : List Scalar → Option Filled
filled_values [] = None
filled_values (value ∷ values) = Some (record { first = value; more = values })

find-filled : (q k : ℕ × ℕ) (values : List Scalar) (rest : List ((ℕ × ℕ) × Filled)) (b : Bool) → eq_by_cmp slot_cmp q k ≡ b
    → find slot_cmp q (filled k values ++ rest) ≡ cond b (option_or (filled_values values) (find slot_cmp q rest)) (find slot_cmp q rest)
unfolding filled_values
find-filled q k [] rest true e = refl
find-filled q k [] rest false e = refl
find-filled q k (value ∷ values) rest b e = ap (λ b. cond b (Some (record { first = value; more = values })) (find slot_cmp q rest)) e

tied_at : (o f g : ℕ) (b : Bool) → eqb f g ≡ b → eq_by_cmp slot_cmp (o, f) (o, g) ≡ b
tied_at o f g b e = both_tied o o f g ∙ ap (λ t. t && eqb f g) (is_itself o) ∙ e

apart_at : (o p f g : ℕ) → eqb o p ≡ false → eq_by_cmp slot_cmp (o, f) (p, g) ≡ false
apart_at o p f g h = both_tied o p f g ∙ ap (λ t. t && eqb f g) h

-- no slot of another object is found
find-other : (o p f : ℕ) (ss : List Slot) (rest : List ((ℕ × ℕ) × Filled)) → eqb o p ≡ false → find slot_cmp (o, f) (flat_map (slot_entry p) ss ++ rest) ≡ find slot_cmp (o, f) rest
find-other o p f [] rest h = refl
find-other o p f (s ∷ ss) rest h =
    ap (find slot_cmp (o, f)) (append_assoc (slot_entry p s) (flat_map (slot_entry p) ss) rest)
    ∙ find-filled (o, f) (p, s.feature) s.values _ false (apart_at o p f s.feature h) ∙ find-other o p f ss rest h

above_other : (a n : ℕ) → ltb n a ≡ true → eqb n a ≡ false
above_other a n h = grind (arith, nat_tests)

-- a feature that is in no slot from here on
find-absent : (o f : ℕ) (ss : List Slot) (rest : List ((ℕ × ℕ) × Filled)) → list_all (λ (s : Slot). ltb f s.feature) ss ≡ true → find slot_cmp (o, f) (flat_map (slot_entry o) ss ++ rest) ≡ find slot_cmp (o, f) rest
find-absent o f [] rest h = refl
find-absent o f (s ∷ ss) rest h =
    ap (find slot_cmp (o, f)) (append_assoc (slot_entry o s) (flat_map (slot_entry o) ss) rest)
    ∙ find-filled (o, f) (o, s.feature) s.values _ false (tied_at o f s.feature false (above_other _ _ (and_parts _ _ h).0)) ∙ find-absent o f ss rest (and_parts _ _ h).1

or_none : {A : Type 0} (o : Option A) → option_or o None ≡ o
or_none None = refl
or_none (Some x) = refl

find-own : (o f : ℕ) (ss : List Slot) (rest : List ((ℕ × ℕ) × Filled)) → rises feature_of ss ≡ true → find slot_cmp (o, f) rest ≡ None
    → find slot_cmp (o, f) (flat_map (slot_entry o) ss ++ rest) ≡ option_and_then (λ (s : Slot). filled_values s.values) (numbered feature_of f ss)
find-own o f [] rest h e = e
find-own o f (s ∷ ss) rest h e =
    ap (find slot_cmp (o, f)) (append_assoc (slot_entry o s) (flat_map (slot_entry o) ss) rest)
    ∙ elim (eqb f s.feature) as (λ b. eqb f s.feature ≡ b → find slot_cmp (o, f) (slot_entry o s ++ (flat_map (slot_entry o) ss ++ rest)) ≡ option_and_then (λ (s : Slot). filled_values s.values) (cond b (Some s) (numbered feature_of f ss))) [
      | true ↦ λ t. find-filled (o, f) (o, s.feature) s.values _ true (tied_at o f s.feature true t)
          ∙ ap (option_or (filled_values s.values)) (find-absent o f ss rest (subst (λ k. list_all (λ (s : Slot). ltb k s.feature) ss ≡ true) (sym (eqb-true f s.feature t)) (and_parts _ _ h).0) ∙ e)
          ∙ or_none _
      | false ↦ λ t. find-filled (o, f) (o, s.feature) s.values _ false (tied_at o f s.feature false t) ∙ find-own o f ss rest (and_parts _ _ h).1 e
    ] refl

find-later : (o f : ℕ) (rs : List Record) → list_all (λ (r : Record). ltb o r.id) rs ≡ true → find slot_cmp (o, f) (flat_map slot_entries rs) ≡ None
find-later o f [] h = refl
find-later o f (r ∷ rs) h = find-other o r.id f r.slots _ (above_other _ _ (and_parts _ _ h).0) ∙ find-later o f rs (and_parts _ _ h).1

filled_at : ℕ → Record → Option Filled
filled_at f r = option_and_then (λ (s : Slot). filled_values s.values) (numbered feature_of f r.slots)

find-slots : (o f : ℕ) (rs : List Record) → rises id_of rs ≡ true → list_all (λ (r : Record). rises feature_of r.slots) rs ≡ true
    → find slot_cmp (o, f) (flat_map slot_entries rs) ≡ option_and_then (filled_at f) (numbered id_of o rs)
unfolding filled_at
find-slots o f [] h l = refl
find-slots o f (r ∷ rs) h l =
    elim (eqb o r.id) as (λ b. eqb o r.id ≡ b → find slot_cmp (o, f) (slot_entries r ++ flat_map slot_entries rs) ≡ option_and_then (filled_at f) (cond b (Some r) (numbered id_of o rs))) [
      | true ↦ λ t. ap (λ k. find slot_cmp (k, f) (slot_entries r ++ flat_map slot_entries rs)) (eqb-true o r.id t)
          ∙ find-own r.id f r.slots _ (and_parts _ _ l).0 (find-later r.id f rs (and_parts _ _ h).0)
      | false ↦ λ t. find-other o r.id f r.slots _ t ∙ find-slots o f rs (and_parts _ _ h).1 (and_parts _ _ l).1
    ] refl

members-values : (values : List Scalar) → option_map_or members (filled_values values) [] ≡ values
unfolding filled_values
members-values [] = refl
members-values (value ∷ values) = refl

members-filled : (o : Option Slot) → option_map_or members (option_and_then (λ (s : Slot). filled_values s.values) o) [] ≡ option_map_or (λ (s : Slot). s.values) o []
members-filled None = refl
members-filled (Some s) = members-values s.values

members-found : (f : ℕ) (o : Option Record) → option_map_or members (option_and_then (filled_at f) o) [] ≡ option_map_or (λ (r : Record). values_in f r.slots) o []
unfolding filled_at
members-found f None = refl
members-found f (Some r) = members-filled (numbered feature_of f r.slots)

pub slot-numbered : (metamodel : Metamodel) (next : ℕ) (rs : List Record) (roots : List ℕ) (o f : ℕ) → rises id_of rs ≡ true → list_all (λ (r : Record). rises feature_of r.slots) rs ≡ true
    → slot (contents_of metamodel next rs roots) o f ≡ option_map_or (λ (r : Record). values_in f r.slots) (numbered id_of o rs) []
slot-numbered metamodel next rs roots o f h l =
    ap (λ v. option_map_or members v []) (get-from_entries slot_cmp_total (flat_map slot_entries rs) (o, f) ∙ find-slots o f rs h l)
    ∙ members-found f (numbered id_of o rs)

-- ---- the entries in order

T-of : (b : Bool) → b ≡ true → T b
T-of b h = subst T (sym h) tt

below-kinds : (o : ℕ) (rs : List Record) → list_all (λ (r : Record). ltb o r.id) rs ≡ true → below_all nat_cmp o (map kind_entry rs) ≡ true
below-kinds o [] h = refl
below-kinds o (r ∷ rs) h = λ i. (less o r.id ∙ (and_parts _ _ h).0) i && below-kinds o rs (and_parts _ _ h).1 i

sorted-kinds : (rs : List Record) → rises id_of rs ≡ true → is_sorted nat_cmp (map kind_entry rs) ≡ true
sorted-kinds [] h = refl
sorted-kinds (r ∷ rs) h = λ i. below-kinds r.id rs (and_parts _ _ h).0 i && sorted-kinds rs (and_parts _ _ h).1 i

-- a map made of entries in order has these entries
entries-in_order : {K X : Type 0} {R : K → K → Ordering} → IsTotalOrder R → IsAntisymmetric R → (es : List (K × X)) → is_sorted R es ≡ true → entries (from_entries {R = R} es) ≡ es
entries-in_order {R = R} total same es h =
    ap entries (same_map total same (from_entries es) (from_sorted es) (λ q. get-from_entries total es q ∙ sym (get-from_sorted R es q (T-of _ h))))
    ∙ entries-from_sorted R es (T-of _ h)

pub entries-kinds : (metamodel : Metamodel) (next : ℕ) (rs : List Record) (roots : List ℕ) → rises id_of rs ≡ true → entries (contents_of metamodel next rs roots).kinds ≡ map kind_entry rs
entries-kinds metamodel next rs roots h = entries-in_order nat_cmp_total nat_cmp-IsAntisymmetric (map kind_entry rs) (sorted-kinds rs h)

abbrev Entries : Type 0
Entries = List ((ℕ × ℕ) × Filled)

below-filled : (k q : ℕ × ℕ) (values : List Scalar) (rest : Entries) → is_lt (slot_cmp k q) ≡ true → below_all slot_cmp k rest ≡ true → below_all slot_cmp k (filled q values ++ rest) ≡ true
below-filled k q [] rest h l = l
below-filled k q (value ∷ values) rest h l = λ i. h i && l i

sorted-filled : (k : ℕ × ℕ) (values : List Scalar) (rest : Entries) → below_all slot_cmp k rest ≡ true → is_sorted slot_cmp rest ≡ true → is_sorted slot_cmp (filled k values ++ rest) ≡ true
sorted-filled k [] rest h l = l
sorted-filled k (value ∷ values) rest h l = λ i. h i && l i

below-record : (o p f : ℕ) (ss : List Slot) (rest : Entries) → ltb o p ≡ true → below_all slot_cmp (o, f) rest ≡ true → below_all slot_cmp (o, f) (flat_map (slot_entry p) ss ++ rest) ≡ true
below-record o p f [] rest h l = l
below-record o p f (s ∷ ss) rest h l =
    ap (below_all slot_cmp (o, f)) (append_assoc (slot_entry p s) (flat_map (slot_entry p) ss) rest)
    ∙ below-filled (o, f) (p, s.feature) s.values _ (less_first o p f s.feature h) (below-record o p f ss rest h l)

below-records : (o f : ℕ) (rs : List Record) → list_all (λ (r : Record). ltb o r.id) rs ≡ true → below_all slot_cmp (o, f) (flat_map slot_entries rs) ≡ true
below-records o f [] h = refl
below-records o f (r ∷ rs) h = below-record o r.id f r.slots _ (and_parts _ _ h).0 (below-records o f rs (and_parts _ _ h).1)

below-slots : (o f : ℕ) (ss : List Slot) (rest : Entries) → list_all (λ (s : Slot). ltb f s.feature) ss ≡ true → below_all slot_cmp (o, f) rest ≡ true → below_all slot_cmp (o, f) (flat_map (slot_entry o) ss ++ rest) ≡ true
below-slots o f [] rest h l = l
below-slots o f (s ∷ ss) rest h l =
    ap (below_all slot_cmp (o, f)) (append_assoc (slot_entry o s) (flat_map (slot_entry o) ss) rest)
    ∙ below-filled (o, f) (o, s.feature) s.values _ (less_second o f s.feature (and_parts _ _ h).0) (below-slots o f ss rest (and_parts _ _ h).1 l)

sorted-record : (o : ℕ) (ss : List Slot) (rest : Entries) → rises feature_of ss ≡ true → ((f : ℕ) → below_all slot_cmp (o, f) rest ≡ true) → is_sorted slot_cmp rest ≡ true → is_sorted slot_cmp (flat_map (slot_entry o) ss ++ rest) ≡ true
sorted-record o [] rest h below l = l
sorted-record o (s ∷ ss) rest h below l =
    ap (is_sorted slot_cmp) (append_assoc (slot_entry o s) (flat_map (slot_entry o) ss) rest)
    ∙ sorted-filled (o, s.feature) s.values _ (below-slots o s.feature ss rest (and_parts _ _ h).0 (below s.feature)) (sorted-record o ss rest (and_parts _ _ h).1 below l)

sorted-slots : (rs : List Record) → rises id_of rs ≡ true → list_all (λ (r : Record). rises feature_of r.slots) rs ≡ true → is_sorted slot_cmp (flat_map slot_entries rs) ≡ true
sorted-slots [] h l = refl
sorted-slots (r ∷ rs) h l = sorted-record r.id r.slots _ (and_parts _ _ l).0 (λ f. below-records r.id f rs (and_parts _ _ h).0) (sorted-slots rs (and_parts _ _ h).1 (and_parts _ _ l).1)

pub entries-slots : (metamodel : Metamodel) (next : ℕ) (rs : List Record) (roots : List ℕ) → rises id_of rs ≡ true → list_all (λ (r : Record). rises feature_of r.slots) rs ≡ true
    → entries (contents_of metamodel next rs roots).slots ≡ flat_map slot_entries rs
entries-slots metamodel next rs roots h l = entries-in_order slot_cmp_total slot_cmp-IsAntisymmetric (flat_map slot_entries rs) (sorted-slots rs h l)

-- ---- how many entries a map has

one-more : (b : Bool) (n k : ℕ) → n ≤ k → cond b n (n + 1) ≤ suc k
one-more true n k h = omega arith
one-more false n k h = omega arith

pub len-from_entries : (es : List (ℕ × ℕ)) → len (from_entries {R = nat_cmp} es) ≤ length es
len-from_entries [] = let none = len-empty nat_cmp ℕ in omega (arith, none)
len-from_entries (e ∷ es) =
    let few = one-more (contains_key (from_entries {R = nat_cmp} es) e.0) (len (from_entries {R = nat_cmp} es)) (length es) (len-from_entries es) in
    let is = len-insert nat_cmp_total (from_entries es) e.0 e.1 in
    omega (arith, few, is)
