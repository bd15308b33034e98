-- Objects that are put in order make the same contents.
use Rattle.std.proofs.Common.{◌≡◌, ℕ, true, ◌&&◌, List, [], ◌∷◌, map, length, refl, sym, ap, subst, ◌∙◌, ltb}
use Rattle.std.proofs.lemmas.Bool.{and_parts}
use Rattle.std.proofs.lemmas.List.Sorted.{IsPermutation-sym}
use Rattle.std.proofs.lemmas.Cmp.{nat_cmp_total}
use Rattle.std.specs.List.{list_all, flat_map, AllZip}
use Rattle.std.specs.List.Sorted.{IsPermutation, IsNonDecreasingBy}
use Rattle.std.specs.FinMap.{nat_cmp-IsAntisymmetric}
use Rattle.wb_metamodel.specs.Metamodel.{Metamodel}
use Rattle.wb_store.specs.declared.scalars.Scalar.{Scalar}
use Rattle.wb_store.specs.declared.records.Record.{Record}
use Rattle.wb_store.specs.declared.records.Slot.{Slot}
use Rattle.wb_store.specs.Contents.{Filled, members}
use Rattle.wb_store.specs.Places.{rises, once}
use Rattle.wb_store.specs.Records.{id_of, feature_of, kind_entry, filled, slot_entry, slot_entries, contents_of, is_known, is_known_slot}
use Rattle.wb_store.specs.invariants.Plain.{IsPlain}
use Rattle.wb_store.specs.invariants.Arranged.{IsArranged}
use Rattle.wb_store.proofs.Maps.{slot_cmp_total, slot_cmp-IsAntisymmetric}
use Rattle.wb_store.proofs.Members.{In, IsFunctional, In-permutation, In-map, map-In, In-flat_map, flat_map-In, zip_left, zip_right, all_In, In-all, once-apart, rises_sorted, from_entries-same}
use Rattle.wb_store.proofs.Members.In.{here, there}

In-single : {A : Type 0} (x y : A) → In x (y ∷ []) → x ≡ y
In-single x y here = refl
In-single x y (there m) = elim m [ ]

Entry : Type 0
Entry = (ℕ × ℕ) × Filled

filled-In : (k l : ℕ × ℕ) (values : List Scalar) (v : Filled) → In (k, v) (filled l values) → (k ≡ l) × (members v ≡ values)
filled-In k l [] v m = elim m [ ]
filled-In k l (value ∷ values) v m =
    let e = In-single (k, v) (l, record { first = value; more = values }) m in
    (ap (λ (e : (ℕ × ℕ) × Filled). e.0) e, ap (λ (e : (ℕ × ℕ) × Filled). members e.1) e)

head_same : (v w : Filled) → members v ≡ members w → v.first ≡ w.first
head_same v w e = cc

tail_same : (v w : Filled) → members v ≡ members w → v.more ≡ w.more
tail_same v w e = cc

members_same : (v w : Filled) → members v ≡ members w → v ≡ w
members_same v w e = λ i. record { first = head_same v w e i; more = tail_same v w e i }

ids_same : (qs ps : List Record) → AllZip IsArranged qs ps → map id_of ps ≡ map id_of qs
ids_same [] [] z = refl
ids_same [] (p ∷ ps) z = absurd z
ids_same (q ∷ qs) [] z = absurd z
ids_same (q ∷ qs) (p ∷ ps) z = λ i. z.0.id i ∷ ids_same qs ps z.1 i

known_arranged : (metamodel : Metamodel) (q r : Record) → is_known metamodel q ≡ true → IsArranged q r → is_known metamodel r ≡ true
known_arranged metamodel q r h a = λ i.
    subst (λ c. ltb c (length metamodel.classes) ≡ true) (sym a.class) (and_parts _ _ h).0 i
    && all_In (is_known_slot metamodel) r.slots (λ s m. In-all (is_known_slot metamodel) q.slots s (and_parts _ _ h).1 (In-permutation r.slots q.slots s (IsPermutation-sym q.slots r.slots a.slots.same) m)) i

module _ (qs ps rs : List Record) (zip : AllZip IsArranged qs ps) (order : IsPermutation ps rs) where
  to_rs : (q : Record) → In q qs → (r : Record) × In r rs × IsArranged q r
  to_rs q m = let p = zip_left IsArranged qs ps q zip m in (p.0, In-permutation ps rs p.0 order p.1, p.2)

  from_rs : (r : Record) → In r rs → (q : Record) × In q qs × IsArranged q r
  from_rs r m = zip_right IsArranged qs ps r zip (In-permutation rs ps r (IsPermutation-sym ps rs order) m)

  kinds_sub : (e : ℕ × ℕ) → In e (map kind_entry qs) → In e (map kind_entry rs)
  kinds_sub e m =
      let q = map-In kind_entry qs e m in
      let r = to_rs q.0 q.1 in
      subst (λ z. In z (map kind_entry rs)) ((λ i. (r.2.id i, r.2.class i)) ∙ sym q.2) (In-map kind_entry rs r.0 r.1)

  kinds_sup : (e : ℕ × ℕ) → In e (map kind_entry rs) → In e (map kind_entry qs)
  kinds_sup e m =
      let r = map-In kind_entry rs e m in
      let q = from_rs r.0 r.1 in
      subst (λ z. In z (map kind_entry qs)) ((λ i. (sym q.2.id i, sym q.2.class i)) ∙ sym r.2) (In-map kind_entry qs q.0 q.1)

  slots_sub : (e : (ℕ × ℕ) × Filled) → In e (flat_map slot_entries qs) → In e (flat_map slot_entries rs)
  slots_sub e m =
      let q = flat_map-In slot_entries qs e m in
      let r = to_rs q.0 q.1 in
      let s = flat_map-In (slot_entry q.0.id) q.0.slots e q.2 in
      In-flat_map slot_entries rs r.0 e r.1
      (In-flat_map (slot_entry r.0.id) r.0.slots s.0 e (In-permutation q.0.slots r.0.slots s.0 r.2.slots.same s.1) (subst (λ o. In e (slot_entry o s.0)) (sym r.2.id) s.2))

  slots_sup : (e : (ℕ × ℕ) × Filled) → In e (flat_map slot_entries rs) → In e (flat_map slot_entries qs)
  slots_sup e m =
      let r = flat_map-In slot_entries rs e m in
      let q = from_rs r.0 r.1 in
      let s = flat_map-In (slot_entry r.0.id) r.0.slots e r.2 in
      In-flat_map slot_entries qs q.0 e q.1
      (In-flat_map (slot_entry q.0.id) q.0.slots s.0 e (In-permutation r.0.slots q.0.slots s.0 (IsPermutation-sym q.0.slots r.0.slots q.2.slots.same) s.1) (subst (λ o. In e (slot_entry o s.0)) q.2.id s.2))

  module _ (objects_once : once (map id_of qs) ≡ true) (features_once : list_all (λ (r : Record). once (map feature_of r.slots)) qs ≡ true) where
    kinds_functional : IsFunctional (map kind_entry qs)
    kinds_functional k v w a b =
        let x = map-In kind_entry qs (k, v) a in
        let y = map-In kind_entry qs (k, w) b in
        let e = once-apart id_of qs x.0 y.0 objects_once x.1 y.1 (ap (λ (e : ℕ × ℕ). e.0) (sym x.2) ∙ ap (λ (e : ℕ × ℕ). e.0) y.2) in
        ap (λ (e : ℕ × ℕ). e.1) x.2 ∙ ap (λ (r : Record). r.class) e ∙ sym (ap (λ (e : ℕ × ℕ). e.1) y.2)

    slots_functional : IsFunctional (flat_map slot_entries qs)
    slots_functional k v w a b =
        let x = flat_map-In slot_entries qs (k, v) a in
        let y = flat_map-In slot_entries qs (k, w) b in
        let s = flat_map-In (slot_entry x.0.id) x.0.slots (k, v) x.2 in
        let t = flat_map-In (slot_entry y.0.id) y.0.slots (k, w) y.2 in
        let f = filled-In k (x.0.id, s.0.feature) s.0.values v s.2 in
        let g = filled-In k (y.0.id, t.0.feature) t.0.values w t.2 in
        let e = once-apart id_of qs x.0 y.0 objects_once x.1 y.1 (ap (λ (l : ℕ × ℕ). l.0) (sym f.0) ∙ ap (λ (l : ℕ × ℕ). l.0) g.0) in
        let in_x = subst (λ (r : Record). In t.0 r.slots) (sym e) t.1 in
        let one = In-all (λ (r : Record). once (map feature_of r.slots)) qs x.0 features_once x.1 in
        let d = once-apart feature_of x.0.slots s.0 t.0 one s.1 in_x (ap (λ (l : ℕ × ℕ). l.1) (sym f.0) ∙ ap (λ (l : ℕ × ℕ). l.1) g.0) in
        members_same v w (f.1 ∙ ap (λ (s : Slot). s.values) d ∙ sym g.1)

    pub arranged-contents : (metamodel : Metamodel) (next : ℕ) (roots : List ℕ) → contents_of metamodel next rs roots ≡ contents_of metamodel next qs roots
    arranged-contents metamodel next roots = λ i. record {
      metamodel = metamodel;
      next = next;
      kinds = sym (from_entries-same nat_cmp_total nat_cmp-IsAntisymmetric (map kind_entry qs) (map kind_entry rs) kinds_functional kinds_sub kinds_sup) i;
      slots = sym (from_entries-same slot_cmp_total slot_cmp-IsAntisymmetric (flat_map slot_entries qs) (flat_map slot_entries rs) slots_functional slots_sub slots_sup) i;
      roots = roots;
    }

    pub arranged-IsPlain : (metamodel : Metamodel) → IsNonDecreasingBy id_of rs → list_all (is_known metamodel) qs ≡ true → IsPlain metamodel rs
    arranged-IsPlain metamodel ascending known = record {
      objects_rise = rises_sorted id_of ps rs order ascending (subst (λ ids. once ids ≡ true) (sym (ids_same qs ps zip)) objects_once);
      slots_rise = all_In (λ (r : Record). rises feature_of r.slots) rs (λ r m. let q = from_rs r m in q.2.slots.rise);
      known = all_In (is_known metamodel) rs (λ r m. let q = from_rs r m in known_arranged metamodel q.0 r (In-all (is_known metamodel) qs q.0 known q.1) q.2);
    }
