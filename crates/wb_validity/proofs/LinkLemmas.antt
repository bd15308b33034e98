-- The links of a list of objects are what these objects contain.
use Rattle.std.proofs.Common.{◌≡◌, ℕ, ◌<◌, suc, zero, Bool, true, false, ◌&&◌, ◌||◌, List, [], ◌∷◌, length, get_or, Option, Some, None, refl, sym, ap, subst, ◌∙◌, cond, eqb, ltb, leb, arith}
use Rattle.std.specs.Option.{option_map, option_map_or, IsSome}
use Rattle.std.specs.List.{flat_map, list_any, slice_get}
use Rattle.std.proofs.lemmas.Bool.{and_parts, eqb-true, false≢true}
use Rattle.std.proofs.lemmas.Bool.Decides.{nat_tests}
use Rattle.std.proofs.lemmas.Option.{none-some, same_Some, get_or_from_slice_get, slice_get_within, slice_get_read, slice_get-get_or}
use Rattle.wb_store.specs.declared.scalars.Scalar.{Scalar}
use Rattle.wb_store.specs.declared.scalars.Scalar.TheVariants.{Int, Bool as Boolean, Text, Literal, Object}
use Rattle.wb_store.specs.declared.containment.Link.{Link}
use Rattle.wb_store.specs.declared.records.Record.{Record}
use Rattle.wb_store.specs.declared.records.Slot.{Slot}
use Rattle.wb_store.specs.Scalars.{same}
use Rattle.wb_store.specs.ScalarLaws.{same_decides}
use Rattle.wb_store.specs.Contents.{Contents, is_containment, has_object, contains, kind, slot}
use Rattle.wb_store.specs.Places.{rises, numbered, IsPlaceOf}
use Rattle.wb_store.specs.Records.{id_of, feature_of, values_in}
use Rattle.wb_validity.specs.Valid.{AreContainedOnce}
use Rattle.wb_store.specs.invariants.Links.{link, slot_links, record_links, links_of, Kept, AreHolders, KnowsHolders}
use Rattle.wb_validity.specs.Broken.{is_held_twice}
use Rattle.wb_store.proofs.Found.{is_itself}
use Rattle.wb_store.proofs.Maps.{kind-numbered, slot-numbered}
use Rattle.wb_store.proofs.Members.{In, In-flat_map, flat_map-In, In-all, any_In, Contains-In, In-Contains}
use Rattle.wb_store.proofs.Members.In.{here, there}
use Rattle.wb_validity.proofs.ValidSlots.{holders_same, holders_few}

above_other : (a n : ℕ) → ltb a n ≡ true → eqb n a ≡ false
above_other a n h = grind (arith, nat_tests)

module _ {A : Type 0} (number : A → ℕ) where
  pub numbered_In : (xs : List A) (x : A) → rises number xs ≡ true → In x xs → numbered number (number x) xs ≡ Some x
  numbered_In [] x h m = elim m [ ]
  numbered_In (z ∷ xs) x h here = ap (λ b. cond b (Some x) (numbered number (number x) xs)) (is_itself (number x))
  numbered_In (z ∷ xs) x h (there m) =
      ap (λ b. cond b (Some z) (numbered number (number x) xs)) (above_other _ _ (In-all (λ y. ltb (number z) (number y)) xs x (and_parts _ _ h).0 m))
      ∙ numbered_In xs x (and_parts _ _ h).1 m

  pub numbered_sound : (xs : List A) (n : ℕ) (x : A) → numbered number n xs ≡ Some x → In x xs × (number x ≡ n)
  numbered_sound [] n x e = absurd (none-some x e)
  numbered_sound (z ∷ xs) n x e =
      elim (eqb n (number z)) as (λ b. eqb n (number z) ≡ b → cond b (Some z) (numbered number n xs) ≡ Some x → In x (z ∷ xs) × (number x ≡ n)) [
        | true ↦ λ t e. let s = same_Some z x e in (subst (λ y. In y (z ∷ xs)) s here, subst (λ y. number y ≡ n) s (sym (eqb-true _ _ t)))
        | false ↦ λ t e. let r = numbered_sound xs n x e in (there r.0, r.1)
      ] refl e

  pub place_at : (xs : List A) (i : ℕ) (x : A) → slice_get xs i ≡ Some x → IsPlaceOf number xs (number x) (Some i)
  place_at xs i x e = (slice_get_within xs i x e, λ d. ap number (get_or_from_slice_get xs i x d e))

  pub place_get : (xs : List A) (n i : ℕ) → IsPlaceOf number xs n (Some i) → (x : A) × (slice_get xs i ≡ Some x) × (number x ≡ n)
  place_get [] n i p = absurd (omega (arith, p.0))
  place_get (y ∷ ys) n i p = (get_or (y ∷ ys) i y, slice_get-get_or (y ∷ ys) i y p.0, p.1 y)

module _ {A : Type 0} where
  pub any_found : (p : A → Bool) (xs : List A) → list_any p xs ≡ true → (x : A) × In x xs × (p x ≡ true)
  any_found p [] h = absurd (false≢true h)
  any_found p (x ∷ xs) h =
      elim (p x) as (λ b. p x ≡ b → (b || list_any p xs) ≡ true → (y : A) × In y (x ∷ xs) × (p y ≡ true)) [
        | true ↦ λ e h. (x, here, e)
        | false ↦ λ e h. let r = any_found p xs h in (r.0, there r.1, r.2)
      ] refl h

pub to_false : (b : Bool) → (b ≡ true → ⊥) → b ≡ false
to_false true f = absurd (f refl)
to_false false f = refl

both_true : (a b : Bool) → a ≡ true → b ≡ true → (a && b) ≡ true
both_true a b h l = λ i. h i && l i

itself : (o : ℕ) → same (Object o) (Object o) ≡ true
itself o = is_itself o

more_than_one : (n : ℕ) → (leb n 1 ≡ true → ⊥) → ltb 1 n ≡ true
more_than_one n h = elim (leb n 1) as (λ b. leb n 1 ≡ b → ltb 1 n ≡ true) [
  | true ↦ λ e. absurd (h e)
  | false ↦ λ e. grind (arith, nat_tests)
] refl

pub at_most_one : (n : ℕ) → leb n 1 ≡ true → ltb 1 n ≡ false
at_most_one n h = grind (arith, nat_tests)

-- ---- the links of one value

link-In : (p f : ℕ) (v : Scalar) (l : Link) → In l (link p f v) → (v ≡ Object l.object) × (l.container ≡ p) × (l.feature ≡ f)
link-In p f (Int n) l m = elim m [ ]
link-In p f (Boolean b) l m = elim m [ ]
link-In p f (Text t) l m = elim m [ ]
link-In p f (Literal e n) l m = elim m [ ]
link-In p f (Object o) l m = at o l m
  where
    at : (o : ℕ) (l : Link) → In l (link p f (Object o)) → (Object o ≡ Object l.object) × (l.container ≡ p) × (l.feature ≡ f)
    at o l here = (refl, refl, refl)
    at o l (there m) = elim m [ ]

-- an object with a slot that has a value
abbrev HasValue : List Record → ℕ → ℕ → ℕ → Type 0
HasValue rs p f o = (r : Record) × (s : Slot) × In r rs × In s r.slots × (r.id ≡ p) × (s.feature ≡ f) × In (Object o) s.values

holder_at : (hs : List (Option Link)) (i : ℕ) → i < length hs → (h : Option Link) × (slice_get hs i ≡ Some h)
holder_at [] i l = absurd (omega arith)
holder_at (h ∷ hs) zero l = (h, refl)
holder_at (h ∷ hs) (suc i) l = holder_at hs i (omega arith)

module _ (m : Contents) (rs : List Record) (kept : Kept m rs) where
  rise : rises id_of rs ≡ true
  rise = kept.plain.objects_rise

  slot_at : (r : Record) (s : Slot) → In r rs → In s r.slots → slot m r.id s.feature ≡ s.values
  slot_at r s in_r in_s =
      ap (λ m. slot m r.id s.feature) kept.shown
      ∙ slot-numbered m.metamodel m.next rs m.roots r.id s.feature rise kept.plain.slots_rise
      ∙ ap (λ o. option_map_or (λ (r : Record). values_in s.feature r.slots) o []) (numbered_In id_of rs r rise in_r)
      ∙ ap (λ o. option_map_or (λ (s : Slot). s.values) o []) (numbered_In feature_of r.slots s (In-all (λ (r : Record). rises feature_of r.slots) rs r kept.plain.slots_rise in_r) in_s)

  pub links_sound : (l : Link) → In l (links_of m.metamodel rs) → contains m l.container l.feature l.object ≡ true
  links_sound l in_l =
      let r = flat_map-In (record_links m.metamodel) rs l in_l in
      let s = flat_map-In (slot_links m.metamodel r.0.id) r.0.slots l r.2 in
      elim (is_containment m.metamodel s.0.feature) as (λ b. is_containment m.metamodel s.0.feature ≡ b → In l (cond b (flat_map (link r.0.id s.0.feature) s.0.values) []) → contains m l.container l.feature l.object ≡ true) [
        | true ↦ λ e k.
            let v = flat_map-In (link r.0.id s.0.feature) s.0.values l k in
            let o = link-In r.0.id s.0.feature v.0 l v.2 in
            let has : has_object (slot m r.0.id s.0.feature) l.object ≡ true =
            subst (λ values. has_object values l.object ≡ true) (sym (slot_at r.0 s.0 r.1 s.1))
            (any_In (λ value. same value (Object l.object)) s.0.values v.0 v.1 (subst (λ value. same value (Object l.object) ≡ true) (sym o.0) (itself l.object))) in
            subst (λ p. contains m p l.feature l.object ≡ true) (sym o.1)
            (subst (λ f. contains m r.0.id f l.object ≡ true) (sym o.2) (both_true _ _ e has))
        | false ↦ λ e k. elim k [ ]
      ] refl s.2

  values_found : (p f o : ℕ) → has_object (slot m p f) o ≡ true → HasValue rs p f o
  values_found p f o h =
      let e = ap (λ m. slot m p f) kept.shown ∙ slot-numbered m.metamodel m.next rs m.roots p f rise kept.plain.slots_rise in
      elim (numbered id_of p rs) as (λ q. numbered id_of p rs ≡ q → has_object (option_map_or (λ (r : Record). values_in f r.slots) q []) o ≡ true → HasValue rs p f o) [
        | None ↦ λ er h. absurd (false≢true h)
        | Some r ↦ λ er h. elim (numbered feature_of f r.slots) as (λ t. numbered feature_of f r.slots ≡ t → has_object (option_map_or (λ (s : Slot). s.values) t []) o ≡ true → HasValue rs p f o) [
          | None ↦ λ es h. absurd (false≢true h)
          | Some s ↦ λ es h.
              let a = numbered_sound id_of rs p r er in
              let b = numbered_sound feature_of r.slots f s es in
              let v = any_found (λ value. same value (Object o)) s.values h in
              let is = same_decides v.0 (Object o) in
              (r, s, a.0, b.0, a.1, b.1, subst (λ value. In value s.values) (is.0 v.2) v.1)
        ] refl h
      ] refl (subst (λ values. has_object values o ≡ true) e h)

  pub links_complete : (p f o : ℕ) → contains m p f o ≡ true → In (record { container = p; feature = f; object = o }) (links_of m.metamodel rs)
  links_complete p f o h =
      let parts = and_parts _ _ h in
      let w = values_found p f o parts.1 in
      let r = w.0 in
      let s = w.1 in
      let l : Link = record { container = p; feature = f; object = o } in
      let is = subst (λ g. is_containment m.metamodel g ≡ true) (sym w.5) parts.0 in
      let one : In l (link r.id s.feature (Object o)) = subst (λ l. In l (link r.id s.feature (Object o))) (λ i. record { container = w.4 i; feature = w.5 i; object = o }) here in
      let some : In l (flat_map (link r.id s.feature) s.values) = In-flat_map (link r.id s.feature) s.values (Object o) l w.6 one in
      In-flat_map (record_links m.metamodel) rs r l w.2
      (In-flat_map (slot_links m.metamodel r.id) r.slots s l w.3 (subst (λ b. In l (cond b (flat_map (link r.id s.feature) s.values) [])) (sym is) some))

  place_of : (r : Record) → In r rs → (i : ℕ) × (slice_get rs i ≡ Some r)
  place_of r in_r = let c = Contains-In rs r in_r in (c.0, slice_get_read rs (length rs) c.0 r refl c.1 (sym c.2))

  kind_at : (o : ℕ) → kind m o ≡ option_map (λ (r : Record). r.class) (numbered id_of o rs)
  kind_at o = ap (λ m. kind m o) kept.shown ∙ kind-numbered m.metamodel m.next rs m.roots o

  pub live_place : (o : ℕ) → IsSome (kind m o) → (i : ℕ) × (r : Record) × (slice_get rs i ≡ Some r) × (r.id ≡ o)
  live_place o live =
      elim (numbered id_of o rs) as (λ q. numbered id_of o rs ≡ q → IsSome (option_map (λ (r : Record). r.class) q) → (i : ℕ) × (r : Record) × (slice_get rs i ≡ Some r) × (r.id ≡ o)) [
        | None ↦ λ e h. absurd (false≢true h)
        | Some r ↦ λ e h. let a = numbered_sound id_of rs o r e in let p = place_of r a.0 in (p.0, r, p.1, a.1)
      ] refl (subst IsSome (kind_at o) live)

  pub container_place : (p f o : ℕ) → contains m p f o ≡ true → (i : ℕ) × (r : Record) × (slice_get rs i ≡ Some r) × (r.id ≡ p)
  container_place p f o h = let parts = and_parts _ _ h in let w = values_found p f o parts.1 in let c = place_of w.0 w.2 in (c.0, w.0, c.1, w.4)

  pub live_at : (i : ℕ) (r : Record) → slice_get rs i ≡ Some r → IsSome (kind m r.id)
  live_at i r e =
      let in_r = In-Contains rs r i (slice_get_within rs i r e) (get_or_from_slice_get rs i r r e) in
      subst IsSome (sym (kind_at r.id ∙ ap (option_map (λ (r : Record). r.class)) (numbered_In id_of rs r rise in_r))) refl

  module _ (hs : List (Option Link)) (ts : List Bool) (holders : AreHolders rs (links_of m.metamodel rs) hs ts) (i : ℕ) (r : Record) (e : slice_get rs i ≡ Some r) where
    -- an object that two links hold stands in two containment slots
    held_twice : slice_get ts i ≡ Some true → is_held_twice m r.id ≡ true
    held_twice t =
        let twice = holders.others i t in
        let f = place_get id_of rs twice.first.object i twice.to_first in
        let g = place_get id_of rs twice.second.object i twice.to_second in
        let one : twice.first.object ≡ r.id = sym f.2 ∙ ap (λ (r : Record). r.id) (same_Some f.0 r (sym f.1 ∙ e)) in
        let two : twice.second.object ≡ r.id = sym g.2 ∙ ap (λ (r : Record). r.id) (same_Some g.0 r (sym g.1 ∙ e)) in
        let a = subst (λ o. contains m twice.first.container twice.first.feature o ≡ true) one (links_sound twice.first (In-Contains _ twice.first twice.has_first.0 twice.has_first.1 twice.has_first.2)) in
        let b = subst (λ o. contains m twice.second.container twice.second.feature o ≡ true) two (links_sound twice.second (In-Contains _ twice.second twice.has_second.0 twice.has_second.1 twice.has_second.2)) in
        more_than_one _ (λ few.
        let s = holders_same m r.id few twice.first.container twice.second.container twice.first.feature twice.second.feature a b in
        twice.differ (λ i. record { container = s.0 i; feature = s.1 i; object = (one ∙ sym two) i }))

    one_link : slice_get ts i ≡ Some false → (p q f g : ℕ) → contains m p f r.id ≡ true → contains m q g r.id ≡ true → (p ≡ q) × (f ≡ g)
    one_link t p q f g a b =
        let k : Link = record { container = p; feature = f; object = r.id } in
        let l : Link = record { container = q; feature = g; object = r.id } in
        let x = holders.all k i (Contains-In _ k (links_complete p f r.id a)) (place_at id_of rs i r e) t in
        let y = holders.all l i (Contains-In _ l (links_complete q g r.id b)) (place_at id_of rs i r e) t in
        let s = same_Some k l (same_Some (Some k) (Some l) (sym x ∙ y)) in
        (ap (λ (l : Link). l.container) s, ap (λ (l : Link). l.feature) s)

    held_once : slice_get ts i ≡ Some false → is_held_twice m r.id ≡ false
    held_once t = at_most_one _ (holders_few m r.id (one_link t))

    -- the mark of an object says whether it stands in two containment slots
    pub twice_marked : (mark : Bool) → slice_get ts i ≡ Some mark → mark ≡ is_held_twice m r.id
    twice_marked true t = sym (held_twice t)
    twice_marked false t = sym (held_once t)

  -- where no object is marked, the links are the holders
  pub knows : (hs : List (Option Link)) (ts : List Bool) → AreHolders rs (links_of m.metamodel rs) hs ts → ((i : ℕ) (r : Record) → slice_get rs i ≡ Some r → slice_get ts i ≡ Some false) → KnowsHolders m rs hs
  knows hs ts holders once = record {
    each = holders.each;
    held = λ i r l er el.
        let o = holders.only l i el in
        let p = place_get id_of rs l.object i o.1 in
        let id = subst (λ (x : Record). x.id ≡ l.object) (same_Some p.0 r (sym p.1 ∙ er)) p.2 in
        let c = o.0 in
        subst (λ o. contains m l.container l.feature o ≡ true) (sym id) (links_sound l (In-Contains _ l c.0 c.1 c.2));
    only = λ i r l er el p f h.
        let k : Link = record { container = p; feature = f; object = r.id } in
        let g = holders.all k i (Contains-In _ k (links_complete p f r.id h)) (place_at id_of rs i r er) (once i r er) in
        let s = same_Some k l (same_Some (Some k) (Some l) (sym g ∙ el)) in
        (ap (λ (l : Link). l.container) s, ap (λ (l : Link). l.feature) s);
    free = λ i r er el p f. to_false _ (λ h.
        let k : Link = record { container = p; feature = f; object = r.id } in
        let g = holders.all k i (Contains-In _ k (links_complete p f r.id h)) (place_at id_of rs i r er) (once i r er) in
        none-some k (same_Some None (Some k) (sym el ∙ g)));
  }

  pub contained_once : (hs : List (Option Link)) → KnowsHolders m rs hs → AreContainedOnce m
  contained_once hs knows o p q f g live a b =
      let w = live_place o live in
      let h = holder_at hs w.0 (omega (arith, slice_get_within rs w.0 w.1 w.2, knows.each)) in
      let a' = subst (λ x. contains m p f x ≡ true) (sym w.3) a in
      let b' = subst (λ x. contains m q g x ≡ true) (sym w.3) b in
      elim h.0 as (λ x. slice_get hs w.0 ≡ Some x → (p ≡ q) × (f ≡ g)) [
        | None ↦ λ e. absurd (false≢true (sym (knows.free w.0 w.1 w.2 e p f) ∙ a'))
        | Some l ↦ λ e. let x = knows.only w.0 w.1 l w.2 e p f a' in let y = knows.only w.0 w.1 l w.2 e q g b' in (x.0 ∙ sym y.0, x.1 ∙ sym y.1)
      ] h.1
