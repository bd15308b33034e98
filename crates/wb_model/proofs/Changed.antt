-- A change of links keeps what is true of each object and each slot.
use Rattle.std.proofs.Common.{◌≡◌, ℕ, ◌<◌, ◌≤◌, Bool, true, false, not, List, [], ◌∷◌, ◌++◌, length, refl, sym, ap, subst, ◌∙◌, cond, eqb, arith, ◌⊎◌, inl, inr, ⊎_elim, append-nil}
use Rattle.std.proofs.lemmas.Bool.{and_parts, and_from, false≢true, not-true, not_from_false}
use Rattle.std.proofs.lemmas.List.{length_push}
use Rattle.std.specs.Prelude.{filter, IsSome}
use Rattle.std.specs.Option.{option_map_or}
use Rattle.std.specs.List.{list_any, flat_map}
use Rattle.wb_ecore.specs.declared.features.Feature.{Feature}
use Rattle.wb_metamodel.specs.Metamodel.{Metamodel, conforms}
use Rattle.wb_metamodel.specs.WellFormed.{WellFormed}
use Rattle.wb_store.specs.declared.scalars.Scalar.{Scalar}
use Rattle.wb_store.specs.declared.scalars.Scalar.TheVariants.{Object}
use Rattle.wb_store.specs.Scalars.{same}
use Rattle.wb_store.specs.ScalarLaws.{same_decides}
use Rattle.wb_store.specs.Contents.{Contents, kind, slot, contains}
use Rattle.wb_store.specs.Cells.{is_plain}
use Rattle.wb_store.specs.Relinking.{Link, link, relink, other_end, both_ends, change, is_at}
use Rattle.wb_store.specs.Places.{once}
use Rattle.wb_validity.specs.Valid.{has_feature, is_of_class, room, conforms_to, is_of_kind, is_of_feature, differ, Within, is_root}
use Rattle.wb_validity.specs.Valid.Within.{directly, through}
use Rattle.wb_model.proofs.Ends.{opposites, opposite-apart, plain-parts, plain-other, Opposed, other_end-cases, In-other_end, In-both_ends, ends-cases, opposed-unique, opposed-back, ends-mirrored}
use Rattle.wb_model.proofs.FeatureOwners.{feature-owner, owner-feature}
use Rattle.wb_store.proofs.Filtered.{In-cons, filter-In, In-filter, filter-few}
use Rattle.wb_validity.proofs.LinkLemmas.{any_found, to_false}
use Rattle.wb_model.proofs.Live.{kind-at}
use Rattle.wb_store.proofs.Members.{In, any_In, In-append_left, In-append_right, In-append_cases, flat_map-In}
use Rattle.wb_store.proofs.Members.In.{here, there}
use Rattle.wb_store.proofs.Relinked.{values_at, is_at-link, is_at-itself, slot-relink}
use Rattle.wb_model.proofs.Sound.{Stands, contains-parts, contains-from, Sound, Housed}

-- ---- lists of values

differ-filter : (p : Scalar → Bool) (vs : List Scalar) → differ vs ≡ true → differ (filter p vs) ≡ true
differ-filter p [] h = refl
differ-filter p (v ∷ vs) h =
    let both = and_parts (not (list_any (λ w. same w v) vs)) (differ vs) h in
    let later = differ-filter p vs both.1 in
    let first : list_any (λ w. same w v) (filter p vs) ≡ false = to_false _ (λ t.
    let r = any_found (λ w. same w v) (filter p vs) t in
    false≢true (sym (not-true _ both.0) ∙ any_In (λ w. same w v) vs r.0 (filter-In p vs r.0 r.1).0 r.2)) in
    elim (p v) as (λ b. differ (cond b (v ∷ filter p vs) (filter p vs)) ≡ true) [
      | true ↦ and_from _ _ (not_from_false _ first) later
      | false ↦ later
    ]

differ-push : (vs : List Scalar) (v : Scalar) → differ vs ≡ true → (In v vs → ⊥) → differ (vs ++ v ∷ []) ≡ true
differ-push [] v h apart = refl
differ-push (w ∷ vs) v h apart =
    let both = and_parts (not (list_any (λ u. same u w) vs)) (differ vs) h in
    let first : list_any (λ u. same u w) (vs ++ v ∷ []) ≡ false = to_false _ (λ t.
    let r = any_found (λ u. same u w) (vs ++ v ∷ []) t in
    let is : r.0 ≡ w = (same_decides r.0 w).0 r.2 in
    ⊎_elim
    (λ m. false≢true (sym (not-true _ both.0) ∙ any_In (λ u. same u w) vs r.0 m r.2))
    (λ m. ⊎_elim (λ e. apart (subst (λ z. In z (w ∷ vs)) (sym (e ∙ is)) here)) (λ n. elim n [ ]) (In-cons v [] r.0 m))
    (In-append_cases vs (v ∷ []) r.0 r.1)) in
    and_from _ _ (not_from_false _ first) (differ-push vs v both.1 (λ m. apart (there m)))

-- ---- the links that stand after a change

values_at-In : (o f : ℕ) (ls : List Link) (v : Scalar) → In v (values_at o f ls) → In (link o f v) ls
values_at-In o f [] v m = elim m [ ]
values_at-In o f (l ∷ ls) v m =
    elim (is_at o f l) as (λ b. is_at o f l ≡ b → In v (cond b (l.value ∷ values_at o f ls) (values_at o f ls)) → In (link o f v) (l ∷ ls)) [
      | true ↦ λ t m.
          ⊎_elim
          (λ e. subst (λ k. In k (l ∷ ls)) (is_at-link o f l t ∙ ap (link o f) e) here)
          (λ n. there (values_at-In o f ls v n))
          (In-cons l.value (values_at o f ls) v m)
      | false ↦ λ t m. there (values_at-In o f ls v m)
    ] refl m

pub In-values_at : (ls : List Link) (l : Link) → In l ls → In l.value (values_at l.object l.feature ls)
In-values_at [] l m = elim m [ ]
In-values_at (k ∷ ls) l here = subst (λ b. In l.value (cond b (l.value ∷ values_at l.object l.feature ls) (values_at l.object l.feature ls))) (sym (is_at-itself l.object l.feature l.value)) here
In-values_at (k ∷ ls) l (there m) =
    elim (is_at l.object l.feature k) as (λ b. In l.value (cond b (k.value ∷ values_at l.object l.feature ls) (values_at l.object l.feature ls))) [
      | true ↦ there (In-values_at ls l m)
      | false ↦ In-values_at ls l m
    ]

module _ (leaves : Link → Bool) (comes : List Link) (m : Contents) where
  -- the links that stood and stay, and those that come
  pub relink-Stands : (l : Link) → Stands (relink leaves comes m) l → (Stands m l × (leaves l ≡ false)) ⊎ In l comes
  relink-Stands l i =
      ⊎_elim
      (λ old. let r = filter-In (λ v. not (leaves (link l.object l.feature v))) (slot m l.object l.feature) l.value old in inl (r.0, not-true _ r.1))
      (λ new. inr (values_at-In l.object l.feature comes l.value new))
      (In-append_cases (filter (λ v. not (leaves (link l.object l.feature v))) (slot m l.object l.feature)) (values_at l.object l.feature comes) l.value (subst (In l.value) (slot-relink leaves comes m l.object l.feature) i))

  pub relink-stays : (l : Link) → Stands m l → leaves l ≡ false → Stands (relink leaves comes m) l
  relink-stays l i h =
      subst (In l.value) (sym (slot-relink leaves comes m l.object l.feature))
      (In-append_left _ (values_at l.object l.feature comes) l.value (In-filter (λ v. not (leaves (link l.object l.feature v))) (slot m l.object l.feature) l.value i (not_from_false _ h)))

  pub relink-comes : (l : Link) → In l comes → Stands (relink leaves comes m) l
  relink-comes l i =
      subst (In l.value) (sym (slot-relink leaves comes m l.object l.feature))
      (In-append_right (filter (λ v. not (leaves (link l.object l.feature v))) (slot m l.object l.feature)) (values_at l.object l.feature comes) l.value (In-values_at comes l i))

-- ---- what a change needs

-- of the links that come at most one is of this slot
abbrev pub IsAlone : ℕ → ℕ → List Link → Type 0
IsAlone o f comes = (values_at o f comes ≡ []) ⊎ ((v : Scalar) × (values_at o f comes ≡ v ∷ []) × In (link o f v) comes)

-- how many values of its slot stay
abbrev pub stay_at : (Link → Bool) → Contents → ℕ → ℕ → List Scalar
stay_at leaves m o f = filter (λ v. not (leaves (link o f v))) (slot m o f)

pub record Fits (leaves : Link → Bool) (comes : List Link) (m : Contents) : Type 0 where
  pub of_class : (l : Link) → In l comes → is_of_class m l.object l.feature ≡ true
  pub of_kind : (l : Link) → In l comes → is_of_feature m l.feature l.value ≡ true
  -- with a link its other end leaves, or comes
  pub mirrored : (l k : Link) → Opposed m.metamodel l k → leaves k ≡ true → leaves l ≡ true
  pub returned : (l k : Link) → In l comes → Opposed m.metamodel l k → In k comes
  pub alone : (o f : ℕ) → IsAlone o f comes
  pub new : (l : Link) → In l comes → Stands m l → ⊥
  pub space : (l : Link) → In l comes → length (stay_at leaves m l.object l.feature) < room m.metamodel l.feature

module _ (leaves : Link → Bool) (comes : List Link) (m : Contents) (s : Sound m) (fits : Fits leaves comes m) where
  room-kept : (o f : ℕ) → length (stay_at leaves m o f ++ values_at o f comes) ≤ room m.metamodel f
  room-kept o f =
      ⊎_elim
      (λ none. subst (λ vs. length (stay_at leaves m o f ++ vs) ≤ room m.metamodel f) (sym none)
      (subst (λ vs. length vs ≤ room m.metamodel f) (sym (append-nil (stay_at leaves m o f)))
      (let few = filter-few (λ v. not (leaves (link o f v))) (slot m o f) in let all = s.has_room o f in omega arith)))
      (λ one. subst (λ vs. length (stay_at leaves m o f ++ vs) ≤ room m.metamodel f) (sym one.1)
      (subst (λ n. n ≤ room m.metamodel f) (sym (length_push (stay_at leaves m o f) one.0))
      (let few = fits.space (link o f one.0) one.2 in omega arith)))
      (fits.alone o f)

  differ-kept : (o f : ℕ) → differ (stay_at leaves m o f ++ values_at o f comes) ≡ true
  differ-kept o f =
      let stay = differ-filter (λ v. not (leaves (link o f v))) (slot m o f) (s.values_differ o f) in
      ⊎_elim
      (λ none. subst (λ vs. differ (stay_at leaves m o f ++ vs) ≡ true) (sym none) (subst (λ vs. differ vs ≡ true) (sym (append-nil (stay_at leaves m o f))) stay))
      (λ one. subst (λ vs. differ (stay_at leaves m o f ++ vs) ≡ true) (sym one.1)
      (differ-push (stay_at leaves m o f) one.0 stay (λ i. fits.new (link o f one.0) one.2 (filter-In (λ v. not (leaves (link o f v))) (slot m o f) one.0 i).0)))
      (fits.alone o f)

  agree-kept : (l k : Link) → Stands (relink leaves comes m) l → Opposed m.metamodel l k → Stands (relink leaves comes m) k
  agree-kept l k i o =
      ⊎_elim
      (λ old. relink-stays leaves comes m k (s.agree l k old.0 o) (to_false _ (λ t. false≢true (sym old.1 ∙ fits.mirrored l k o t))))
      (λ new. relink-comes leaves comes m k (fits.returned l k new o))
      (relink-Stands leaves comes m l i)

  pub sound-relink : Sound (relink leaves comes m)
  unfolding relink
  sound-relink = record {
    next_spent = s.next_spent;
    numbers = s.numbers;
    concrete = s.concrete;
    of_class = λ l i. ⊎_elim (λ old. s.of_class l old.0) (λ new. fits.of_class l new) (relink-Stands leaves comes m l i);
    has_room = λ o f. subst (λ vs. length vs ≤ room m.metamodel f) (sym (slot-relink leaves comes m o f)) (room-kept o f);
    of_kind = λ l i. ⊎_elim (λ old. s.of_kind l old.0) (λ new. fits.of_kind l new) (relink-Stands leaves comes m l i);
    values_differ = λ o f. subst (λ vs. differ vs ≡ true) (sym (slot-relink leaves comes m o f)) (differ-kept o f);
    agree = agree-kept;
    few = s.few;
  }

-- ---- changes of both ends

-- a link of an object and a feature of its class, with a value of its kind
abbrev pub IsKnown : Contents → Link → Type 0
IsKnown m l = (is_of_class m l.object l.feature ≡ true) × (is_of_feature m l.feature l.value ≡ true)

-- with a link its other end is of a class and a kind
pub other-known : (m : Contents) → WellFormed m.metamodel → (l k : Link) → IsKnown m l → Opposed m.metamodel l k → IsKnown m k
other-known m well l k known o =
    let mm = m.metamodel in
    let pair = opposites mm well l.feature k.feature o.features in
    let c = kind-at m l.object (λ c. has_feature mm c l.feature) known.0 in
    let above : conforms mm c.0 pair.feature.owner ≡ true = feature-owner mm c.0 l.feature pair.feature pair.is_feature c.2 in
    let of_kind : is_of_kind m pair.feature.kind l.value ≡ true = ap (λ r. option_map_or (λ (feature : Feature). is_of_kind m feature.kind l.value) r false) (sym pair.is_feature) ∙ known.1 in
    let to : conforms_to m pair.other.owner k.object ≡ true = (λ i. is_of_kind m (sym pair.opposed.target i) (sym o.to i)) ∙ of_kind in
    let d = kind-at m k.object (λ d. conforms mm d pair.other.owner) to in
    let from : conforms_to m pair.feature.owner l.object ≡ true = ap (λ r. option_map_or (λ d. conforms mm d pair.feature.owner) r false) c.1 ∙ above in (
      ap (λ r. option_map_or (λ c. has_feature mm c k.feature) r false) d.1 ∙ owner-feature mm well d.0 k.feature pair.other pair.is_other d.2,
      ap (λ r. option_map_or (λ (feature : Feature). is_of_kind m feature.kind k.value) r false) pair.is_other ∙ (λ i. is_of_kind m (pair.opposed.target_back i) (o.from i)) ∙ from,
    )

module _ (mm : Metamodel) (well : WellFormed mm) (l : Link) where
  abbrev ends : List Link
  ends = flat_map (both_ends mm) (l ∷ [])

  ends-In : (k : Link) → In k ends → (l ≡ k) ⊎ Opposed mm l k
  ends-In k m = In-both_ends mm l k (subst (In k) (append-nil (both_ends mm l)) m)

  In-this : In l ends
  In-this = here

  In-that : (k : Link) → Opposed mm l k → In k ends
  In-that k o = there (In-append_left (other_end mm l) [] k (In-other_end mm l k o))

  alone-one : (o f : ℕ) → IsAlone o f (l ∷ [])
  alone-one o f =
      elim (is_at o f l) as (λ b. is_at o f l ≡ b → (cond b (l.value ∷ []) [] ≡ []) ⊎ ((v : Scalar) × (cond b (l.value ∷ []) [] ≡ v ∷ []) × In (link o f v) (l ∷ []))) [
        | true ↦ λ t. inr (l.value, refl, subst (λ k. In k (l ∷ [])) (is_at-link o f l t) here)
        | false ↦ λ t. inl refl
      ] refl

  not_both : (k : Link) → Opposed mm l k → (o f : ℕ) → is_at o f l ≡ true → is_at o f k ≡ true → ⊥
  not_both k q o f a b = opposite-apart mm well l.feature k.feature q.features (ap (λ (x : Link). x.feature) (is_at-link o f l a) ∙ sym (ap (λ (x : Link). x.feature) (is_at-link o f k b)))

  alone-two : (k : Link) → Opposed mm l k → (o f : ℕ) → IsAlone o f (l ∷ k ∷ [])
  alone-two k q o f =
      elim (is_at o f l) as (λ b. is_at o f l ≡ b → (cond b (l.value ∷ values_at o f (k ∷ [])) (values_at o f (k ∷ [])) ≡ []) ⊎ ((v : Scalar) × (cond b (l.value ∷ values_at o f (k ∷ [])) (values_at o f (k ∷ [])) ≡ v ∷ []) × In (link o f v) (l ∷ k ∷ []))) [
        | true ↦ λ t.
            let none : is_at o f k ≡ false = to_false _ (not_both k q o f t) in
            inr (l.value, ap (λ b. l.value ∷ cond b (k.value ∷ []) []) none, subst (λ j. In j (l ∷ k ∷ [])) (is_at-link o f l t) here)
        | false ↦ λ t.
            elim (is_at o f k) as (λ b. is_at o f k ≡ b → (cond b (k.value ∷ []) [] ≡ []) ⊎ ((v : Scalar) × (cond b (k.value ∷ []) [] ≡ v ∷ []) × In (link o f v) (l ∷ k ∷ []))) [
              | true ↦ λ u. inr (k.value, refl, there (subst (λ j. In j (k ∷ [])) (is_at-link o f k u) here))
              | false ↦ λ u. inl refl
            ] refl
      ] refl

  pub alone-ends : (o f : ℕ) → IsAlone o f ends
  alone-ends o f =
      subst (IsAlone o f) (sym (append-nil (both_ends mm l)))
      (⊎_elim
      (λ none. subst (λ ks. IsAlone o f (l ∷ ks)) (sym none) (alone-one o f))
      (λ one. subst (λ ks. IsAlone o f (l ∷ ks)) (sym one.2) (alone-two one.0 one.1 o f))
      (other_end-cases mm l))

-- nothing comes
pub fits-none : (m : Contents) → WellFormed m.metamodel → (leaves : Link → Bool) → Fits (λ l. list_any leaves (both_ends m.metamodel l)) [] m
fits-none m well leaves = record {
  of_class = λ l i. elim i [ ];
  of_kind = λ l i. elim i [ ];
  mirrored = λ l k o h. ends-mirrored m.metamodel well leaves l k o h;
  returned = λ l k i. elim i [ ];
  alone = λ o f. inl refl;
  new = λ l i. elim i [ ];
  space = λ l i. elim i [ ];
}

-- a link comes that does not stand there, with its other end
pub fits-one : (m : Contents) → WellFormed m.metamodel → Sound m → (leaves : Link → Bool) (l : Link) → IsKnown m l → (Stands m l → ⊥)
    → ((k : Link) → (l ≡ k) ⊎ Opposed m.metamodel l k → length (stay_at (λ l. list_any leaves (both_ends m.metamodel l)) m k.object k.feature) < room m.metamodel k.feature)
    → Fits (λ l. list_any leaves (both_ends m.metamodel l)) (flat_map (both_ends m.metamodel) (l ∷ [])) m
fits-one m well s leaves l known new space =
    let mm = m.metamodel in
    let each : (k : Link) → In k (ends mm well l) → IsKnown m k = λ k i. ⊎_elim (λ e. subst (IsKnown m) e known) (λ o. other-known m well l k known o) (ends-In mm well l k i) in
    record {
      of_class = λ k i. (each k i).0;
      of_kind = λ k i. (each k i).1;
      mirrored = λ j k o h. ends-mirrored mm well leaves j k o h;
      returned = λ j k i o. ⊎_elim
          (λ e. In-that mm well l k (subst (λ z. Opposed mm z k) (sym e) o))
          (λ q. subst (λ z. In z (ends mm well l)) (opposed-unique mm j l k (opposed-back mm well l j q) o) (In-this mm well l))
          (ends-In mm well l j i);
      alone = alone-ends mm well l;
      new = λ k i t. ⊎_elim (λ e. new (subst (Stands m) (sym e) t)) (λ o. new (s.agree k l t (opposed-back mm well l k o))) (ends-In mm well l k i);
      space = λ k i. space k (ends-In mm well l k i);
    }

-- ---- containment

pub both-same : (a b : Bool) → (a ≡ true → b ≡ true) → (b ≡ true → a ≡ true) → a ≡ b
both-same true b f g = sym (f refl)
both-same false true f g = g refl
both-same false false f g = refl

-- plain links change no containment
pub contains-plain : (m : Contents) → WellFormed m.metamodel → (leaves : Link → Bool) (comes : List Link) → ((l : Link) → leaves l ≡ true → is_plain m.metamodel l.feature ≡ true) → ((l : Link) → In l comes → is_plain m.metamodel l.feature ≡ true)
    → (p f o : ℕ) → contains (change leaves comes m) p f o ≡ contains m p f o
unfolding relink
contains-plain m well leaves comes plain_leaves plain_comes p f o =
    let mm = m.metamodel in
    let ends_leave : Link → Bool = λ l. list_any leaves (both_ends mm l) in
    let held : Link = link p f (Object o) in
    let come : List Link = flat_map (both_ends mm) comes in
    both-same _ _
    (λ h.
    let parts = contains-parts (relink ends_leave come m) p f o h in
    ⊎_elim
    (λ old. contains-from m p f o parts.0 old.0)
    (λ new.
    let r = flat_map-In (both_ends mm) comes held new in
    let plain = plain_comes r.0 r.1 in
    absurd (false≢true (sym (⊎_elim
    (λ e. (plain-parts mm well f (subst (λ (k : Link). is_plain mm k.feature ≡ true) e plain)).0)
    (λ q. plain-other mm well r.0.feature f plain q.features)
    (In-both_ends mm r.0 held r.2)) ∙ parts.0)))
    (relink-Stands ends_leave come m held parts.1))
    (λ h.
    let parts = contains-parts m p f o h in
    let stays : ends_leave held ≡ false = to_false _ (λ t. false≢true (sym (⊎_elim
    (λ e. (plain-parts mm well f (plain_leaves held e)).0)
    (λ w. plain-other mm well w.0.feature f (plain_leaves w.0 w.2) (opposed-back mm well held w.0 w.1).features)
    (ends-cases mm leaves held t)) ∙ parts.0)) in
    contains-from (relink ends_leave come m) p f o parts.0 (relink-stays ends_leave come m held parts.1 stays))

pub within-less : (m n : Contents) → ((p f o : ℕ) → contains n p f o ≡ true → contains m p f o ≡ true) → (p o : ℕ) → Within n p o → Within m p o
within-less m n less p o (directly f h) = directly f (less p f o h)
within-less m n less p o (through {q = q} f w h) = through f (within-less m n less p q w) (less q f o h)

-- the same containment, live objects and roots
pub housed-same : (m n : Contents) → ((p f o : ℕ) → contains n p f o ≡ contains m p f o) → ((o : ℕ) → kind n o ≡ kind m o) → n.roots ≡ m.roots → Housed m → Housed n
housed-same m n same kinds roots h =
    let root : (o : ℕ) → is_root n o ≡ is_root m o = λ o. ap (list_any (λ r. eqb r o)) roots in
    record {
      once = λ o p q f g live a b. h.once o p q f g (subst IsSome (kinds o) live) (sym (same p f o) ∙ a) (sym (same q g o) ∙ b);
      no_ring = λ o w. h.no_ring o (within-less m n (λ p f o c. sym (same p f o) ∙ c) o o w);
      roots = record {
        each_once = ap (λ rs. once rs) roots ∙ h.roots.each_once;
        live = λ o r. subst IsSome (sym (kinds o)) (h.roots.live o (sym (root o) ∙ r));
        uncontained = λ o p f r. same p f o ∙ h.roots.uncontained o p f (sym (root o) ∙ r);
        all = λ o live none. root o ∙ h.roots.all o (subst IsSome (kinds o) live) (λ p f. sym (same p f o) ∙ none p f);
      };
    }
