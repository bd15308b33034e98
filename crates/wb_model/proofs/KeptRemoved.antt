-- A removal keeps a model valid.
use Rattle.std.proofs.Common.{◌≡◌, ℕ, ◌≤◌, true, false, not, List, [], ◌∷◌, Some, None, refl, sym, ap, subst, ◌∙◌, cond, arith, inl, ⊎_elim}
use Rattle.std.proofs.lemmas.Bool.{false≢true, not-true, not_from_false, or_left, or_right, or_cases, or_parts, cases_Bool}
use Rattle.std.proofs.lemmas.Option.{none-some}
use Rattle.std.specs.Prelude.{filter, IsSome, Ok}
use Rattle.std.specs.FinMap.{entries, len, len-entries}
use Rattle.wb_metamodel.specs.Metamodel.{Metamodel}
use Rattle.wb_metamodel.specs.WellFormed.{WellFormed}
use Rattle.wb_store.specs.declared.scalars.Scalar.TheVariants.{Object}
use Rattle.wb_model.specs.declared.refusals.ModelRefusal.TheVariants.{UnknownObject}
use Rattle.wb_store.specs.Scalars.{same}
use Rattle.wb_store.specs.ScalarLaws.{same_decides}
use Rattle.wb_store.specs.Contents.{Contents, kind, contains}
use Rattle.wb_store.specs.Cells.{tree}
use Rattle.wb_validity.specs.Valid.{is_of_class, is_of_feature, Within, RootsAreUncontained, IsValid}
use Rattle.wb_validity.specs.Valid.Within.{directly, through}
use Rattle.wb_store.specs.Relinking.{Link, link, relink, is_among, is_value_among, touches, without}
use Rattle.wb_model.specs.Edits.{is_live, removed, remove}
use Rattle.wb_model.proofs.Changed.{Fits, sound-relink, relink-Stands, relink-stays, within-less}
use Rattle.wb_model.proofs.Ends.{Opposed}
use Rattle.wb_model.proofs.FewerRoots.{among-filter, filter-among, once-filter}
use Rattle.wb_store.proofs.Filtered.{In-cons, filter-few}
use Rattle.wb_model.proofs.Placing.{same-object}
use Rattle.wb_model.proofs.KeptLinks.{accepted, sound, housed, valid}
use Rattle.wb_validity.proofs.LinkLemmas.{any_found, to_false}
use Rattle.wb_model.proofs.Live.{kind-some, some-kind, contained-live, of_class-kept, of_feature-kept}
use Rattle.wb_store.proofs.Maps.{len-from_entries}
use Rattle.wb_store.proofs.Members.{In, any_In}
use Rattle.wb_store.proofs.Members.In.{there}
use Rattle.wb_store.proofs.Without.{kind-without}
use Rattle.wb_model.proofs.Sound.{Stands, contains-parts, contains-from, Sound, Housed}
use Rattle.wb_model.proofs.TreesWithin.{tree-within, within-tree, among-In, In-among}

-- ---- values among objects

pub among-value : (os : List ℕ) (p : ℕ) → is_among os p ≡ true → is_value_among os (Object p) ≡ true
among-value os p h = any_In (λ q. same (Object p) (Object q)) os p (among-In os p h) ((same_decides (Object p) (Object p)).1 refl)

pub value-among : (os : List ℕ) (p : ℕ) → is_value_among os (Object p) ≡ true → is_among os p ≡ true
value-among os p h =
    let r = any_found (λ q. same (Object p) (Object q)) os h in
    In-among os p (subst (λ z. In z os) (sym (same-object p r.0 ((same_decides (Object p) (Object r.0)).0 r.2))) r.1)

-- what touches one end of a link touches the other
touches-back : (dead : List ℕ) (mm : Metamodel) (l k : Link) → Opposed mm l k → touches dead k ≡ true → touches dead l ≡ true
touches-back dead mm l k o h =
    ⊎_elim
    (λ a. or_right (is_among dead l.object) _ (ap (is_value_among dead) o.to ∙ among-value dead k.object a))
    (λ b. or_left _ _ (value-among dead l.object (ap (is_value_among dead) (sym o.from) ∙ b)))
    (or_cases (is_among dead k.object) _ h)

-- ---- fewer objects

module _ (m : Contents) (dead : List ℕ) where
  abbrev left : Contents
  left = without dead m

  abbrev stay_entries : List (ℕ × ℕ)
  stay_entries = filter (λ (e : ℕ × ℕ). not (is_among dead e.0)) (entries m.kinds)

  pub kind-stays : (x : ℕ) → is_among dead x ≡ false → kind left x ≡ kind m x
  kind-stays x h = kind-without m dead x ∙ ap (λ b. cond (not b) (kind m x) None) h

  -- what is live was live, and does not die
  kind-was : (x c : ℕ) → kind left x ≡ Some c → (kind m x ≡ Some c) × (is_among dead x ≡ false)
  kind-was x c e =
      ⊎_elim
      (λ t. absurd (none-some c (sym (kind-without m dead x ∙ ap (λ b. cond (not b) (kind m x) None) t) ∙ e)))
      (λ n. (sym (kind-stays x n) ∙ e, n))
      (cases_Bool (is_among dead x))

  few-left : len m.kinds ≤ 20000 → len left.kinds ≤ 20000
  few-left h =
      let few = len-from_entries stay_entries in
      let fewer = filter-few (λ (e : ℕ × ℕ). not (is_among dead e.0)) (entries m.kinds) in
      let all = len-entries m.kinds in
      omega (arith, few, fewer, all)

  module _ (well : WellFormed m.metamodel) (s : Sound m) where
    fits : Fits (touches dead) [] m
    fits = record {
      of_class = λ l i. elim i [ ];
      of_kind = λ l i. elim i [ ];
      mirrored = λ l k o h. touches-back dead m.metamodel l k o h;
      returned = λ l k i. elim i [ ];
      alone = λ o f. inl refl;
      new = λ l i. elim i [ ];
      space = λ l i. elim i [ ];
    }

    -- a link stands where it stood and touches none of the objects
    stood : (l : Link) → Stands left l → Stands m l × (touches dead l ≡ false)
    stood l i = ⊎_elim (λ old. old) (λ new. elim new [ ]) (relink-Stands (touches dead) [] m l i)

    untouched : (l : Link) → touches dead l ≡ false → (is_among dead l.object ≡ false) × (is_value_among dead l.value ≡ false)
    untouched l h = or_parts (is_among dead l.object) (is_value_among dead l.value) h

    sound-links : Sound (relink (touches dead) [] m)
    sound-links = sound-relink (touches dead) [] m s fits

    of_class-left : (l : Link) → Stands left l → is_of_class left l.object l.feature ≡ true
    unfolding relink
    of_class-left l i =
        let was = stood l i in
        of_class-kept m m.next left.kinds left.slots left.roots l.object l.feature (λ c e. kind-stays l.object (untouched l was.1).0 ∙ e) (s.of_class l was.0)

    of_kind-left : (l : Link) → Stands left l → is_of_feature left l.feature l.value ≡ true
    unfolding relink
    of_kind-left l i =
        let was = stood l i in
        of_feature-kept m m.next left.kinds left.slots left.roots l.feature l.value
        (λ p d e k.
        kind-stays p (to_false _ (λ t. false≢true (sym (untouched l was.1).1 ∙ ap (is_value_among dead) e ∙ among-value dead p t))) ∙ k)
        (s.of_kind l was.0)

    pub sound-left : Sound left
    unfolding relink
    sound-left = record {
      next_spent = s.next_spent;
      numbers = λ o c e. s.numbers o c (kind-was o c e).0;
      concrete = λ o c e. s.concrete o c (kind-was o c e).0;
      of_class = of_class-left;
      has_room = sound-links.has_room;
      of_kind = of_kind-left;
      values_differ = sound-links.values_differ;
      agree = sound-links.agree;
      few = few-left s.few;
    }

    -- ---- containment

    contained : (p f o : ℕ) → contains left p f o ≡ true → contains m p f o ≡ true
    unfolding relink
    contained p f o c =
        let parts = contains-parts left p f o c in
        contains-from m p f o parts.0 (stood (link p f (Object o)) parts.1).0

    still : (p f o : ℕ) → contains m p f o ≡ true → touches dead (link p f (Object o)) ≡ false → contains left p f o ≡ true
    unfolding relink
    still p f o c h =
        let parts = contains-parts m p f o c in
        contains-from left p f o parts.0 (relink-stays (touches dead) [] m (link p f (Object o)) parts.1 h)

    -- what an object of these contains is one of them
    abbrev IsClosed : Type 0
    IsClosed = (p f o : ℕ) → is_among dead p ≡ true → contains m p f o ≡ true → is_among dead o ≡ true

    module _ (closed : IsClosed) (h : Housed m) where
      alone : (o : ℕ) → is_among dead o ≡ false → ((p f : ℕ) → contains left p f o ≡ false) → (p f : ℕ) → contains m p f o ≡ false
      alone o n none p f = to_false _ (λ c.
          let apart : touches dead (link p f (Object o)) ≡ false = to_false _ (λ t.
          ⊎_elim
          (λ a. false≢true (sym n ∙ closed p f o a c))
          (λ b. false≢true (sym n ∙ value-among dead o b))
          (or_cases (is_among dead p) _ t)) in
          false≢true (sym (none p f) ∙ still p f o c apart))

      roots-left : RootsAreUncontained left
      roots-left = record {
        each_once = once-filter (λ root. not (is_among dead root)) m.roots h.roots.each_once;
        live = λ o r.
            let both = among-filter (λ root. not (is_among dead root)) m.roots o r in
            subst IsSome (sym (kind-stays o (not-true _ both.1))) (h.roots.live o both.0);
        uncontained = λ o p f r. to_false _ (λ c. false≢true (sym (h.roots.uncontained o p f (among-filter (λ root. not (is_among dead root)) m.roots o r).0) ∙ contained p f o c));
        all = λ o live none.
            let c = kind-some left o live in
            let was = kind-was o c.0 c.1 in
            filter-among (λ root. not (is_among dead root)) m.roots o (h.roots.all o (some-kind m o c.0 was.0) (alone o was.1 none)) (not_from_false _ was.1);
      }

      pub housed-left : Housed left
      housed-left = record {
        once = λ o p q f g live a b. h.once o p q f g (contained-live m s p f o (contained p f o a)) (contained p f o a) (contained q g o b);
        no_ring = λ o w. h.no_ring o (within-less m left contained o o w);
        roots = roots-left;
      }

-- an object and all that it contains
pub tree-closed : (m : Contents) → Sound m → Housed m → (o : ℕ) → (p f q : ℕ) → is_among (o ∷ tree m o) p ≡ true → contains m p f q ≡ true → is_among (o ∷ tree m o) q ≡ true
tree-closed m s h o p f q a c =
    let down : Within m o q = ⊎_elim
    (λ e. directly f (subst (λ z. contains m z f q ≡ true) (sym e) c))
    (λ i. through f (tree-within m o p i) c)
    (In-cons o (tree m o) p (among-In (o ∷ tree m o) p a)) in
    In-among (o ∷ tree m o) q (there (within-tree m s h.no_ring o q down))

removed-valid : (m : Contents) → WellFormed m.metamodel → IsValid m → (o : ℕ) → IsValid (removed o m)
removed-valid m well v o =
    let s = sound m v in
    let h = housed m v in
    let dead = o ∷ tree m o in
    valid (removed o m) (sound-left m dead well s) (housed-left m dead well s (tree-closed m s h o) h)

pub kept_remove : (m n : Contents) (o : ℕ) → WellFormed m.metamodel → IsValid m → remove m o ≡ Ok n → IsValid n
kept_remove m n o well v h =
    let a = accepted (cond (is_live m o) None (Some UnknownObject)) (removed o m) n h in
    subst IsValid a.1 (removed-valid m well v o)
