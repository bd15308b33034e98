-- A new object keeps a model valid.
use Rattle.std.proofs.Common.{◌≡◌, ◌≢◌, ℕ, ◌+◌, ◌<◌, ◌≤◌, ◌^◌, suc, Bool, true, false, not, ◌&&◌, List, [], ◌∷◌, ◌++◌, Some, None, refl, sym, ap, subst, ◌∙◌, cond, eqb, ltb, leb, arith, ◌⊎◌, inl, inr, ⊎_elim}
use Rattle.std.proofs.lemmas.Bool.{and_parts, and_from, false≢true, not-false, not-true, not_from_false, leb-false, eqb-true, eq-eqb, ne_eqb, lt-ltb, or_left, or_right, or_cases, ltb-true}
use Rattle.std.proofs.lemmas.Cmp.{nat_cmp_total}
use Rattle.std.proofs.lemmas.Option.{same_Some}
use Rattle.std.proofs.lemmas.List.Folds.{list_any-append}
use Rattle.std.specs.Prelude.{IsSome, Ok}
use Rattle.std.specs.List.{list_any}
use Rattle.std.specs.FinMap.{len, get-insert, len-insert, contains_key}
use Rattle.wb_metamodel.specs.WellFormed.{WellFormed}
use Rattle.wb_store.specs.declared.scalars.Scalar.TheVariants.{Object}
use Rattle.wb_store.specs.declared.scalars.Place.{Place}
use Rattle.wb_store.specs.declared.scalars.Place.TheVariants.{Root, In as Inside}
use Rattle.wb_model.specs.declared.refusals.ModelRefusal.{ModelRefusal}
use Rattle.wb_model.specs.declared.refusals.ModelRefusal.TheVariants.{UnknownObject, KindMismatch, UpperBound, AbstractClass, TooManyObjects, IdsSpent}
use Rattle.wb_store.specs.Contents.{Contents, kind, slot, contains}
use Rattle.wb_store.specs.Places.{once}
use Rattle.wb_validity.specs.Valid.{is_abstract, is_root, RootsAreUncontained, IsValid}
use Rattle.wb_store.specs.Relinking.{link, relink}
use Rattle.wb_model.specs.Edits.{place, with_object, created, first_refusal, is_live, may_contain, is_full, refusal_of_create, create}
use Rattle.wb_model.proofs.Changed.{within-less}
use Rattle.wb_store.proofs.Found.{is_itself}
use Rattle.wb_store.proofs.HolderLemmas.{decide}
use Rattle.wb_model.proofs.KeptLinks.{not_refused, accepted, sound, housed, valid}
use Rattle.wb_validity.proofs.LinkLemmas.{to_false}
use Rattle.wb_model.proofs.Live.{kind-some, some-kind, value-live, holder-live, contained-live, live-below, of_class-kept, of_feature-kept}
use Rattle.wb_store.proofs.Members.{In}
use Rattle.wb_model.proofs.Placing.{may-hold, HasPlace, placed-sound, placed-only, placed-stays, placed-there, placed-kind}
use Rattle.wb_model.proofs.Rehoused.{IsRehoused, housed-rehoused, within-first}
use Rattle.wb_model.proofs.Sound.{Sound, Housed}
use Rattle.wb_store.proofs.Maps.{tied}

-- ---- what an accepted edit says

pub record MayCreate (m : Contents) (class : ℕ) : Type 0 where
  pub concrete : is_abstract m.metamodel class ≡ false
  pub few : leb 20000 (len m.kinds) ≡ false
  pub next : leb (2 ^ 32) (suc m.next) ≡ false

abbrev limits : Contents → ℕ → List (Bool × ModelRefusal)
limits m class = (is_abstract m.metamodel class, AbstractClass) ∷ (leb 20000 (len m.kinds), TooManyObjects) ∷ (leb (2 ^ 32) (suc m.next), IdsSpent) ∷ []

pub may-create : (m : Contents) (class : ℕ) → first_refusal (limits m class) ≡ None → MayCreate m class
may-create m class h =
    let a = not_refused (is_abstract m.metamodel class) AbstractClass ((leb 20000 (len m.kinds), TooManyObjects) ∷ (leb (2 ^ 32) (suc m.next), IdsSpent) ∷ []) h in
    let b = not_refused (leb 20000 (len m.kinds)) TooManyObjects ((leb (2 ^ 32) (suc m.next), IdsSpent) ∷ []) a.1 in
    let c = not_refused (leb (2 ^ 32) (suc m.next)) IdsSpent [] b.1 in
    record { concrete = a.0; few = b.0; next = c.0 }

pub record MayPlace (m : Contents) (class p f : ℕ) : Type 0 where
  pub live : is_live m p ≡ true
  pub sort : may_contain m p f class ≡ true
  pub space : is_full m p f ≡ false

pub may-place : (m : Contents) (class p f : ℕ) → refusal_of_create m class (Inside p f) ≡ None → MayPlace m class p f × MayCreate m class
may-place m class p f h =
    let a = not_refused (not (is_live m p)) UnknownObject ((not (may_contain m p f class), KindMismatch) ∷ (is_full m p f, UpperBound) ∷ limits m class) h in
    let b = not_refused (not (may_contain m p f class)) KindMismatch ((is_full m p f, UpperBound) ∷ limits m class) a.1 in
    let c = not_refused (is_full m p f) UpperBound (limits m class) b.1 in
    (record { live = not-false _ a.0; sort = not-false _ b.0; space = c.0 }, may-create m class c.1)

-- ---- one more object

module _ (m : Contents) (class : ℕ) (roots : List ℕ) where
  abbrev grown : Contents
  grown = with_object class roots m

  pub kind-grown : (o : ℕ) → kind grown o ≡ cond (eqb o m.next) (Some class) (kind m o)
  kind-grown o = get-insert nat_cmp_total m.kinds m.next class o ∙ ap (λ b. cond b (Some class) (kind m o)) (tied o m.next)

  pub kind-new : kind grown m.next ≡ Some class
  kind-new = kind-grown m.next ∙ ap (λ b. cond b (Some class) (kind m m.next)) (is_itself m.next)

  pub kind-other : (o : ℕ) → o ≢ m.next → kind grown o ≡ kind m o
  kind-other o n = kind-grown o ∙ ap (λ b. cond b (Some class) (kind m o)) (ne_eqb o m.next n)

  module _ (s : Sound m) where
    next-dead : ¬ (IsSome (kind m m.next))
    next-dead live = let l = live-below m s m.next live in absurd (omega (arith, l))

    not-next : (o : ℕ) → IsSome (kind m o) → o ≢ m.next
    not-next o live e = next-dead (subst (λ z. IsSome (kind m z)) e live)

    kind-kept : (o c : ℕ) → kind m o ≡ Some c → kind grown o ≡ Some c
    kind-kept o c e = kind-other o (not-next o (some-kind m o c e)) ∙ e

    lives : (o : ℕ) → IsSome (kind m o) → IsSome (kind grown o)
    lives o live = let c = kind-some m o live in some-kind grown o c.0 (kind-kept o c.0 c.1)

    was-live : (o : ℕ) → IsSome (kind grown o) → o ≢ m.next → IsSome (kind m o)
    was-live o live n = subst IsSome (kind-other o n) live

    -- an object of the new model is the new one, or was there
    kind-cases : (o c : ℕ) → kind grown o ≡ Some c → ((o ≡ m.next) × (c ≡ class)) ⊎ (kind m o ≡ Some c)
    kind-cases o c e =
        ⊎_elim
        (λ n. inl (n, same_Some c class (sym e ∙ subst (λ z. kind grown z ≡ Some class) (sym n) kind-new)))
        (λ n. inr (sym (kind-other o n) ∙ e))
        (decide o m.next)

    first-spent : ltb 0 m.next ≡ true
    first-spent = (and_parts (ltb 0 m.next) (ltb m.next (2 ^ 32)) s.next_spent).0

    below-more : (o : ℕ) → ltb o m.next ≡ true → ltb o (suc m.next) ≡ true
    below-more o h = let l = ltb-true _ _ h in lt-ltb _ _ (omega arith)

    module _ (may : MayCreate m class) where
      numbers-grown : (o c : ℕ) → kind grown o ≡ Some c → (ltb 0 o && ltb o (suc m.next)) ≡ true
      numbers-grown o c e =
          ⊎_elim
          (λ new. subst (λ z. (ltb 0 z && ltb z (suc m.next)) ≡ true) (sym new.0) (and_from _ _ first-spent (lt-ltb m.next (suc m.next) (omega arith))))
          (λ old. let both = and_parts (ltb 0 o) (ltb o m.next) (s.numbers o c old) in and_from _ _ both.0 (below-more o both.1))
          (kind-cases o c e)

      concrete-grown : (o c : ℕ) → kind grown o ≡ Some c → not (is_abstract m.metamodel c) ≡ true
      concrete-grown o c e =
          ⊎_elim
          (λ new. subst (λ z. not (is_abstract m.metamodel z) ≡ true) (sym new.1) (not_from_false _ may.concrete))
          (λ old. s.concrete o c old)
          (kind-cases o c e)

      more-few : (b : Bool) (n : ℕ) → n < 20000 → cond b n (n + 1) ≤ 20000
      more-few true n h = omega arith
      more-few false n h = omega arith

      few-grown : len grown.kinds ≤ 20000
      few-grown = subst (λ n. n ≤ 20000) (sym (len-insert nat_cmp_total m.kinds m.next class)) (more-few (contains_key m.kinds m.next) (len m.kinds) (leb-false _ _ may.few))

      pub sound-grown : Sound grown
      sound-grown = record {
        next_spent = and_from (ltb 0 (suc m.next)) (ltb (suc m.next) (2 ^ 32)) (lt-ltb 0 (suc m.next) (omega arith)) (lt-ltb (suc m.next) (2 ^ 32) (leb-false _ _ may.next));
        numbers = numbers-grown;
        concrete = concrete-grown;
        of_class = λ l i. of_class-kept m (suc m.next) grown.kinds m.slots roots l.object l.feature (λ c e. kind-kept l.object c e) (s.of_class l i);
        has_room = s.has_room;
        of_kind = λ l i. of_feature-kept m (suc m.next) grown.kinds m.slots roots l.feature l.value (λ p d e k. kind-kept p d k) (s.of_kind l i);
        values_differ = s.values_differ;
        agree = s.agree;
        few = few-grown;
      }

-- ---- among the roots

once-push : (os : List ℕ) (o : ℕ) → once os ≡ true → list_any (λ r. eqb r o) os ≡ false → once (os ++ o ∷ []) ≡ true
once-push [] o h n = refl
once-push (p ∷ os) o h n =
    let both = and_parts (not (list_any (λ r. eqb r p) os)) (once os) h in
    let apart : eqb p o ≡ false = to_false _ (λ t. false≢true (sym n ∙ or_left _ _ t)) in
    let rest : list_any (λ r. eqb r o) os ≡ false = to_false _ (λ t. false≢true (sym n ∙ or_right (eqb p o) _ t)) in
    let first : list_any (λ r. eqb r p) (os ++ o ∷ []) ≡ false = to_false _ (λ t.
    ⊎_elim
    (λ a. false≢true (sym (not-true _ both.0) ∙ a))
    (λ b. ⊎_elim (λ e. false≢true (sym apart ∙ eq-eqb p o (sym (eqb-true o p e)))) (λ n. false≢true n) (or_cases (eqb o p) false b))
    (or_cases (list_any (λ r. eqb r p) os) _ (sym (list_any-append (λ r. eqb r p) os (o ∷ [])) ∙ t))) in
    and_from _ _ (not_from_false _ first) (once-push os o both.1 rest)

module _ (m : Contents) (class : ℕ) (s : Sound m) (h : Housed m) where
  abbrev rooted : Contents
  rooted = with_object class (m.roots ++ m.next ∷ []) m

  root-cases : (o : ℕ) → is_root rooted o ≡ true → (is_root m o ≡ true) ⊎ (o ≡ m.next)
  root-cases o r =
      ⊎_elim
      (λ a. inl a)
      (λ b. ⊎_elim (λ e. inr (sym (eqb-true m.next o e))) (λ n. absurd (false≢true n)) (or_cases (eqb m.next o) false b))
      (or_cases (is_root m o) _ (sym (list_any-append (λ r. eqb r o) m.roots (m.next ∷ [])) ∙ r))

  root-old : (o : ℕ) → is_root m o ≡ true → is_root rooted o ≡ true
  root-old o r = list_any-append (λ r. eqb r o) m.roots (m.next ∷ []) ∙ or_left _ _ r

  root-new : is_root rooted m.next ≡ true
  root-new = list_any-append (λ r. eqb r m.next) m.roots (m.next ∷ []) ∙ or_right (is_root m m.next) _ (or_left _ _ (is_itself m.next))

  roots-rooted : RootsAreUncontained rooted
  roots-rooted = record {
    each_once = once-push m.roots m.next h.roots.each_once (to_false _ (λ t. next-dead m class m.roots s (h.roots.live m.next t)));
    live = λ o r. ⊎_elim (λ old. lives m class (m.roots ++ m.next ∷ []) s o (h.roots.live o old)) (λ new. subst (λ z. IsSome (kind rooted z)) (sym new) (some-kind rooted m.next class (kind-new m class (m.roots ++ m.next ∷ [])))) (root-cases o r);
    uncontained = λ o p f r. ⊎_elim (λ old. h.roots.uncontained o p f old) (λ new. to_false _ (λ c. next-dead m class m.roots s (contained-live m s p f m.next (subst (λ z. contains m p f z ≡ true) new c)))) (root-cases o r);
    all = λ o live none. ⊎_elim
        (λ e. subst (λ z. is_root rooted z ≡ true) (sym e) root-new)
        (λ n. root-old o (h.roots.all o (was-live m class (m.roots ++ m.next ∷ []) s o live n) none))
        (decide o m.next);
  }

  housed-rooted : Housed rooted
  housed-rooted = record {
    once = λ o p q f g live a b. h.once o p q f g (contained-live m s p f o a) a b;
    no_ring = λ o w. h.no_ring o (within-less m rooted (λ p f x c. c) o o w);
    roots = roots-rooted;
  }

-- ---- in a containment slot

module _ (m : Contents) (well : WellFormed m.metamodel) (s : Sound m) (h : Housed m) (class p f : ℕ) (may : MayCreate m class) (place_is : MayPlace m class p f) where
  abbrev wider : Contents
  wider = with_object class m.roots m

  -- the new object stands nowhere
  stands-nowhere : (q g : ℕ) → In (Object m.next) (slot m q g) → ⊥
  stands-nowhere q g i = next-dead m class m.roots s (value-live m s (link q g (Object m.next)) m.next i refl)

  has : HasPlace wider m.next p f
  has =
      let holds = may-hold m p f class place_is.sort in
      record {
        class = class;
        is_class = kind-new m class m.roots;
        holds = record {
          of_class = of_class-kept m (suc m.next) wider.kinds m.slots m.roots p f (λ c e. kind-kept m class m.roots s p c e) holds.of_class;
          containment = holds.containment;
          refers = holds.refers;
        };
        new = λ i. stands-nowhere p f i;
        not_full = place_is.space;
      }

  sound-wider : Sound wider
  sound-wider = sound-grown m class m.roots s may

  pub is_placed : contains (place m.next p f wider) p f m.next ≡ true
  is_placed = placed-there wider well sound-wider m.next p f has

  rehoused : IsRehoused m (place m.next p f wider) p f m.next
  unfolding relink
  rehoused = record {
    only = placed-only wider well sound-wider m.next p f has;
    stays = placed-stays wider well sound-wider m.next p f has;
    placed = is_placed;
    live = λ x live n. was-live m class m.roots s x (subst IsSome (placed-kind wider m.next p f x) live) n;
    lives = λ x live. subst IsSome (sym (placed-kind wider m.next p f x)) (lives m class m.roots s x live);
    apart = λ e. not-next m class m.roots s p place_is.live e;
    not_within = λ w. let first = within-first m m.next p w in next-dead m class m.roots s (holder-live m s m.next first.0 first.1 first.2);
    roots_once = h.roots.each_once;
    root = λ x r. (r, not-next m class m.roots s x (h.roots.live x r));
    roots = λ x r n. r;
  }

  placed-valid : IsValid (created class (Inside p f) m)
  placed-valid = valid (place m.next p f wider) (placed-sound wider well sound-wider m.next p f has) (housed-rehoused m (place m.next p f wider) p f m.next rehoused h)

created-valid : (m : Contents) → WellFormed m.metamodel → IsValid m → (class : ℕ) (place : Place) → refusal_of_create m class place ≡ None → IsValid (created class place m)
created-valid m well v class Root e =
    let may = may-create m class e in
    valid (rooted m class (sound m v) (housed m v)) (sound-grown m class (m.roots ++ m.next ∷ []) (sound m v) may) (housed-rooted m class (sound m v) (housed m v))
created-valid m well v class (Inside p f) e =
    let may = may-place m class p f e in
    placed-valid m well (sound m v) (housed m v) class p f may.1 may.0

pub kept_create : (m n : Contents) (class : ℕ) (place : Place) → WellFormed m.metamodel → IsValid m → create m class place ≡ Ok n → IsValid n
kept_create m n class place well v h =
    let a = accepted (refusal_of_create m class place) (created class place m) n h in
    subst IsValid a.1 (created-valid m well v class place a.0)
