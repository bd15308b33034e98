-- An object that goes last in a containment slot, and leaves the one that contained it: what a creation and a move share.
use Rattle.std.proofs.Common.{◌≡◌, ◌≢◌, ℕ, ◌<◌, Bool, true, false, not, ◌&&◌, List, [], ◌∷◌, length, Some, None, refl, sym, ap, subst, ◌∙◌, eqb, arith, ◌⊎◌, inl, inr, ⊎_elim, append-nil}
use Rattle.std.proofs.lemmas.Bool.{and_parts, and_from, false≢true, not_from_true, leb-false, eqb-true}
use Rattle.std.specs.Option.{option_map_or}
use Rattle.std.specs.List.{list_any, flat_map}
use Rattle.wb_ecore.specs.declared.features.Feature.{Feature}
use Rattle.wb_ecore.specs.declared.features.Kind.{Kind}
use Rattle.wb_ecore.specs.declared.features.Kind.TheVariants.{Int as IntKind, Bool as BoolKind, Text as TextKind, Enum, Reference}
use Rattle.wb_metamodel.specs.Metamodel.{Metamodel, conforms, feature_at}
use Rattle.wb_metamodel.specs.WellFormed.{WellFormed}
use Rattle.wb_store.specs.declared.scalars.Scalar.{Scalar}
use Rattle.wb_store.specs.declared.scalars.Scalar.TheVariants.{Object}
use Rattle.wb_store.specs.Scalars.{same}
use Rattle.wb_store.specs.ScalarLaws.{same_decides}
use Rattle.wb_store.specs.Contents.{Contents, kind, slot, is_containment, contains}
use Rattle.wb_store.specs.Features.{opposite}
use Rattle.wb_validity.specs.Valid.{room, is_of_class, is_of_kind, is_of_feature}
use Rattle.wb_store.specs.Relinking.{Link, link, relink, both_ends, leads_to}
use Rattle.wb_model.specs.Edits.{is_full, may_contain, refers_to, place}
use Rattle.wb_model.proofs.Comings.{object_value}
use Rattle.wb_model.proofs.Changed.{stay_at, fits-one, sound-relink, relink-Stands, relink-stays, relink-comes}
use Rattle.wb_model.proofs.Ends.{opposite-back, containment-one, Opposed, In-both_ends, ends-this, ends-that, ends-cases}
use Rattle.wb_store.proofs.Filtered.{filter-few, filter-none}
use Rattle.wb_model.proofs.KeptLinks.{one-space}
use Rattle.wb_validity.proofs.LinkLemmas.{to_false}
use Rattle.wb_store.proofs.Members.{In}
use Rattle.wb_store.proofs.Members.In.{here}
use Rattle.wb_store.proofs.Relinked.{kind-relink}
use Rattle.wb_model.proofs.Sound.{Stands, contains-parts, contains-from, Sound}

pub same-object : (x y : ℕ) → Object x ≡ Object y → x ≡ y
same-object x y e = cc

-- the links that come with one
pub In-ends : (mm : Metamodel) (l k : Link) → In k (flat_map (both_ends mm) (l ∷ [])) → (l ≡ k) ⊎ Opposed mm l k
In-ends mm l k m = In-both_ends mm l k (subst (In k) (append-nil (both_ends mm l)) m)

-- ---- what a slot may hold

referred : (m : Contents) (c o : ℕ) (k : Kind) → kind m o ≡ Some c → refers_to m.metamodel c k ≡ true → is_of_kind m k (Object o) ≡ true
referred m c o IntKind e h = absurd (false≢true h)
referred m c o BoolKind e h = absurd (false≢true h)
referred m c o TextKind e h = absurd (false≢true h)
referred m c o (Enum d) e h = absurd (false≢true h)
referred m c o (Reference d) e h = ap (λ r. option_map_or (λ b. conforms m.metamodel b d) r false) e ∙ h

-- a containment feature that may hold objects of a class is of the kind of each
held-of_feature : (m : Contents) (f c o : ℕ) → kind m o ≡ Some c → option_map_or (λ (feature : Feature). refers_to m.metamodel c feature.kind) (feature_at m.metamodel f) false ≡ true → is_of_feature m f (Object o) ≡ true
held-of_feature m f c o e h =
    elim (feature_at m.metamodel f) as (λ r. option_map_or (λ (feature : Feature). refers_to m.metamodel c feature.kind) r false ≡ true → option_map_or (λ (feature : Feature). is_of_kind m feature.kind (Object o)) r false ≡ true) [
      | None ↦ λ h. absurd (false≢true h)
      | Some feature ↦ λ h. referred m c o feature.kind e h
    ] h

pub record MayHold (m : Contents) (p f c : ℕ) : Type 0 where
  pub of_class : is_of_class m p f ≡ true
  pub containment : is_containment m.metamodel f ≡ true
  pub refers : option_map_or (λ (feature : Feature). refers_to m.metamodel c feature.kind) (feature_at m.metamodel f) false ≡ true

pub may-hold : (m : Contents) (p f c : ℕ) → may_contain m p f c ≡ true → MayHold m p f c
may-hold m p f c h =
    let refers = option_map_or (λ (feature : Feature). refers_to m.metamodel c feature.kind) (feature_at m.metamodel f) false in
    let both = and_parts (is_of_class m p f && is_containment m.metamodel f) refers h in
    let first = and_parts (is_of_class m p f) (is_containment m.metamodel f) both.0 in
    record { of_class = first.0; containment = first.1; refers = both.1 }

-- the slot may hold objects of the object's class, has room for it, and has it not
pub record HasPlace (m : Contents) (o p f : ℕ) : Type 0 where
  pub class : ℕ
  pub is_class : kind m o ≡ Some class
  pub holds : MayHold m p f class
  pub new : Stands m (link p f (Object o)) → ⊥
  pub not_full : is_full m p f ≡ false

leads-object : (mm : Metamodel) (o q g x : ℕ) → leads_to mm o (link q g (Object x)) ≡ true → (is_containment mm g ≡ true) × (x ≡ o)
leads-object mm o q g x h =
    let both = and_parts (is_containment mm g) (eqb x o) h in
    (both.0, eqb-true x o both.1)

-- ---- the object in its place

module _ (m : Contents) (well : WellFormed m.metamodel) (s : Sound m) (o p f : ℕ) (has : HasPlace m o p f) where
  abbrev mm : Metamodel
  mm = m.metamodel

  abbrev new_link : Link
  new_link = link p f (Object o)

  abbrev goes : Link → Bool
  goes l = list_any (leads_to mm o) (both_ends mm l)

  abbrev come : List Link
  come = flat_map (both_ends mm) (new_link ∷ [])

  abbrev placed : Contents
  placed = relink goes come m

  -- a container leaves the object's container reference with it
  container-goes : (g : ℕ) (v : Scalar) → opposite mm f ≡ Some g → In v (slot m o g) → goes (link o g v) ≡ true
  container-goes g v e i =
      let back = opposite-back mm well f g e in
      let q = object_value m well g f v back (s.of_kind (link o g v) i) in
      let held : Link = link q.0 f (Object o) in
      let leads : leads_to mm o held ≡ true = and_from (is_containment mm f) (same (Object o) (Object o)) has.holds.containment ((same_decides (Object o) (Object o)).1 refl) in
      ends-that mm (leads_to mm o) (link o g v) held (record { features = back; to = q.1; from = refl }) leads

  free : (k : Link) → (new_link ≡ k) ⊎ Opposed mm new_link k → length (stay_at goes m k.object k.feature) < room mm k.feature
  free k e =
      ⊎_elim
      (λ same. subst (λ (k : Link). length (stay_at goes m k.object k.feature) < room mm k.feature) same
      (let few = filter-few (λ v. not (goes (link p f v))) (slot m p f) in let below = leb-false _ _ has.not_full in omega arith))
      (λ back.
      let at : o ≡ k.object = same-object o k.object back.to in
      subst (λ q. length (stay_at goes m q k.feature) < room mm k.feature) at
      (subst (λ vs. length vs < room mm k.feature)
      (sym (filter-none (λ v. not (goes (link o k.feature v))) (slot m o k.feature) (λ v i. not_from_true _ (container-goes k.feature v back.features i))))
      (one-space mm k.feature)))
      e

  pub placed-sound : Sound (place o p f m)
  placed-sound =
      sound-relink goes come m s
      (fits-one m well s (leads_to mm o) new_link (has.holds.of_class, held-of_feature m f has.class o has.is_class has.holds.refers) has.new free)

  pub placed-only : (q g x : ℕ) → contains (place o p f m) q g x ≡ true → ((contains m q g x ≡ true) × (x ≢ o)) ⊎ ((q ≡ p) × (g ≡ f) × (x ≡ o))
  unfolding relink
  placed-only q g x c =
      let parts = contains-parts placed q g x c in
      let held : Link = link q g (Object x) in
      ⊎_elim
      (λ old. inl (
        contains-from m q g x parts.0 old.0,
        (λ e.
            let leads : leads_to mm o held ≡ true = and_from (is_containment mm g) (same (Object x) (Object o)) parts.0 ((same_decides (Object x) (Object o)).1 (ap Object e)) in
            false≢true (sym old.1 ∙ ends-this mm (leads_to mm o) held leads)),
      ))
      (λ come. ⊎_elim
      (λ e. inr (ap (λ (k : Link). k.object) (sym e), ap (λ (k : Link). k.feature) (sym e), same-object x o (ap (λ (k : Link). k.value) (sym e))))
      (λ back. absurd (false≢true (sym (containment-one mm well f g back.features has.holds.containment) ∙ parts.0)))
      (In-ends mm new_link held come))
      (relink-Stands goes come m held parts.1)

  other-stays : (q g x : ℕ) → is_containment mm g ≡ true → x ≢ o → goes (link q g (Object x)) ≡ false
  other-stays q g x c n = to_false _ (λ t.
      ⊎_elim
      (λ e. n (leads-object mm o q g x e).1)
      (λ w. false≢true (sym (containment-one mm well g w.0.feature w.1.features c) ∙ (and_parts _ _ w.2).0))
      (ends-cases mm (leads_to mm o) (link q g (Object x)) t))

  pub placed-stays : (q g x : ℕ) → contains m q g x ≡ true → x ≢ o → contains (place o p f m) q g x ≡ true
  unfolding relink
  placed-stays q g x c n =
      let parts = contains-parts m q g x c in
      contains-from placed q g x parts.0 (relink-stays goes come m (link q g (Object x)) parts.1 (other-stays q g x parts.0 n))

  pub placed-there : contains (place o p f m) p f o ≡ true
  unfolding relink
  placed-there = contains-from placed p f o has.holds.containment (relink-comes goes come m new_link here)

-- no object comes to be live, or goes
pub placed-kind : (m : Contents) (o p f x : ℕ) → kind (place o p f m) x ≡ kind m x
placed-kind m o p f x = kind-relink (λ l. list_any (leads_to m.metamodel o) (both_ends m.metamodel l)) (flat_map (both_ends m.metamodel) (link p f (Object o) ∷ [])) m x
