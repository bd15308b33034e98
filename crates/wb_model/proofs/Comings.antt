-- The steps of the code are the edits: links that leave at both ends, and a link that comes before what gives way leaves.
use Rattle.std.proofs.Common.{◌≡◌, ℕ, ◌<◌, ◌≤◌, Bool, true, false, not, ◌&&◌, ◌||◌, List, [], ◌∷◌, ◌++◌, length, Option, Some, None, refl, sym, ap, subst, ◌∙◌, cond, arith, ◌⊎◌, inl, inr, ⊎_elim, append-nil}
use Rattle.std.proofs.lemmas.Bool.{false≢true}
use Rattle.std.specs.Prelude.{filter, IsSome}
use Rattle.std.specs.Option.{option_map_or}
use Rattle.std.specs.List.{list_any, flat_map}
use Rattle.wb_metamodel.specs.Metamodel.{Metamodel}
use Rattle.wb_ecore.specs.declared.features.Feature.{Feature}
use Rattle.wb_ecore.specs.declared.features.Kind.TheVariants.{Reference}
use Rattle.wb_metamodel.specs.WellFormed.{WellFormed}
use Rattle.wb_store.specs.declared.scalars.Scalar.{Scalar}
use Rattle.wb_store.specs.declared.scalars.Scalar.TheVariants.{Int, Bool as Boolean, Text, Literal, Object}
use Rattle.wb_store.specs.Contents.{Contents, slot, kind}
use Rattle.wb_store.specs.Features.{is_many, opposite}
use Rattle.wb_validity.specs.Valid.{is_of_feature, is_of_kind}
use Rattle.wb_store.specs.Relinking.{Link, link, relink, other_end, both_ends, change, is_at, same_link, stands, gives_way}
use Rattle.wb_model.specs.Edits.{unlink, emptied, link_up}
use Rattle.wb_store.specs.LinkSteps.{with_link, with_only, without_link, each_left, with_ends, is_given, first_object, gives_place}
use Rattle.wb_model.proofs.Changed.{both-same}
use Rattle.wb_model.proofs.Ends.{Opposed, Opposites, opposites, other_end-is, other_end-In, other_end-cases, In-both_ends, opposed-unique, opposed-back}
use Rattle.wb_model.proofs.EditSteps.{relink-relink, relink-agree, unlink-alone, unlink-both, same_link-is, same_link-itself, linked-alone, emptied-alone, way-both, clears, come-alone, come-both}
use Rattle.wb_validity.proofs.LinkLemmas.{any_found, to_false}
use Rattle.wb_store.proofs.Members.{In, any_In}
use Rattle.wb_store.proofs.Members.In.{here, there}
use Rattle.wb_store.proofs.Relinked.{values_at, is_at-link, is_at-itself, kind-relink, metamodel-relink, none-any}
use Rattle.wb_model.proofs.Sound.{Stands, Sound, absent}
use Rattle.wb_store.proofs.Relinks.{relink_none}

-- ---- what a step leaves as it is

pub metamodel-left : (ls : List Link) (m : Contents) → (each_left ls m).metamodel ≡ m.metamodel
metamodel-left [] m = refl
metamodel-left (l ∷ ls) m = metamodel-left ls (without_link l m) ∙ metamodel-relink (same_link l) [] m

pub left-append : (ls ks : List Link) (m : Contents) → each_left (ls ++ ks) m ≡ each_left ks (each_left ls m)
left-append [] ks m = refl
left-append (l ∷ ls) ks m = left-append ls ks (without_link l m)

-- ---- links that leave

-- a link leaves, and then its other end, if it has one
pub unlink_steps : (m : Contents) → WellFormed m.metamodel → (l : Link) → each_left (other_end m.metamodel l) (without_link l m) ≡ unlink l m
unlink_steps m well l =
    ⊎_elim
    (λ none. ap (λ ks. each_left ks (without_link l m)) none ∙ sym (unlink-alone m well l none))
    (λ other. ap (λ ks. each_left ks (without_link l m)) other.2 ∙ sym (unlink-both m well l other.0 other.1))
    (other_end-cases m.metamodel l)

-- ---- a link that comes, and then what leaves

filter_keep : (b : Link → Bool) (ls : List Link) → ((j : Link) → In j ls → b j ≡ false) → filter (λ l. not (b l)) ls ≡ ls
filter_keep b [] h = refl
filter_keep b (l ∷ ls) h = ap (λ t. cond (not t) (l ∷ filter (λ l. not (b l)) ls) (filter (λ l. not (b l)) ls)) (h l here) ∙ ap (λ ks. l ∷ ks) (filter_keep b ls (λ j i. h j (there i)))

-- what leaves then is what gives way at once, where it is none of what came
pub come_then : (m : Contents) (b leaves : Link → Bool) (l : Link) → ((j : Link) → Stands m j → list_any leaves (both_ends m.metamodel j) ≡ b j) → ((j : Link) → In j (both_ends m.metamodel l) → b j ≡ false)
    → relink b [] (with_ends l m) ≡ change leaves (l ∷ []) m
come_then m b leaves l same keep =
    let mm = m.metamodel in
    let comes : List Link = flat_map (both_ends mm) (l ∷ []) in
    let own : (j : Link) → In j comes → b j ≡ false = λ j i. keep j (subst (In j) (append-nil (both_ends mm l)) i) in
    relink-relink (λ j. list_any (λ k. false) (both_ends mm j)) b comes [] m
    ∙ relink-agree (λ j. list_any (λ k. false) (both_ends mm j) || b j) (λ j. list_any leaves (both_ends mm j)) (filter (λ k. not (b k)) comes ++ []) comes m
    (λ j st. ap (λ x. x || b j) (none-any (both_ends mm j)) ∙ sym (same j st))
    (λ o f. ap (values_at o f) (append-nil (filter (λ k. not (b k)) comes) ∙ filter_keep b comes own))

-- a link that comes and leaves again
pub put_drop : (m : Contents) (l : Link) → stands m l ≡ false → without_link l (with_link l m) ≡ m
put_drop m l fresh =
    relink-relink (λ j. false) (same_link l) (l ∷ []) [] m
    ∙ relink-agree (λ j. false || same_link l j) (λ j. false) (filter (λ k. not (same_link l k)) (l ∷ []) ++ []) [] m
    (λ j st. to_false (same_link l j) (λ t. absent m l fresh (subst (Stands m) (sym (same_link-is l j t)) st)))
    (λ o f. ap (λ t. values_at o f (cond (not t) (l ∷ []) [] ++ [])) (same_link-itself l))
    ∙ relink_none m

pub put_one : (m : Contents) (l : Link) → other_end m.metamodel l ≡ [] → with_link l m ≡ with_ends l m
put_one m l alone = sym (come-alone m l alone)

pub put_two : (m : Contents) (l k : Link) → other_end m.metamodel l ≡ k ∷ [] → with_link k (with_link l m) ≡ with_ends l m
put_two m l k other = sym (come-both m l k (other_end-In m.metamodel l k (subst (In k) (sym other) here)))

-- ---- values of a feature that has an opposite

reference : (m : Contents) (f g : ℕ) (v : Scalar) (pair : Opposites m.metamodel f g) → is_of_feature m f v ≡ is_of_kind m (Reference pair.other.owner) v
reference m f g v pair = ap (λ r. option_map_or (λ (feature : Feature). is_of_kind m feature.kind v) r false) pair.is_feature ∙ ap (λ kind. is_of_kind m kind v) pair.opposed.target

referred : (m : Contents) (c : ℕ) (v : Scalar) → is_of_kind m (Reference c) v ≡ true → (p : ℕ) × (v ≡ Object p) × IsSome (kind m p)
referred m c (Object p) h = (p, refl, some (kind m p) h)
  where
    some : (r : Option ℕ) → option_map_or (λ d. Rattle.wb_metamodel.specs.Metamodel.conforms m.metamodel d c) r false ≡ true → IsSome r
    some None h = absurd (false≢true h)
    some (Some d) h = refl
referred m c (Int n) h = absurd (false≢true h)
referred m c (Boolean b) h = absurd (false≢true h)
referred m c (Text t) h = absurd (false≢true h)
referred m c (Literal e n) h = absurd (false≢true h)

pub object_value : (m : Contents) → WellFormed m.metamodel → (f g : ℕ) (v : Scalar) → opposite m.metamodel f ≡ Some g → is_of_feature m f v ≡ true → (p : ℕ) × (v ≡ Object p) × IsSome (kind m p)
object_value m well f g v op h = let pair = opposites m.metamodel well f g op in referred m pair.other.owner v (sym (reference m f g v pair) ∙ h)

cons_nil : {A : Type 0} (x : A) (xs : List A) → x ∷ xs ≡ [] → ⊥
cons_nil x xs e = cc

-- a value without another end is of a feature without opposite
pub alone_none : (m : Contents) → WellFormed m.metamodel → (o f : ℕ) (v : Scalar) → is_of_feature m f v ≡ true → other_end m.metamodel (link o f v) ≡ [] → opposite m.metamodel f ≡ None
alone_none m well o f v h alone =
    elim (opposite m.metamodel f) as (λ r. opposite m.metamodel f ≡ r → r ≡ None) [
      | None ↦ λ e. refl
      | Some g ↦ λ e.
          let p = object_value m well f g v e h in
          let k : Link = link p.0 g (Object o) in
          absurd (cons_nil k [] (sym (other_end-is m.metamodel (link o f v) k (record { features = e; to = p.1; from = refl })) ∙ alone))
    ] refl

-- ---- a link comes to a feature without opposite

link_up_fresh : (m : Contents) (l : Link) → stands m l ≡ false → change (gives_way m.metamodel l) (l ∷ []) m ≡ link_up l m
link_up_fresh m l fresh = sym (ap (λ b. cond b m (change (gives_way m.metamodel l) (l ∷ []) m)) fresh)

pub up_last : (m : Contents) (l : Link) → is_many m.metamodel l.feature ≡ true → other_end m.metamodel l ≡ [] → stands m l ≡ false → with_link l m ≡ link_up l m
up_last m l many alone fresh =
    ap (λ b. with_link l (cond b m (emptied l.object l.feature m))) (sym many) ∙ sym (linked-alone m l alone) ∙ link_up_fresh m l fresh

or_none : (b : Bool) → b ≡ (b || false)
or_none true = refl
or_none false = refl

pub up_only : (m : Contents) → WellFormed m.metamodel → (l : Link) → is_many m.metamodel l.feature ≡ false → opposite m.metamodel l.feature ≡ None → other_end m.metamodel l ≡ [] → stands m l ≡ false → with_only l m ≡ link_up l m
up_only m well l one none alone fresh =
    relink-agree (is_at l.object l.feature) (λ j. is_at l.object l.feature j || false) (l ∷ []) ([] ++ l ∷ []) m (λ j st. or_none (is_at l.object l.feature j)) (λ o f. refl)
    ∙ sym (relink-relink (is_at l.object l.feature) (λ j. false) [] (l ∷ []) m)
    ∙ ap (with_link l) (sym (emptied-alone m well l.object l.feature none))
    ∙ ap (λ b. with_link l (cond b m (emptied l.object l.feature m))) (sym one)
    ∙ sym (linked-alone m l alone)
    ∙ link_up_fresh m l fresh

-- ---- a link comes to a feature with an opposite

module _ (m : Contents) (well : WellFormed m.metamodel) (sound : Sound m) where
  end-stands : (j e : Link) → Stands m j → In e (both_ends m.metamodel j) → Stands m e
  end-stands j e st i = ⊎_elim (λ s. subst (Stands m) s st) (λ o. sound.agree j e st o) (In-both_ends m.metamodel j e i)

  -- an end of an end of a link is an end of it
  end-of_end : (l j e : Link) → In j (both_ends m.metamodel l) → In e (both_ends m.metamodel j) → (l ≡ e) ⊎ Opposed m.metamodel l e
  end-of_end l j e i n =
      ⊎_elim
      (λ s. In-both_ends m.metamodel l e (subst (λ j. In e (both_ends m.metamodel j)) (sym s) n))
      (λ o. ⊎_elim
      (λ s. inr (subst (Opposed m.metamodel l) s o))
      (λ q. inl (opposed-unique m.metamodel j l e (opposed-back m.metamodel well l j o) q))
      (In-both_ends m.metamodel j e n))
      (In-both_ends m.metamodel l j i)

  stands_from_end : (l e : Link) → (l ≡ e) ⊎ Opposed m.metamodel l e → Stands m e → Stands m l
  stands_from_end l e c st = ⊎_elim (λ s. subst (Stands m) (sym s) st) (λ o. sound.agree e l st (opposed-back m.metamodel well l e o)) c

  -- what stands is no end of a link that does not
  pub keep_given : (l d : Link) → (Stands m l → ⊥) → Stands m d → (j : Link) → In j (both_ends m.metamodel l) → list_any (same_link d) (both_ends m.metamodel j) ≡ false
  keep_given l d fresh st j i =
      to_false (list_any (same_link d) (both_ends m.metamodel j))
      (λ t.
      let r = any_found (same_link d) (both_ends m.metamodel j) t in
      fresh (stands_from_end l r.0 (end-of_end l j r.0 i r.1) (subst (Stands m) (same_link-is d r.0 r.2) st)))

  keep_first : (l : Link) → (Stands m l → ⊥) → (o f : ℕ) (vs : List Scalar) → slot m o f ≡ vs → (j : Link) → In j (both_ends m.metamodel l) → is_given m.metamodel o f (first_object vs) j ≡ false
  keep_first l fresh o f [] e j i = refl
  keep_first l fresh o f (Object q ∷ vs) e j i = keep_given l (link o f (Object q)) fresh (subst (In (Object q)) (sym e) here) j i
  keep_first l fresh o f (Int n ∷ vs) e j i = refl
  keep_first l fresh o f (Boolean n ∷ vs) e j i = refl
  keep_first l fresh o f (Text n ∷ vs) e j i = refl
  keep_first l fresh o f (Literal c n ∷ vs) e j i = refl

  keep_gives : (l : Link) → (Stands m l → ⊥) → (o f : ℕ) (j : Link) → In j (both_ends m.metamodel l) → is_given m.metamodel o f (gives_place m o f) j ≡ false
  keep_gives l fresh o f j i =
      elim (is_many m.metamodel f) as (λ b. is_given m.metamodel o f (cond b None (first_object (slot m o f))) j ≡ false) [
        | true ↦ refl
        | false ↦ keep_first l fresh o f (slot m o f) refl j i
      ]

  one-value : (v w : Scalar) → In w (v ∷ []) → w ≡ v
  one-value v w here = refl
  one-value v w (there i) = elim i [ ]

  module _ (o f g : ℕ) (op : opposite m.metamodel f ≡ Some g) (j : Link) (st : Stands m j) where
    -- an end that stands in the slot
    found : list_any (is_at o f) (both_ends m.metamodel j) ≡ true → (e : Link) × In e (both_ends m.metamodel j) × (e ≡ link o f e.value) × In e.value (slot m o f)
    found t =
        let r = any_found (is_at o f) (both_ends m.metamodel j) t in
        let at = is_at-link o f r.0 r.2 in
        (r.0, r.1, at, subst (Stands m) at (end-stands j r.0 st r.1))

    at_one : (vs : List Scalar) → slot m o f ≡ vs → length vs ≤ 1 → list_any (is_at o f) (both_ends m.metamodel j) ≡ is_given m.metamodel o f (first_object vs) j
    at_one [] e short = to_false (list_any (is_at o f) (both_ends m.metamodel j)) (λ t. let r = found t in elim (subst (In r.0.value) e r.3) [ ])
    at_one (v ∷ w ∷ vs) e short = absurd (omega (arith, short))
    at_one (v ∷ []) e short =
        let p = object_value m well f g v op (sound.of_kind (link o f v) (subst (In v) (sym e) here)) in
        let d : Link = link o f (Object p.0) in
        both-same (list_any (is_at o f) (both_ends m.metamodel j)) (list_any (same_link d) (both_ends m.metamodel j))
        (λ t.
        let r = found t in
        let is : r.0 ≡ d = r.2 ∙ ap (link o f) (one-value v r.0.value (subst (In r.0.value) e r.3) ∙ p.1) in
        any_In (same_link d) (both_ends m.metamodel j) r.0 r.1 (subst (λ k. same_link d k ≡ true) (sym is) (same_link-itself d)))
        (λ t.
        let r = any_found (same_link d) (both_ends m.metamodel j) t in
        any_In (is_at o f) (both_ends m.metamodel j) r.0 r.1 (subst (λ k. is_at o f k ≡ true) (same_link-is d r.0 r.2) (is_at-itself o f (Object p.0))))
        ∙ ap (λ v. is_given m.metamodel o f (first_object (v ∷ [])) j) (sym p.1)

    gives_is : (v : Scalar) → clears m.metamodel (link o f v) j ≡ is_given m.metamodel o f (gives_place m o f) j
    unfolding clears
    gives_is v =
        elim (is_many m.metamodel f) as (λ b. is_many m.metamodel f ≡ b → (not b && list_any (is_at o f) (both_ends m.metamodel j)) ≡ is_given m.metamodel o f (cond b None (first_object (slot m o f))) j) [
          | true ↦ λ e. refl
          | false ↦ λ e. at_one (slot m o f) refl (subst (λ b. length (slot m o f) ≤ cond b 20000 1) e (sound.has_room o f))
        ] refl

  -- a link comes, its other end comes, and what gives way leaves at either end
  pub up_both : (o f p g : ℕ) → opposite m.metamodel f ≡ Some g → stands m (link o f (Object p)) ≡ false
      → relink (is_given m.metamodel p g (gives_place m p g)) [] (relink (is_given m.metamodel o f (gives_place m o f)) [] (with_ends (link o f (Object p)) m)) ≡ link_up (link o f (Object p)) m
  up_both o f p g op fresh =
      let mm = m.metamodel in
      let l : Link = link o f (Object p) in
      let k : Link = link p g (Object o) in
      let opposed : Opposed mm l k = record { features = op; to = refl; from = refl } in
      let back = (opposed-back mm well l k opposed).features in
      let a : Link → Bool = is_given mm o f (gives_place m o f) in
      let b : Link → Bool = is_given mm p g (gives_place m p g) in
      relink-relink a b [] [] (with_ends l m)
      ∙ come_then m (λ j. a j || b j) (gives_way mm l) l
      (λ j st. way-both m l k j opposed ∙ sym (or_none _) ∙ sym (or_none _) ∙ (λ i. gives_is o f g op j st (Object p) i || gives_is p g f back j st (Object o) i))
      (λ j i. λ n. keep_gives l (absent m l fresh) o f j i n || keep_gives l (absent m l fresh) p g j i n)
      ∙ link_up_fresh m l fresh

module _ (m u v w : Contents) (o f p g : ℕ) (first second : Option ℕ) (one : first ≡ gives_place m o f) (two : second ≡ gives_place m p g) where
  -- the steps as the code takes them, each on what the one before has left
  pub both_steps : u ≡ with_ends (link o f (Object p)) m → v ≡ relink (is_given u.metamodel o f first) [] u → w ≡ relink (is_given v.metamodel p g second) [] v
      → w ≡ relink (is_given m.metamodel p g (gives_place m p g)) [] (relink (is_given m.metamodel o f (gives_place m o f)) [] (with_ends (link o f (Object p)) m))
  both_steps a b c =
      let same : u.metamodel ≡ m.metamodel = ap (λ (m : Contents). m.metamodel) a ∙ metamodel-relink _ _ m in
      let after : v ≡ relink (is_given m.metamodel o f (gives_place m o f)) [] (with_ends (link o f (Object p)) m) = b ∙ (λ i. relink (is_given (same i) o f (one i)) [] (a i)) in
      let again : v.metamodel ≡ m.metamodel = ap (λ (m : Contents). m.metamodel) b ∙ metamodel-relink _ _ u ∙ same in
      c ∙ (λ i. relink (is_given (again i) p g (two i)) [] (after i))

pub known_after : (m n : Contents) (f : ℕ) → n.metamodel ≡ m.metamodel → f < length m.metamodel.features → f < length n.metamodel.features
known_after m n f same h = subst (λ (metamodel : Metamodel). f < length metamodel.features) (sym same) h

pub known_in : (a b : Metamodel) (f : ℕ) → a ≡ b → f < length a.features → f < length b.features
known_in a b f same h = subst (λ (metamodel : Metamodel). f < length metamodel.features) same h

object_is : (p q : ℕ) → Object p ≡ Object q → p ≡ q
object_is p q e = cc

-- the object at the other end of a link that has come is live
pub live_end : (m n : Contents) (o f p : ℕ) (k : Link) → n ≡ with_link (link o f (Object p)) m → other_end m.metamodel (link o f (Object p)) ≡ k ∷ [] → IsSome (kind m p) → IsSome (kind n k.object)
live_end m n o f p k e other live =
    let l : Link = link o f (Object p) in
    let to = (other_end-In m.metamodel l k (subst (In k) (sym other) here)).to in
    subst (λ (m : Contents). IsSome (kind m k.object)) (sym e)
    (subst IsSome (sym (kind-relink (λ j. false) (l ∷ []) m k.object)) (subst (λ p. IsSome (kind m p)) (object_is p k.object to) live))

pub end_is : (m : Contents) (o f p : ℕ) (k : Link) → other_end m.metamodel (link o f (Object p)) ≡ k ∷ [] → k.object ≡ p
end_is m o f p k other = sym (object_is p k.object (other_end-In m.metamodel (link o f (Object p)) k (subst (In k) (sym other) here)).to)
