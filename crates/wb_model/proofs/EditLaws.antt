-- What is true of every edit that is accepted.
use Rattle.std.proofs.Common.{◌≡◌, ℕ, ◌<◌, ◌≤◌, Bool, true, false, not, List, [], ◌∷◌, ◌++◌, length, Option, Some, None, refl, sym, ap, subst, ◌∙◌, cond, arith, inl, inr, ⊎_elim, append-nil, ◌↔◌}
use Rattle.std.proofs.lemmas.Bool.{false≢true, not_from_true, or_right}
use Rattle.std.specs.Prelude.{filter, IsSome, Ok}
use Rattle.std.specs.List.{list_any, flat_map}
use Rattle.wb_metamodel.specs.WellFormed.{WellFormed}
use Rattle.wb_store.specs.declared.scalars.Scalar.{Scalar}
use Rattle.wb_store.specs.declared.scalars.Scalar.TheVariants.{Object}
use Rattle.wb_store.specs.declared.scalars.Place.TheVariants.{Root, In as Inside}
use Rattle.wb_model.specs.declared.refusals.ModelRefusal.TheVariants.{UnknownObject}
use Rattle.std.specs.Option.{option_map_or}
use Rattle.std.specs.FinMap.{FinMap, get}
use Rattle.wb_store.specs.Contents.{Contents, Filled, members, slot_cmp, kind, slot, has_object}
use Rattle.wb_store.specs.Cells.{tree}
use Rattle.wb_store.specs.Features.{opposite}
use Rattle.wb_validity.specs.Valid.{Within, IsValid}
use Rattle.wb_store.specs.Relinking.{Link, link, relink, both_ends, change, is_at, same_link, leads_to, is_among, is_value_among, touches, stands, gives_way, without_root}
use Rattle.wb_model.specs.Edits.{is_live, place, link_up, unlink, emptied, moved, removed, created, with_object, refusal_of_link, refusal_of_take, refusal_of_unset, refusal_of_move, refusal_of_create, set, add, take_out, unset, move_to, remove}
use Rattle.wb_model.specs.EditLaws.{IsEdited, AreEdited, KeepsOrder, NumbersAreFresh, GoesWith, IsNowhere}
use Rattle.wb_model.specs.EditLaws.IsEdited.{by_set, by_add, by_take, by_unset, by_move, by_remove, by_create}
use Rattle.wb_model.specs.EditLaws.AreEdited.{by_none, by_more}
use Rattle.wb_model.proofs.Changed.{IsAlone, alone-ends, both-same, relink-Stands}
use Rattle.wb_model.proofs.EditSteps.{relink-agree, same_link-is}
use Rattle.wb_model.proofs.Ends.{ends-cases, opposite-back}
use Rattle.wb_model.proofs.FewerRoots.{among-filter}
use Rattle.wb_store.proofs.Filtered.{In-cons, filter-all}
use Rattle.wb_store.proofs.HolderLemmas.{decide}
use Rattle.wb_model.proofs.KeptCreated.{kept_create, kind-other}
use Rattle.wb_model.proofs.KeptLinks.{accepted, sound, housed, kept_set, kept_add, kept_take, kept_unset}
use Rattle.wb_model.proofs.KeptMoved.{kept_move}
use Rattle.wb_store.proofs.Without.{kind-without, slot-without}
use Rattle.wb_model.proofs.KeptRemoved.{kept_remove, kind-stays, among-value}
use Rattle.wb_validity.proofs.LinkLemmas.{to_false}
use Rattle.wb_store.proofs.Members.{In}
use Rattle.wb_store.proofs.Members.In.{here, there}
use Rattle.wb_store.proofs.Relinked.{values_at, is_at-link, slot-relink, metamodel-relink}
use Rattle.wb_model.proofs.Sound.{Stands, stands-In, In-stands, absent, Sound}
use Rattle.wb_model.proofs.TreesWithin.{tree-decides, tree-within, within-tree, among-In, In-among}
use Rattle.wb_store.proofs.Relinks.{relink_none}

-- ---- validity

pub kept : (m n : Contents) → WellFormed m.metamodel → IsValid m → IsEdited m n → IsValid n
kept m n well v (by_set o f w h) = kept_set m n o f w well v h
kept m n well v (by_add o f w h) = kept_add m n o f w well v h
kept m n well v (by_take o f w h) = kept_take m n o f w well v h
kept m n well v (by_unset o f h) = kept_unset m n o f well v h
kept m n well v (by_move o p f h) = kept_move m n o p f well v h
kept m n well v (by_remove o h) = kept_remove m n o well v h
kept m n well v (by_create class place h) = kept_create m n class place well v h

-- ---- numbers are fresh

kind-cond : (b : Bool) (r s : Option ℕ) → IsSome (cond b r None) → IsSome r
kind-cond true r s h = h
kind-cond false r s h = absurd (false≢true h)

not-some : (r : Option ℕ) → IsSome r → r ≡ None → ⊥
not-some r h e = false≢true (subst IsSome e h)

-- no object comes
fresh-fewer : (m n : Contents) → n.next ≡ m.next → ((o : ℕ) → IsSome (kind n o) → IsSome (kind m o)) → NumbersAreFresh m n
fresh-fewer m n next was = record {
  never_falls = subst (λ k. m.next ≤ k) (sym next) (omega arith);
  fresh = λ o live none. absurd (not-some (kind m o) (was o live) none);
}

fresh-grown : (m : Contents) (class : ℕ) (roots : List ℕ) → NumbersAreFresh m (with_object class roots m)
fresh-grown m class roots = record {
  never_falls = omega arith;
  fresh = λ o live none. ⊎_elim (λ e. (e, refl)) (λ n. absurd (not-some (kind m o) (subst IsSome (kind-other m class roots o n) live) none)) (decide o m.next);
}

-- ---- what an accepted edit makes

-- the same slots over the same metamodel, with at most one more object
record IsBase (m w : Contents) : Type 0 where
  pub metamodel : w.metamodel ≡ m.metamodel
  pub slots : w.slots ≡ m.slots
  pub fresh : NumbersAreFresh m w

-- nothing new, links that leave, one link that comes, one more root, or fewer objects
data IsMade (m : Contents) : Contents → Type 0 where
  same_as : IsMade m m
  fewer : (leaves : Link → Bool) → IsMade m (change leaves [] m)
  linked : (w : Contents) → IsBase m w → (leaves : Link → Bool) (l : Link) → IsMade m (change leaves (l ∷ []) w)
  rooted : (class : ℕ) → IsMade m (with_object class (m.roots ++ m.next ∷ []) m)
  fewer_objects : (o : ℕ) → IsMade m (removed o m)

module _ (m : Contents) where
  made-if : (b : Bool) (n : Contents) → IsMade m n → IsMade m (cond b m n)
  made-if true n h = same_as
  made-if false n h = h

  made-linked : (l : Link) → IsMade m (link_up l m)
  made-linked l =
      made-if (stands m l) (change (gives_way m.metamodel l) (l ∷ []) m)
      (linked m (record { metamodel = refl; slots = refl; fresh = fresh-fewer m m refl (λ o h. h) }) (gives_way m.metamodel l) l)

  made-placed : (w : Contents) → IsBase m w → (o p f : ℕ) → IsMade m (place o p f w)
  made-placed w b o p f = linked w b (leads_to w.metamodel o) (link p f (Object o))

  made : (n : Contents) → IsEdited m n → IsMade m n
  made n (by_set o f v h) = subst (IsMade m) (accepted (refusal_of_link false m (link o f v)) (link_up (link o f v) m) n h).1 (made-linked (link o f v))
  made n (by_add o f v h) = subst (IsMade m) (accepted (refusal_of_link true m (link o f v)) (link_up (link o f v) m) n h).1 (made-linked (link o f v))
  made n (by_take o f v h) = subst (IsMade m) (accepted (refusal_of_take m (link o f v)) (unlink (link o f v) m) n h).1 (fewer (same_link (link o f v)))
  made n (by_unset o f h) = subst (IsMade m) (accepted (refusal_of_unset m o f) (emptied o f m) n h).1 (fewer (is_at o f))
  made n (by_move o p f h) =
      subst (IsMade m) (accepted (refusal_of_move m o p f) (moved o p f m) n h).1
      (made-if (stands m (link p f (Object o))) (place o p f (without_root o m))
      (made-placed (without_root o m) (record { metamodel = refl; slots = refl; fresh = fresh-fewer m (without_root o m) refl (λ x h. h) }) o p f))
  made n (by_remove o h) = subst (IsMade m) (accepted (cond (is_live m o) None (Some UnknownObject)) (removed o m) n h).1 (fewer_objects o)
  made n (by_create class Root h) = subst (IsMade m) (accepted (refusal_of_create m class Root) (created class Root m) n h).1 (rooted class)
  made n (by_create class (Inside p f) h) =
      subst (IsMade m) (accepted (refusal_of_create m class (Inside p f)) (created class (Inside p f) m) n h).1
      (made-placed (with_object class m.roots m) (record { metamodel = refl; slots = refl; fresh = fresh-grown m class m.roots }) m.next p f)

-- ---- the metamodel stays

made-metamodel : (m n : Contents) → IsMade m n → n.metamodel ≡ m.metamodel
made-metamodel m n same_as = refl
made-metamodel m n (fewer leaves) = metamodel-relink (λ l. list_any leaves (both_ends m.metamodel l)) [] m
made-metamodel m n (linked w b leaves l) = metamodel-relink (λ l. list_any leaves (both_ends w.metamodel l)) (flat_map (both_ends w.metamodel) (l ∷ [])) w ∙ b.metamodel
made-metamodel m n (rooted class) = refl
made-metamodel m n (fewer_objects o) = metamodel-relink (touches (o ∷ tree m o)) [] m

pub same_metamodel : (m n : Contents) → IsEdited m n → n.metamodel ≡ m.metamodel
same_metamodel m n e = made-metamodel m n (made m n e)

-- ---- many edits

pub same_metamodel-many : (m n : Contents) → AreEdited m n → n.metamodel ≡ m.metamodel
same_metamodel-many m n by_none = refl
same_metamodel-many m n (by_more {k = k} r e) = same_metamodel k n e ∙ same_metamodel-many m k r

pub kept-many : (m n : Contents) → WellFormed m.metamodel → IsValid m → AreEdited m n → IsValid n
kept-many m n well v by_none = v
kept-many m n well v (by_more {k = k} r e) = kept k n (subst WellFormed (sym (same_metamodel-many m k r)) well) (kept-many m k well v r) e

-- ---- opposites agree

pub opposites-same : (m : Contents) → WellFormed m.metamodel → IsValid m → (o f p g : ℕ) → opposite m.metamodel f ≡ Some g → has_object (slot m o f) p ≡ has_object (slot m p g) o
opposites-same m well v o f p g e =
    let s = sound m v in
    both-same _ _
    (λ h. In-stands m (link p g (Object o)) (s.agree (link o f (Object p)) (link p g (Object o)) (stands-In m (link o f (Object p)) h) (record { features = e; to = refl; from = refl })))
    (λ h. In-stands m (link o f (Object p)) (s.agree (link p g (Object o)) (link o f (Object p)) (stands-In m (link p g (Object o)) h) (record { features = opposite-back m.metamodel well f g e; to = refl; from = refl })))

pub opposites-kept : (m n : Contents) → WellFormed m.metamodel → IsValid m → IsEdited m n → (o f p g : ℕ) → opposite m.metamodel f ≡ Some g → has_object (slot n o f) p ≡ has_object (slot n p g) o
opposites-kept m n well v e o f p g h =
    let same = same_metamodel m n e in
    opposites-same n (subst WellFormed (sym same) well) (kept m n well v e) o f p g (subst (λ mm. opposite mm f ≡ Some g) (sym same) h)

-- ---- removed objects

module _ (m : Contents) (well : WellFormed m.metamodel) (v : IsValid m) (o : ℕ) where
  abbrev gone : List ℕ
  gone = o ∷ tree m o

  gone-in : (x : ℕ) → GoesWith m o x → is_among gone x ≡ true
  gone-in x e =
      In-among gone x (⊎_elim (λ s. subst (λ z. In z gone) (sym s) here) (λ w. there (within-tree m (sound m v) (housed m v).no_ring o x w)) e)

  gone-from : (x : ℕ) → is_among gone x ≡ true → GoesWith m o x
  gone-from x h = ⊎_elim (λ e. inl (sym e)) (λ i. inr (tree-within m o x i)) (In-cons o (tree m o) x (among-In gone x h))

  nowhere : (x : ℕ) → is_among gone x ≡ true → IsNowhere (removed o m) x
  nowhere x h = record {
    dead = kind-without m gone x ∙ ap (λ b. cond (not b) (kind m x) None) h;
    has_no_value = λ f. slot-without m gone x f ∙ ap (λ b. cond b [] (filter (λ w. not (is_value_among gone w)) (slot m x f))) h;
    is_no_value = λ p f. to_false _ (λ t.
        ⊎_elim
        (λ old. false≢true (sym old.1 ∙ or_right (is_among gone p) _ (among-value gone x h)))
        (λ new. elim new [ ])
        (relink-Stands (touches gone) [] m (link p f (Object x)) (stands-In (removed o m) (link p f (Object x)) t)));
    is_no_root = to_false _ (λ r. false≢true (sym (not_from_true _ h) ∙ (among-filter (λ root. not (is_among gone root)) m.roots x r).1));
  }

  removed-is : (n : Contents) → remove m o ≡ Ok n → removed o m ≡ n
  removed-is n h = (accepted (cond (is_live m o) None (Some UnknownObject)) (removed o m) n h).1

  -- a removed object, and what it contained, is nowhere
  pub removed-nowhere : (n : Contents) → remove m o ≡ Ok n → (x : ℕ) → GoesWith m o x → IsNowhere n x
  removed-nowhere n h x e = subst (λ k. IsNowhere k x) (removed-is n h) (nowhere x (gone-in x e))

  -- and the others stay
  pub others-stay : (n : Contents) → remove m o ≡ Ok n → (x : ℕ) → ¬ (GoesWith m o x) → kind n x ≡ kind m x
  others-stay n h x apart = ap (λ (k : Contents). kind k x) (sym (removed-is n h)) ∙ kind-stays m gone x (to_false _ (λ t. apart (gone-from x t)))

-- ---- values keep their order

keeps-all : (vs : List Scalar) → KeepsOrder vs vs
keeps-all vs = record { stays = λ v. true; last = []; one = omega arith; is = sym (append-nil (filter (λ v. true) vs) ∙ filter-all (λ v. true) vs (λ v i. refl)) }

one-last : (o f : ℕ) (ls : List Link) → IsAlone o f ls → length (values_at o f ls) ≤ 1
one-last o f ls alone =
    ⊎_elim
    (λ none. subst (λ vs. length vs ≤ 1) (sym none) (omega arith))
    (λ one. subst (λ vs. length vs ≤ 1) (sym one.1) (omega arith))
    alone

keeps-relink : (leaves : Link → Bool) (comes : List Link) (m : Contents) (o f : ℕ) → IsAlone o f comes → KeepsOrder (slot m o f) (slot (relink leaves comes m) o f)
keeps-relink leaves comes m o f alone = record {
  stays = λ v. not (leaves (link o f v));
  last = values_at o f comes;
  one = one-last o f comes alone;
  is = slot-relink leaves comes m o f;
}

made-keeps : (m n : Contents) → WellFormed m.metamodel → (q g : ℕ) → IsMade m n → KeepsOrder (slot m q g) (slot n q g)
made-keeps m n well q g same_as = keeps-all (slot m q g)
made-keeps m n well q g (fewer leaves) = keeps-relink (λ l. list_any leaves (both_ends m.metamodel l)) [] m q g (inl refl)
made-keeps m n well q g (linked w b leaves l) =
    subst (λ (slots : FinMap slot_cmp Filled). KeepsOrder (option_map_or members (get slots (q, g)) []) (slot (change leaves (l ∷ []) w) q g)) b.slots
    (keeps-relink (λ k. list_any leaves (both_ends w.metamodel k)) (flat_map (both_ends w.metamodel) (l ∷ [])) w q g (alone-ends w.metamodel (subst WellFormed (sym b.metamodel) well) l q g))
made-keeps m n well q g (rooted class) = keeps-all (slot m q g)
made-keeps m n well q g (fewer_objects o) = keeps-relink (touches (o ∷ tree m o)) [] m q g (inl refl)

pub order-kept : (m n : Contents) → WellFormed m.metamodel → IsEdited m n → (o f : ℕ) → KeepsOrder (slot m o f) (slot n o f)
order-kept m n well e o f = made-keeps m n well o f (made m n e)

-- ---- no number is given twice

made-fresh : (m n : Contents) → IsMade m n → NumbersAreFresh m n
unfolding relink
made-fresh m n same_as = fresh-fewer m m refl (λ o h. h)
made-fresh m n (fewer leaves) = fresh-fewer m (change leaves [] m) refl (λ o h. h)
made-fresh m n (linked w b leaves l) = record { never_falls = b.fresh.never_falls; fresh = b.fresh.fresh }
made-fresh m n (rooted class) = fresh-grown m class (m.roots ++ m.next ∷ [])
made-fresh m n (fewer_objects o) = fresh-fewer m (removed o m) refl (λ x h. kind-cond (not (is_among (o ∷ tree m o) x)) (kind m x) None (subst IsSome (kind-without m (o ∷ tree m o) x) h))

pub numbers-fresh : (m n : Contents) → IsEdited m n → NumbersAreFresh m n
numbers-fresh m n e = made-fresh m n (made m n e)

none-of : (r : Option ℕ) → (IsSome r → ⊥) → r ≡ None
none-of None f = refl
none-of (Some c) f = absurd (f refl)

next-grows : (m n : Contents) → AreEdited m n → m.next ≤ n.next
next-grows m n by_none = omega arith
next-grows m n (by_more {k = k} r e) = let before = next-grows m k r in let after = (numbers-fresh k n e).never_falls in omega arith

-- a number that was given, and is no longer that of an object, is never given again
pub dead-stays : (m n : Contents) → AreEdited m n → (o : ℕ) → o < m.next → kind m o ≡ None → kind n o ≡ None
dead-stays m n by_none o below none = none
dead-stays m n (by_more {k = k} r e) o below none =
    none-of (kind n o) (λ live.
    let given = ((numbers-fresh k n e).fresh o live (dead-stays m k r o below none)).0 in
    let grown = next-grows m k r in
    absurd (omega arith))

-- ---- what changes nothing

module _ (m : Contents) (s : Sound m) where
  unlinked-same : (l : Link) → stands m l ≡ false → unlink l m ≡ m
  unlinked-same l none =
      relink-agree (λ k. list_any (same_link l) (both_ends m.metamodel k)) (λ k. false) [] [] m
      (λ k i. to_false _ (λ t. ⊎_elim
      (λ e. absent m l none (subst (Stands m) (sym (same_link-is l k e)) i))
      (λ w. absent m l none (subst (Stands m) (sym (same_link-is l w.0 w.2)) (s.agree k w.0 i w.1)))
      (ends-cases m.metamodel (same_link l) k t)))
      (λ o f. refl)
      ∙ relink_none m

  emptied-same : (o f : ℕ) → slot m o f ≡ [] → emptied o f m ≡ m
  emptied-same o f none =
      let nothing : (k : Link) → Stands m k → is_at o f k ≡ true → ⊥ = λ k i e.
      let at : Stands m (link o f k.value) = subst (Stands m) (is_at-link o f k e) i in
      let in_none : In k.value [] = subst (In k.value) none at in
      elim in_none [ ] in
      relink-agree (λ k. list_any (is_at o f) (both_ends m.metamodel k)) (λ k. false) [] [] m
      (λ k i. to_false _ (λ t. ⊎_elim (λ e. nothing k i e) (λ w. nothing w.0 (s.agree k w.0 i w.1) w.2) (ends-cases m.metamodel (is_at o f) k t)))
      (λ p g. refl)
      ∙ relink_none m

module _ (m n : Contents) where
  linked-same : (l : Link) → stands m l ≡ true → link_up l m ≡ m
  linked-same l h = ap (λ b. cond b m (change (gives_way m.metamodel l) (l ∷ []) m)) h

  moved-same : (o p f : ℕ) → stands m (link p f (Object o)) ≡ true → moved o p f m ≡ m
  moved-same o p f h = ap (λ b. cond b m (change (leads_to m.metamodel o) (link p f (Object o) ∷ []) (without_root o m))) h

  pub set-same : (o f : ℕ) (w : Scalar) → stands m (link o f w) ≡ true → set m o f w ≡ Ok n → n ≡ m
  set-same o f w h e = let l : Link = link o f w in sym (accepted (refusal_of_link false m l) (link_up l m) n e).1 ∙ linked-same l h

  pub add-same : (o f : ℕ) (w : Scalar) → stands m (link o f w) ≡ true → add m o f w ≡ Ok n → n ≡ m
  add-same o f w h e = let l : Link = link o f w in sym (accepted (refusal_of_link true m l) (link_up l m) n e).1 ∙ linked-same l h

  pub move-same : (o p f : ℕ) → stands m (link p f (Object o)) ≡ true → move_to m o p f ≡ Ok n → n ≡ m
  move-same o p f h e = sym (accepted (refusal_of_move m o p f) (moved o p f m) n e).1 ∙ moved-same o p f h

module _ (m n : Contents) (v : IsValid m) where
  pub take-same : (o f : ℕ) (w : Scalar) → stands m (link o f w) ≡ false → take_out m o f w ≡ Ok n → n ≡ m
  take-same o f w h e = let l : Link = link o f w in sym (accepted (refusal_of_take m l) (unlink l m) n e).1 ∙ unlinked-same m (sound m v) l h

  pub unset-same : (o f : ℕ) → slot m o f ≡ [] → unset m o f ≡ Ok n → n ≡ m
  unset-same o f h e = sym (accepted (refusal_of_unset m o f) (emptied o f m) n e).1 ∙ emptied-same m (sound m v) o f h

-- ---- trees

pub trees-within : (m : Contents) → IsValid m → (o p : ℕ) → (is_among (tree m o) p ≡ true) ↔ Within m o p
trees-within m v o p = tree-decides m (sound m v) (housed m v).no_ring o p
