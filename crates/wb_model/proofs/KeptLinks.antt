-- Edits of plain features keep a model valid.
use Rattle.std.proofs.Common.{◌≡◌, ℕ, ◌<◌, Bool, true, false, not, ◌&&◌, List, [], ◌∷◌, length, Option, Some, None, refl, sym, ap, subst, ◌∙◌, cond, arith, ◌⊎◌, inl, ⊎_elim}
use Rattle.std.proofs.lemmas.Bool.{and_parts, false≢true, not-false, not_from_true, not_from_false, leb-false, cases_Bool}
use Rattle.std.proofs.lemmas.Option.{none-some}
use Rattle.std.specs.Prelude.{Ok}
use Rattle.std.specs.List.{list_any, flat_map}
use Rattle.wb_metamodel.specs.Metamodel.{Metamodel}
use Rattle.wb_metamodel.specs.WellFormed.{WellFormed}
use Rattle.wb_store.specs.declared.scalars.Scalar.{Scalar}
use Rattle.wb_model.specs.declared.refusals.ModelRefusal.{ModelRefusal}
use Rattle.wb_model.specs.declared.refusals.ModelRefusal.TheVariants.{UnknownObject, KindMismatch, UpperBound}
use Rattle.wb_store.specs.Contents.{Contents, slot}
use Rattle.wb_store.specs.Cells.{is_plain}
use Rattle.wb_store.specs.Features.{is_many}
use Rattle.wb_validity.specs.Valid.{room, is_of_class, is_of_feature, IsValid}
use Rattle.wb_store.specs.Relinking.{Link, link, relink, both_ends, change, is_at, same_link, stands, gives_way}
use Rattle.wb_model.specs.Edits.{link_up, unlink, emptied, first_refusal, unless, is_live, is_known_value, is_full, is_plain_link, is_plain_feature, finds_no_room, refusal_of_link, refusal_of_take, refusal_of_unset, set, add, take_out, unset}
use Rattle.wb_model.proofs.Changed.{stay_at, IsKnown, fits-none, fits-one, sound-relink, contains-plain, housed-same}
use Rattle.wb_model.proofs.Ends.{Opposed, plain-back, In-other_end, In-both_ends, ends-this}
use Rattle.wb_store.proofs.Filtered.{filter-few, filter-none}
use Rattle.wb_validity.proofs.LinkLemmas.{any_found, to_false}
use Rattle.wb_store.proofs.Members.{In, any_In}
use Rattle.wb_store.proofs.Members.In.{here, there}
use Rattle.wb_store.proofs.Relinked.{is_at-link, is_at-itself, kind-relink, roots-relink}
use Rattle.wb_model.proofs.Sound.{absent, Sound, Housed, sound-from, housed-from, valid-from}

-- ---- accepted edits

-- no refusal holds: the first does not, and none of the others
pub not_refused : (b : Bool) (refusal : ModelRefusal) (more : List (Bool × ModelRefusal)) → first_refusal ((b, refusal) ∷ more) ≡ None → (b ≡ false) × (first_refusal more ≡ None)
not_refused true refusal more h = absurd (none-some refusal (sym h))
not_refused false refusal more h = (refl, h)

pub accepted : {A : Type 0} (refusal : Option ModelRefusal) (m n : A) → unless refusal m ≡ Ok n → (refusal ≡ None) × (m ≡ n)
accepted None m n h = let e : m ≡ n = cc in (refl, e)
accepted (Some refusal) m n h = cc

-- what an accepted edit of a link says of it
pub record IsAccepted (many : Bool) (m : Contents) (l : Link) : Type 0 where
  pub known : (is_live m l.object && is_known_value m l.value) ≡ true
  pub plain : is_plain_link m l ≡ true
  pub sort : cond (is_many m.metamodel l.feature) many (not many) ≡ true
  pub space : finds_no_room m l ≡ false

pub link-accepted : (many : Bool) (m : Contents) (l : Link) → refusal_of_link many m l ≡ None → IsAccepted many m l
link-accepted many m l h =
    let live = is_live m l.object && is_known_value m l.value in
    let sort = cond (is_many m.metamodel l.feature) many (not many) in
    let known = not_refused (not live) UnknownObject ((not (is_plain_link m l && sort), KindMismatch) ∷ (finds_no_room m l, UpperBound) ∷ []) h in
    let fits = not_refused (not (is_plain_link m l && sort)) KindMismatch ((finds_no_room m l, UpperBound) ∷ []) known.1 in
    let both = and_parts (is_plain_link m l) sort (not-false (is_plain_link m l && sort) fits.0) in
    record { known = not-false live known.0; plain = both.0; sort = both.1; space = (not_refused (finds_no_room m l) UpperBound [] fits.1).0 }

taken : (m : Contents) (l : Link) → refusal_of_take m l ≡ None → is_plain_link m l ≡ true
taken m l h =
    let known = not_refused (not (is_live m l.object && is_known_value m l.value)) UnknownObject ((not (is_plain_link m l && is_many m.metamodel l.feature), KindMismatch) ∷ []) h in
    (and_parts (is_plain_link m l) (is_many m.metamodel l.feature) (not-false _ (not_refused (not (is_plain_link m l && is_many m.metamodel l.feature)) KindMismatch [] known.1).0)).0

emptied-plain : (m : Contents) (o f : ℕ) → refusal_of_unset m o f ≡ None → is_plain_feature m o f ≡ true
emptied-plain m o f h =
    let known = not_refused (not (is_live m o)) UnknownObject ((not (is_plain_feature m o f), KindMismatch) ∷ []) h in
    not-false _ (not_refused (not (is_plain_feature m o f)) KindMismatch [] known.1).0

link-parts : (m : Contents) (l : Link) → is_plain_link m l ≡ true → (is_plain_feature m l.object l.feature ≡ true) × (is_of_feature m l.feature l.value ≡ true)
link-parts m l h = and_parts (is_plain_feature m l.object l.feature) (is_of_feature m l.feature l.value) h

link-plain : (m : Contents) (l : Link) → is_plain_link m l ≡ true → is_plain m.metamodel l.feature ≡ true
link-plain m l h = (and_parts (is_of_class m l.object l.feature) (is_plain m.metamodel l.feature) (link-parts m l h).0).1

link-known : (m : Contents) (l : Link) → is_plain_link m l ≡ true → IsKnown m l
link-known m l h = let both = link-parts m l h in ((and_parts (is_of_class m l.object l.feature) (is_plain m.metamodel l.feature) both.0).0, both.1)

-- ---- changes of plain features

pub sound : (m : Contents) → IsValid m → Sound m
unfolding IsValid
sound m v = sound-from m v

pub housed : (m : Contents) → IsValid m → Housed m
unfolding IsValid
housed m v = housed-from m v

pub valid : (m : Contents) → Sound m → Housed m → IsValid m
unfolding IsValid
valid m s h = valid-from m s h

-- a change keeps the roots
module _ (m : Contents) (well : WellFormed m.metamodel) (leaves : Link → Bool) (comes : List Link) where
  plain-housed : ((l : Link) → leaves l ≡ true → is_plain m.metamodel l.feature ≡ true) → ((l : Link) → In l comes → is_plain m.metamodel l.feature ≡ true) → Housed m → Housed (change leaves comes m)
  plain-housed plain_leaves plain_comes h =
      let test : Link → Bool = λ l. list_any leaves (both_ends m.metamodel l) in
      let come : List Link = flat_map (both_ends m.metamodel) comes in
      housed-same m (relink test come m) (contains-plain m well leaves comes plain_leaves plain_comes) (kind-relink test come m) (roots-relink test come m) h

-- plain links leave
plain_left : (m : Contents) → WellFormed m.metamodel → IsValid m → (leaves : Link → Bool) → ((l : Link) → leaves l ≡ true → is_plain m.metamodel l.feature ≡ true) → IsValid (change leaves [] m)
plain_left m well v leaves plain =
    valid _
    (sound-relink (λ l. list_any leaves (both_ends m.metamodel l)) [] m (sound m v) (fits-none m well leaves))
    (plain-housed m well leaves [] plain (λ l i. elim i [ ]) (housed m v))

at-feature : (o f : ℕ) (l : Link) → is_at o f l ≡ true → f ≡ l.feature
at-feature o f l h = sym (ap (λ (k : Link). k.feature) (is_at-link o f l h))

-- ---- take and unset

unlinked : (m : Contents) → WellFormed m.metamodel → IsValid m → (l : Link) → is_plain m.metamodel l.feature ≡ true → IsValid (unlink l m)
unlinked m well v l plain =
    plain_left m well v (same_link l) (λ k h. subst (λ f. is_plain m.metamodel f ≡ true) (at-feature l.object l.feature k (and_parts _ _ h).0) plain)

all_left : (m : Contents) → WellFormed m.metamodel → IsValid m → (o f : ℕ) → is_plain m.metamodel f ≡ true → IsValid (emptied o f m)
all_left m well v o f plain = plain_left m well v (is_at o f) (λ k h. subst (λ f. is_plain m.metamodel f ≡ true) (at-feature o f k h) plain)

pub kept_take : (m n : Contents) (o f : ℕ) (v : Scalar) → WellFormed m.metamodel → IsValid m → take_out m o f v ≡ Ok n → IsValid n
kept_take m n o f v well valid h =
    let l = link o f v in
    let a = accepted (refusal_of_take m l) (unlink l m) n h in
    subst IsValid a.1 (unlinked m well valid l (link-plain m l (taken m l a.0)))

pub kept_unset : (m n : Contents) (o f : ℕ) → WellFormed m.metamodel → IsValid m → unset m o f ≡ Ok n → IsValid n
kept_unset m n o f well valid h =
    let a = accepted (refusal_of_unset m o f) (emptied o f m) n h in
    subst IsValid a.1 (all_left m well valid o f (and_parts (is_of_class m o f) (is_plain m.metamodel f) (emptied-plain m o f a.0)).1)

-- ---- set and add

pub one-space : (metamodel : Metamodel) (f : ℕ) → 0 < room metamodel f
one-space metamodel f = elim (is_many metamodel f) as (λ b. 0 < cond b 20000 1) [ true ↦ omega arith | false ↦ omega arith ]

pub and-true : (a b : Bool) → a ≡ true → (a && b) ≡ false → b ≡ false
and-true true b e h = h
and-true false b e h = absurd (false≢true e)

module _ (m : Contents) (well : WellFormed m.metamodel) (v : IsValid m) (l : Link) where
  ends-plain : is_plain m.metamodel l.feature ≡ true → (k : Link) → (l ≡ k) ⊎ Opposed m.metamodel l k → is_plain m.metamodel k.feature ≡ true
  ends-plain plain k e = ⊎_elim (λ s. subst (λ (k : Link). is_plain m.metamodel k.feature ≡ true) s plain) (λ o. plain-back m.metamodel well l.feature k.feature plain o.features) e

  In-end : (k : Link) → (l ≡ k) ⊎ Opposed m.metamodel l k → In k (both_ends m.metamodel l)
  In-end k e = ⊎_elim (λ s. subst (λ z. In z (both_ends m.metamodel l)) s here) (λ o. there (In-other_end m.metamodel l k o)) e

  plain_way : is_plain m.metamodel l.feature ≡ true → (k : Link) → gives_way m.metamodel l k ≡ true → is_plain m.metamodel k.feature ≡ true
  plain_way plain k h =
      let r = any_found (λ (e : Link). not (is_many m.metamodel e.feature) && is_at e.object e.feature k) (both_ends m.metamodel l) h in
      subst (λ f. is_plain m.metamodel f ≡ true) (at-feature r.0.object r.0.feature k (and_parts _ _ r.2).1)
      (ends-plain plain r.0 (In-both_ends m.metamodel l r.0 r.1))

  abbrev pub way : Link → Bool
  way k = list_any (gives_way m.metamodel l) (both_ends m.metamodel k)

  -- all values of a slot of one value give way
  pub way-all : (k : Link) → In k (both_ends m.metamodel l) → is_many m.metamodel k.feature ≡ false → stay_at way m k.object k.feature ≡ []
  way-all k i one =
      filter-none (λ v. not (way (link k.object k.feature v))) (slot m k.object k.feature)
      (λ v j.
      let here_too : Link = link k.object k.feature v in
      let gives : gives_way m.metamodel l here_too ≡ true = any_In (λ (e : Link). not (is_many m.metamodel e.feature) && is_at e.object e.feature here_too) (both_ends m.metamodel l) k i
      (λ x. not_from_false _ one x && is_at-itself k.object k.feature v x) in
      not_from_true _ (ends-this m.metamodel (gives_way m.metamodel l) here_too gives))

  -- and a slot of many values is not full
  space : stands m l ≡ false → finds_no_room m l ≡ false → (k : Link) → (l ≡ k) ⊎ Opposed m.metamodel l k → length (stay_at way m k.object k.feature) < room m.metamodel k.feature
  space new found k e =
      ⊎_elim
      (λ many.
      let free : list_any (λ (e : Link). is_many m.metamodel e.feature && is_full m e.object e.feature) (both_ends m.metamodel l) ≡ false = and-true _ _ (not_from_false _ new) found in
      let open_slot : is_full m k.object k.feature ≡ false = to_false _ (λ full. false≢true (sym free ∙ any_In (λ (e : Link). is_many m.metamodel e.feature && is_full m e.object e.feature) (both_ends m.metamodel l) k (In-end k e) (λ x. many x && full x))) in
      let below = leb-false _ _ open_slot in
      let few = filter-few (λ v. not (way (link k.object k.feature v))) (slot m k.object k.feature) in
      omega arith)
      (λ one. subst (λ vs. length vs < room m.metamodel k.feature) (sym (way-all k (In-end k e) one)) (one-space m.metamodel k.feature))
      (cases_Bool (is_many m.metamodel k.feature))

  linked : IsKnown m l → is_plain m.metamodel l.feature ≡ true → stands m l ≡ false → finds_no_room m l ≡ false → IsValid (change (gives_way m.metamodel l) (l ∷ []) m)
  linked known plain new found =
      valid _
      (sound-relink way (flat_map (both_ends m.metamodel) (l ∷ [])) m (sound m v)
      (fits-one m well (sound m v) (gives_way m.metamodel l) l known (absent m l new) (space new found)))
      (plain-housed m well (gives_way m.metamodel l) (l ∷ []) (plain_way plain) (λ k i. ends-plain plain k (only k i)) (housed m v))
    where
      only : (k : Link) → In k (l ∷ []) → (l ≡ k) ⊎ Opposed m.metamodel l k
      only k here = inl refl
      only k (there n) = elim n [ ]

  linked_up : IsKnown m l → is_plain m.metamodel l.feature ≡ true → finds_no_room m l ≡ false → IsValid (link_up l m)
  linked_up known plain found =
      elim (stands m l) as (λ b. stands m l ≡ b → IsValid (cond b m (change (gives_way m.metamodel l) (l ∷ []) m))) [
        | true ↦ λ e. v
        | false ↦ λ e. linked known plain e found
      ] refl

  kept_link : (many : Bool) (n : Contents) → unless (refusal_of_link many m l) (link_up l m) ≡ Ok n → IsValid n
  kept_link many n h =
      let a = accepted (refusal_of_link many m l) (link_up l m) n h in
      let is = link-accepted many m l a.0 in
      subst IsValid a.1 (linked_up (link-known m l is.plain) (link-plain m l is.plain) is.space)

pub kept_set : (m n : Contents) (o f : ℕ) (v : Scalar) → WellFormed m.metamodel → IsValid m → set m o f v ≡ Ok n → IsValid n
kept_set m n o f v well valid h = kept_link m well valid (link o f v) false n h

pub kept_add : (m n : Contents) (o f : ℕ) (v : Scalar) → WellFormed m.metamodel → IsValid m → add m o f v ≡ Ok n → IsValid n
kept_add m n o f v well valid h = kept_link m well valid (link o f v) true n h
