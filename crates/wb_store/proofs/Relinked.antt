-- What stands in each slot of a model that is made anew from its links, and when two models are equal.
use Rattle.std.proofs.Common.{◌≡◌, ℕ, Bool, true, false, not, ◌&&◌, List, [], ◌∷◌, ◌++◌, map, Option, Some, None, refl, sym, ap, ◌∙◌, cond, eqb, arith, append-nil, append_assoc, T}
use Rattle.std.proofs.lemmas.Bool.{and_parts, eqb-true}
use Rattle.std.proofs.lemmas.Bool.Decides.{nat_tests}
use Rattle.std.proofs.lemmas.Cmp.{nat_cmp_total}
use Rattle.std.specs.Prelude.{filter}
use Rattle.std.specs.Ordering.{eq_by_cmp, is_lt}
use Rattle.std.specs.Option.{option_map_or}
use Rattle.std.specs.List.{list_any, flat_map}
use Rattle.std.specs.FinMap.{FinMap, find, is_sorted, entries, entries_sorted, empty, get, get-empty, get-entries, get-insert, same_map, nat_cmp-IsAntisymmetric}
use Rattle.std.specs.FinMap.Entries.{below_all}
use Rattle.wb_store.specs.declared.scalars.Scalar.{Scalar}
use Rattle.wb_store.specs.Contents.{Contents, Filled, members, slot_cmp, kind, slot}
use Rattle.wb_store.specs.Relinking.{Link, link, links, with_last, put_last, slots_from, relink, both_ends, change, is_at}
use Rattle.wb_store.proofs.Found.{is_itself}
use Rattle.wb_store.proofs.Maps.{slot_cmp_total, slot_cmp-IsAntisymmetric}

-- the values of the links that stand at an object and a feature, in order
abbrev pub values_at : ℕ → ℕ → List Link → List Scalar
values_at o f [] = []
values_at o f (l ∷ ls) = cond (is_at o f l) (l.value ∷ values_at o f ls) (values_at o f ls)

-- ---- which links stand at a slot

-- a link that stands there is told by its value
pub is_at-link : (o f : ℕ) (l : Link) → is_at o f l ≡ true → l ≡ link o f l.value
is_at-link o f l h =
    let both = and_parts (eqb l.object o) (eqb l.feature f) h in
    let a : l.object ≡ o = eqb-true _ _ both.0 in
    let b : l.feature ≡ f = eqb-true _ _ both.1 in
    λ i. link (a i) (b i) l.value

pub is_at-itself : (o f : ℕ) (v : Scalar) → is_at o f (link o f v) ≡ true
is_at-itself o f v = λ i. is_itself o i && is_itself f i

tie : (o f p g : ℕ) → eq_by_cmp slot_cmp (o, f) (p, g) ≡ (eqb p o && eqb g f)
tie o f p g = grind (arith, nat_tests)

below_apart : (o f p g : ℕ) → is_lt (slot_cmp (o, f) (p, g)) ≡ true → (eqb p o && eqb g f) ≡ false
below_apart o f p g h = grind (arith, nat_tests)

pub values_at-append : (o f : ℕ) (ls ks : List Link) → values_at o f (ls ++ ks) ≡ values_at o f ls ++ values_at o f ks
values_at-append o f [] ks = refl
values_at-append o f (l ∷ ls) ks =
    elim (is_at o f l) as (λ b. cond b (l.value ∷ values_at o f (ls ++ ks)) (values_at o f (ls ++ ks)) ≡ cond b (l.value ∷ values_at o f ls) (values_at o f ls) ++ values_at o f ks) [
      | true ↦ ap (λ vs. l.value ∷ vs) (values_at-append o f ls ks)
      | false ↦ values_at-append o f ls ks
    ]

pub values_at-filter : (o f : ℕ) (p : Link → Bool) (ls : List Link) → values_at o f (filter p ls) ≡ filter (λ v. p (link o f v)) (values_at o f ls)
values_at-filter o f p [] = refl
values_at-filter o f p (l ∷ ls) =
    let q : Scalar → Bool = λ v. p (link o f v) in
    let later = values_at-filter o f p ls in
    elim (is_at o f l) as (λ b. is_at o f l ≡ b → values_at o f (cond (p l) (l ∷ filter p ls) (filter p ls)) ≡ filter q (cond b (l.value ∷ values_at o f ls) (values_at o f ls))) [
      | true ↦ λ t.
          elim (p l) as (λ b. p l ≡ b → values_at o f (cond b (l ∷ filter p ls) (filter p ls)) ≡ cond (q l.value) (l.value ∷ filter q (values_at o f ls)) (filter q (values_at o f ls))) [
            | true ↦ λ e.
                ap (λ b. cond b (l.value ∷ values_at o f (filter p ls)) (values_at o f (filter p ls))) t
                ∙ ap (λ vs. l.value ∷ vs) later
                ∙ ap (λ b. cond b (l.value ∷ filter q (values_at o f ls)) (filter q (values_at o f ls))) (sym e ∙ ap p (is_at-link o f l t))
            | false ↦ λ e. later ∙ ap (λ b. cond b (l.value ∷ filter q (values_at o f ls)) (filter q (values_at o f ls))) (sym e ∙ ap p (is_at-link o f l t))
          ] refl
      | false ↦ λ t.
          elim (p l) as (λ b. values_at o f (cond b (l ∷ filter p ls) (filter p ls)) ≡ filter q (values_at o f ls)) [
            | true ↦ ap (λ b. cond b (l.value ∷ values_at o f (filter p ls)) (values_at o f (filter p ls))) t ∙ later
            | false ↦ later
          ]
    ] refl

-- ---- slots with one more value

-- the values of an object and a feature
abbrev pub slot_in : FinMap slot_cmp Filled → ℕ → ℕ → List Scalar
slot_in slots o f = option_map_or members (get slots (o, f)) []

members-with_last : (r : Option Filled) (v : Scalar) → members (with_last r v) ≡ option_map_or members r [] ++ v ∷ []
members-with_last None v = refl
members-with_last (Some values) v = refl

slot-put_last : (slots : FinMap slot_cmp Filled) (l : Link) (o f : ℕ) → slot_in (put_last slots l) o f ≡ slot_in slots o f ++ cond (is_at o f l) (l.value ∷ []) []
slot-put_last slots l o f =
    let more = with_last (get slots (l.object, l.feature)) l.value in
    ap (λ r. option_map_or members r []) (get-insert slot_cmp_total slots (l.object, l.feature) more (o, f))
    ∙ ap (λ b. option_map_or members (cond b (Some more) (get slots (o, f))) []) (tie o f l.object l.feature)
    ∙ elim (is_at o f l) as (λ b. is_at o f l ≡ b → option_map_or members (cond b (Some more) (get slots (o, f))) [] ≡ slot_in slots o f ++ cond b (l.value ∷ []) []) [
      | true ↦ λ t. members-with_last (get slots (l.object, l.feature)) l.value ∙ ap (λ (k : Link). slot_in slots k.object k.feature ++ l.value ∷ []) (is_at-link o f l t)
      | false ↦ λ t. sym (append-nil (slot_in slots o f))
    ] refl

cond-append : (b : Bool) (v : Scalar) (vs : List Scalar) → cond b (v ∷ []) [] ++ vs ≡ cond b (v ∷ vs) vs
cond-append true v vs = refl
cond-append false v vs = refl

pub slot-slots_from : (slots : FinMap slot_cmp Filled) (ls : List Link) (o f : ℕ) → slot_in (slots_from slots ls) o f ≡ slot_in slots o f ++ values_at o f ls
unfolding slots_from
slot-slots_from slots [] o f = sym (append-nil (slot_in slots o f))
slot-slots_from slots (l ∷ ls) o f =
    slot-slots_from (put_last slots l) ls o f
    ∙ ap (λ vs. vs ++ values_at o f ls) (slot-put_last slots l o f)
    ∙ append_assoc (slot_in slots o f) (cond (is_at o f l) (l.value ∷ []) []) (values_at o f ls)
    ∙ ap (λ vs. slot_in slots o f ++ vs) (cond-append (is_at o f l) l.value (values_at o f ls))

-- ---- the links of a model

entry_links : (ℕ × ℕ) × Filled → List Link
entry_links e = map (link e.0.0 e.0.1) (members e.1)

at_own : (o f : ℕ) (vs : List Scalar) → values_at o f (map (link o f) vs) ≡ vs
at_own o f [] = refl
at_own o f (v ∷ vs) = ap (λ b. cond b (v ∷ values_at o f (map (link o f) vs)) (values_at o f (map (link o f) vs))) (is_at-itself o f v) ∙ ap (λ ws. v ∷ ws) (at_own o f vs)

at_other : (o f p g : ℕ) (vs : List Scalar) → (eqb p o && eqb g f) ≡ false → values_at o f (map (link p g) vs) ≡ []
at_other o f p g [] h = refl
at_other o f p g (v ∷ vs) h = ap (λ b. cond b (v ∷ values_at o f (map (link p g) vs)) (values_at o f (map (link p g) vs))) h ∙ at_other o f p g vs h

at_later : (o f : ℕ) (es : List ((ℕ × ℕ) × Filled)) → below_all slot_cmp (o, f) es ≡ true → values_at o f (flat_map entry_links es) ≡ []
unfolding entry_links
at_later o f [] h = refl
at_later o f (e ∷ es) h =
    values_at-append o f (entry_links e) (flat_map entry_links es)
    ∙ (λ i. at_other o f e.0.0 e.0.1 (members e.1) (below_apart o f e.0.0 e.0.1 (and_parts _ _ h).0) i ++ at_later o f es (and_parts _ _ h).1 i)

at_entries : (o f : ℕ) (es : List ((ℕ × ℕ) × Filled)) → is_sorted slot_cmp es ≡ true → values_at o f (flat_map entry_links es) ≡ option_map_or members (find slot_cmp (o, f) es) []
unfolding entry_links
at_entries o f [] h = refl
at_entries o f (e ∷ es) h =
    values_at-append o f (entry_links e) (flat_map entry_links es)
    ∙ elim (eqb e.0.0 o && eqb e.0.1 f) as (λ b. (eqb e.0.0 o && eqb e.0.1 f) ≡ b → values_at o f (entry_links e) ++ values_at o f (flat_map entry_links es) ≡ option_map_or members (cond b (Some e.1) (find slot_cmp (o, f) es)) []) [
      | true ↦ λ t.
          let both = and_parts (eqb e.0.0 o) (eqb e.0.1 f) t in
          let a : e.0.0 ≡ o = eqb-true _ _ both.0 in
          let b : e.0.1 ≡ f = eqb-true _ _ both.1 in
          let own : values_at o f (entry_links e) ≡ members e.1 = ap (λ (k : ℕ × ℕ). values_at o f (map (link k.0 k.1) (members e.1))) (λ i. (a i, b i)) ∙ at_own o f (members e.1) in
          let rest : values_at o f (flat_map entry_links es) ≡ [] = at_later o f es (ap (λ (k : ℕ × ℕ). below_all slot_cmp k es) (λ i. (sym a i, sym b i)) ∙ (and_parts _ _ h).0) in
          (λ i. own i ++ rest i) ∙ append-nil (members e.1)
      | false ↦ λ t. (λ i. at_other o f e.0.0 e.0.1 (members e.1) t i ++ at_entries o f es (and_parts _ _ h).1 i)
    ] refl
    ∙ ap (λ b. option_map_or members (cond b (Some e.1) (find slot_cmp (o, f) es)) []) (sym (tie o f e.0.0 e.0.1))

pub true-of : (b : Bool) → T b → b ≡ true
true-of true t = refl
true-of false t = absurd t

-- a slot has the values of the links that stand there
pub values_at-links : (m : Contents) (o f : ℕ) → values_at o f (links m) ≡ slot m o f
unfolding entry_links
values_at-links m o f = at_entries o f (entries m.slots) (true-of _ (entries_sorted m.slots)) ∙ ap (λ r. option_map_or members r []) (sym (get-entries m.slots (o, f)))

-- ---- slots of a model after a change

pub slot-relink : (leaves : Link → Bool) (comes : List Link) (m : Contents) (o f : ℕ)
    → slot (relink leaves comes m) o f ≡ filter (λ v. not (leaves (link o f v))) (slot m o f) ++ values_at o f comes
unfolding relink
slot-relink leaves comes m o f =
    let stays : Link → Bool = λ l. not (leaves l) in
    slot-slots_from empty (filter stays (links m) ++ comes) o f
    ∙ ap (λ r. option_map_or members r [] ++ values_at o f (filter stays (links m) ++ comes)) (get-empty {X = Filled} slot_cmp (o, f))
    ∙ values_at-append o f (filter stays (links m)) comes
    ∙ ap (λ vs. vs ++ values_at o f comes) (values_at-filter o f stays (links m) ∙ ap (filter (λ v. not (leaves (link o f v)))) (values_at-links m o f))

pub slot-change : (leaves : Link → Bool) (comes : List Link) (m : Contents) (o f : ℕ)
    → slot (change leaves comes m) o f ≡ filter (λ v. not (list_any leaves (both_ends m.metamodel (link o f v)))) (slot m o f) ++ values_at o f (flat_map (both_ends m.metamodel) comes)
slot-change leaves comes m o f = slot-relink (λ l. list_any leaves (both_ends m.metamodel l)) (flat_map (both_ends m.metamodel) comes) m o f

-- all else stays
pub kind-relink : (leaves : Link → Bool) (comes : List Link) (m : Contents) (o : ℕ) → kind (relink leaves comes m) o ≡ kind m o
unfolding relink
kind-relink leaves comes m o = refl

-- ---- equal models

same_filled : (r s : Option Filled) → option_map_or members r [] ≡ option_map_or members s [] → r ≡ s
same_filled None None e = refl
same_filled None (Some b) e = cc
same_filled (Some a) None e = cc
same_filled (Some a) (Some b) e =
    let first : a.first ≡ b.first = cc in
    let more : a.more ≡ b.more = cc in
    λ i. Some (record { first = first i; more = more i })

-- two models are equal where they have the same metamodel, number, roots, classes and slots
pub same_contents : (m n : Contents) → m.metamodel ≡ n.metamodel → m.next ≡ n.next → m.roots ≡ n.roots → ((o : ℕ) → kind m o ≡ kind n o) → ((o f : ℕ) → slot m o f ≡ slot n o f) → m ≡ n
same_contents m n metamodel next roots kinds slots =
    let same_kinds : m.kinds ≡ n.kinds = same_map nat_cmp_total nat_cmp-IsAntisymmetric m.kinds n.kinds kinds in
    let same_slots : m.slots ≡ n.slots = same_map slot_cmp_total slot_cmp-IsAntisymmetric m.slots n.slots (λ k. same_filled (get m.slots k) (get n.slots k) (slots k.0 k.1)) in
    λ i. record { metamodel = metamodel i; next = next i; kinds = same_kinds i; slots = same_slots i; roots = roots i }

-- ---- what a change of links leaves as it was

pub metamodel-relink : (leaves : Link → Bool) (comes : List Link) (m : Contents) → (relink leaves comes m).metamodel ≡ m.metamodel
unfolding relink
metamodel-relink leaves comes m = refl

pub next-relink : (leaves : Link → Bool) (comes : List Link) (m : Contents) → (relink leaves comes m).next ≡ m.next
unfolding relink
next-relink leaves comes m = refl

pub kinds-relink : (leaves : Link → Bool) (comes : List Link) (m : Contents) → (relink leaves comes m).kinds ≡ m.kinds
unfolding relink
kinds-relink leaves comes m = refl

pub roots-relink : (leaves : Link → Bool) (comes : List Link) (m : Contents) → (relink leaves comes m).roots ≡ m.roots
unfolding relink
roots-relink leaves comes m = refl

-- ---- tests that nothing passes

pub none-any : (ls : List Link) → list_any (λ k. false) ls ≡ false
none-any [] = refl
none-any (l ∷ ls) = none-any ls
