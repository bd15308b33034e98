-- Changes of one slot: by a slot that is replaced, by a new slot, and one after another.
use Rattle.std.proofs.Common.{◌≡◌, ℕ, Bool, true, false, List, [], ◌∷◌, ◌++◌, length, get_or, set, take, drop, Some, None, refl, sym, ap, subst, ◌∙◌, cond, ltb, eqb}
use Rattle.std.proofs.lemmas.Bool.{eqb-true, lt-ltb}
use Rattle.std.specs.Option.{option_map_or}
use Rattle.wb_store.specs.declared.scalars.Scalar.{Scalar}
use Rattle.wb_store.specs.declared.records.Slot.{Slot}
use Rattle.wb_store.specs.Places.{rises, numbered, IsPlaceOf}
use Rattle.wb_store.specs.Records.{feature_of, values_in, is_known_slot}
use Rattle.wb_store.specs.invariants.Slots.{IsGapFor, SlotsChange}
use Rattle.wb_store.proofs.Found.{numbered_read, numbered_none, is_itself}
use Rattle.wb_store.proofs.Placed.{rises-set, numbered-set, all-set, rises-insert, numbered-insert, none-gap, all-insert, pick}

itself : (b : Bool) (m n : ℕ) (x : List Scalar) (f : ℕ → List Scalar) → eqb m n ≡ b → f m ≡ cond b (f n) (f m)
itself true m n x f e = ap f (eqb-true m n e)
itself false m n x f e = refl

pub change_none : (f : ℕ) (slots : List Slot) → rises feature_of slots ≡ true → SlotsChange f (values_in f slots) slots slots
change_none f slots h = record { rise = h; known = λ mm l k. k; at = λ g. itself (eqb g f) g f [] (λ g. values_in g slots) refl }

pub change_set : (f : ℕ) (slots : List Slot) (i : ℕ) (s : Slot) → rises feature_of slots ≡ true → IsPlaceOf feature_of slots f (Some i) → s.feature ≡ f → SlotsChange f s.values slots (set slots i s)
change_set f slots i s h place is = record {
  rise = rises-set feature_of slots i s place.0 (is ∙ sym (place.1 s)) ∙ h;
  known = λ mm l k. all-set (is_known_slot mm) slots i s k (subst (λ f. ltb f (length mm.features) ≡ true) (sym is) (lt-ltb _ _ l));
  at = λ g.
      ap (λ r. option_map_or (λ (s : Slot). s.values) r []) (numbered-set feature_of slots i s g h place.0 (is ∙ sym (place.1 s)))
      ∙ pick (λ (s : Slot). s.values) [] (eqb g s.feature) s (numbered feature_of g slots)
      ∙ ap (λ f. cond (eqb g f) s.values (values_in g slots)) is;
}

pub change_insert : (f : ℕ) (slots : List Slot) (i : ℕ) (s : Slot) → rises feature_of slots ≡ true → IsGapFor feature_of slots f i → s.feature ≡ f → SlotsChange f s.values slots (take i slots ++ s ∷ drop i slots)
change_insert f slots i s h gap is =
    let own = subst (λ f. IsGapFor feature_of slots f i) (sym is) gap in
    record {
      rise = rises-insert feature_of slots i s h own;
      known = λ mm l k. all-insert (is_known_slot mm) slots i s k (subst (λ f. ltb f (length mm.features) ≡ true) (sym is) (lt-ltb _ _ l));
      at = λ g.
          ap (λ r. option_map_or (λ (s : Slot). s.values) r []) (numbered-insert feature_of slots i s g own)
          ∙ pick (λ (s : Slot). s.values) [] (eqb g s.feature) s (numbered feature_of g slots)
          ∙ ap (λ f. cond (eqb g f) s.values (values_in g slots)) is;
    }

pub none_in_gap : (f : ℕ) (slots : List Slot) (i : ℕ) → IsGapFor feature_of slots f i → values_in f slots ≡ []
none_in_gap f slots i gap = ap (λ r. option_map_or (λ (s : Slot). s.values) r []) (none-gap feature_of slots i f gap)

twice : (b : Bool) (x y z : List Scalar) → cond b x (cond b y z) ≡ cond b x z
twice true x y z = refl
twice false x y z = refl

pub change_then : (f : ℕ) (vs ws : List Scalar) (a b c : List Slot) → SlotsChange f vs a b → SlotsChange f ws b c → SlotsChange f ws a c
change_then f vs ws a b c p q = record {
  rise = q.rise;
  known = λ mm l k. q.known mm l (p.known mm l k);
  at = λ g. q.at g ∙ ap (cond (eqb g f) ws) (p.at g) ∙ twice (eqb g f) ws vs (values_in g a);
}

-- ---- the slot at a place

pub feature_there : (f : ℕ) (slots : List Slot) (i : ℕ) (s : Slot) → IsPlaceOf feature_of slots f (Some i) → s ≡ get_or slots i s → s.feature ≡ f
feature_there f slots i s place read = ap feature_of read ∙ place.1 s

pub values_there : (f : ℕ) (slots : List Slot) (i : ℕ) (s : Slot) → rises feature_of slots ≡ true → IsPlaceOf feature_of slots f (Some i) → s ≡ get_or slots i s → s.values ≡ values_in f slots
values_there f slots i s h place read = ap (λ r. option_map_or (λ (s : Slot). s.values) r []) (numbered_read feature_of slots f i s h place read)

pub no_values : (f : ℕ) (slots : List Slot) → IsPlaceOf feature_of slots f None → values_in f slots ≡ []
no_values f slots place = ap (λ r. option_map_or (λ (s : Slot). s.values) r []) (numbered_none feature_of slots f place)

-- the slot at a place gets other values
pub change_at : (f : ℕ) (slots : List Slot) (i : ℕ) (s : Slot) (vs : List Scalar) → rises feature_of slots ≡ true → IsPlaceOf feature_of slots f (Some i) → s ≡ get_or slots i s
    → SlotsChange f vs slots (set slots i (record { feature = s.feature; values = vs }))
change_at f slots i s vs h place read = change_set f slots i (record { feature = s.feature; values = vs }) h place (feature_there f slots i s place read)

pub values_now : (f : ℕ) (vs : List Scalar) (a b : List Slot) → SlotsChange f vs a b → values_in f b ≡ vs
values_now f vs a b p = p.at f ∙ ap (λ b. cond b vs (values_in f a)) (is_itself f)

pub change_is : {f : ℕ} {vs ws : List Scalar} {a b : List Slot} → vs ≡ ws → SlotsChange f vs a b → SlotsChange f ws a b
change_is {f} {vs} {ws} {a} {b} e p = subst (λ vs. SlotsChange f vs a b) e p
