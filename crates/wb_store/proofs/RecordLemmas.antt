-- Changes of one slot in a list of objects.
use Rattle.std.proofs.Common.{◌≡◌, ℕ, ◌<◌, Bool, true, false, ◌&&◌, List, [], ◌∷◌, length, get_or, set, map, Option, Some, None, refl, sym, ap, subst, ◌∙◌, cond, ltb, eqb, arith, suc, zero, Result, Ok, Err}
use Rattle.std.specs.Prelude.{OnOk, OnErr, IsSome, is_err}
use Rattle.std.proofs.lemmas.Bool.{and_parts, eqb-true, false≢true}
use Rattle.std.specs.Option.{option_map_or}
use Rattle.std.specs.List.{list_all}
use Rattle.wb_metamodel.specs.Metamodel.{Metamodel}
use Rattle.wb_store.specs.declared.scalars.Scalar.{Scalar}
use Rattle.wb_store.specs.declared.records.Record.{Record}
use Rattle.wb_store.specs.declared.records.Slot.{Slot}
use Rattle.wb_store.specs.Places.{rises, numbered, IsPlaceOf}
use Rattle.wb_store.specs.Records.{id_of, feature_of, values_in, is_known_slot, is_known, kind_entry}
use Rattle.wb_store.specs.invariants.Slots.{SlotsChange, held_at, RecordsChange}
use Rattle.wb_store.proofs.Found.{all_numbered, numbered_read, numbered_none}
use Rattle.wb_store.proofs.Placed.{rises-set, numbered-set, all-set, pick}

map-set : {A B : Type 0} (f : A → B) (xs : List A) (i : ℕ) (x : A) → f x ≡ f (get_or xs i x) → i < length xs → map f (set xs i x) ≡ map f xs
map-set f [] i x e l = refl
map-set f (y ∷ ys) zero x e l = λ j. e j ∷ map f ys
map-set f (y ∷ ys) (suc i) x e l = λ j. f y ∷ map-set f ys i x e (omega arith) j

read_from : {A : Type 0} (xs : List A) (i : ℕ) (x y : A) → i < length xs → get_or xs i x ≡ get_or xs i y
read_from [] i x y l = absurd (omega arith)
read_from (z ∷ xs) zero x y l = refl
read_from (z ∷ xs) (suc i) x y l = read_from xs i x y (omega arith)

module _ (o : ℕ) (records : List Record) (i : ℕ) (r : Record) (rise : rises id_of records ≡ true) (place : IsPlaceOf id_of records o (Some i)) (read : r ≡ get_or records i r) where
  pub record_there : Some r ≡ numbered id_of o records
  record_there = numbered_read id_of records o i r rise place read

  pub held_there : (f : ℕ) → values_in f r.slots ≡ held_at o f records
  held_there f = ap (λ q. option_map_or (λ (r : Record). values_in f r.slots) q []) record_there

  pub slots_there : list_all (λ (r : Record). rises feature_of r.slots) records ≡ true → rises feature_of r.slots ≡ true
  slots_there h = all_numbered id_of (λ (r : Record). rises feature_of r.slots) records o r h record_there

  id_there : r.id ≡ o
  id_there = ap id_of read ∙ place.1 r

  module _ (f : ℕ) (vs : List Scalar) (slots : List Slot) (change : SlotsChange f vs r.slots slots) where
    own : Record
    own = record { id = r.id; class = r.class; slots = slots }

    same_id : id_of own ≡ id_of (get_or records i own)
    unfolding own
    same_id = ap id_of read ∙ ap id_of (read_from records i r own place.0)

    same_entry : kind_entry own ≡ kind_entry (get_or records i own)
    unfolding own
    same_entry = ap kind_entry read ∙ ap kind_entry (read_from records i r own place.0)

    known_own : (mm : Metamodel) → f < length mm.features → list_all (is_known mm) records ≡ true → is_known mm own ≡ true
    unfolding own
    known_own mm l h =
        let parts = and_parts (ltb r.class (length mm.classes)) (list_all (is_known_slot mm) r.slots) (all_numbered id_of (is_known mm) records o r h record_there) in
        λ j. parts.0 j && change.known mm l parts.1 j

    held_own : (p g : ℕ) → cond (eqb p o) (values_in g slots) (held_at p g records) ≡ cond (eqb p o && eqb g f) vs (held_at p g records)
    held_own p g =
        elim (eqb p o) as (λ b. eqb p o ≡ b → cond b (values_in g slots) (held_at p g records) ≡ cond (b && eqb g f) vs (held_at p g records)) [
          | true ↦ λ t. change.at g ∙ ap (cond (eqb g f) vs) (held_there g ∙ ap (λ p. held_at p g records) (sym (eqb-true p o t)))
          | false ↦ λ t. refl
        ] refl

    pub records_change : RecordsChange o f vs records (set records i (record { id = r.id; class = r.class; slots = slots }))
    unfolding own
    records_change = record {
      kinds = map-set kind_entry records i own same_entry place.0;
      plain = λ mm l plain. record {
        objects_rise = rises-set id_of records i own place.0 same_id ∙ rise;
        slots_rise = all-set (λ (r : Record). rises feature_of r.slots) records i own plain.slots_rise change.rise;
        known = all-set (is_known mm) records i own plain.known (known_own mm l plain.known);
      };
      at = λ p g.
          ap (λ q. option_map_or (λ (r : Record). values_in g r.slots) q []) (numbered-set id_of records i own p rise place.0 same_id)
          ∙ pick (λ (r : Record). values_in g r.slots) [] (eqb p own.id) own (numbered id_of p records)
          ∙ ap (λ n. cond (eqb p n) (values_in g slots) (held_at p g records)) id_there
          ∙ held_own p g;
    }

itself : (b c : Bool) (p o g f : ℕ) (held : ℕ → ℕ → List Scalar) → eqb p o ≡ b → eqb g f ≡ c → held p g ≡ cond (b && c) (held o f) (held p g)
itself true true p o g f held e h = (λ i. held (eqb-true p o e i) (eqb-true g f h i))
itself true false p o g f held e h = refl
itself false c p o g f held e h = refl

pub records_same : (o f : ℕ) (records : List Record) → RecordsChange o f (held_at o f records) records records
records_same o f records = record { kinds = refl; plain = λ mm l plain. plain; at = λ p g. itself (eqb p o) (eqb g f) p o g f (λ p g. held_at p g records) refl refl }

pub none_held : (o f : ℕ) (records : List Record) → IsPlaceOf id_of records o None → held_at o f records ≡ []
none_held o f records place = ap (λ q. option_map_or (λ (r : Record). values_in f r.slots) q []) (numbered_none id_of records o place)

pub records_is : {o f : ℕ} {vs ws : List Scalar} {a b : List Record} → vs ≡ ws → RecordsChange o f vs a b → RecordsChange o f ws a b
records_is {o} {f} {vs} {ws} {a} {b} e p = subst (λ vs. RecordsChange o f vs a b) e p

-- the slots of the object at a place are taken out, changed, and put back
module _ (o : ℕ) (records : List Record) (i : ℕ) (r : Record) (rise : rises id_of records ≡ true) (place : IsPlaceOf id_of records o (Some i)) (read : r ≡ get_or records i r) (f : ℕ) (out : List Slot) (taken : out ≡ r.slots) where
  pub held_out : values_in f out ≡ held_at o f records
  held_out = ap (values_in f) taken ∙ held_there o records i r rise place read f

  pub put_back : (vs : List Scalar) (changed back : List Slot) → back ≡ changed → SlotsChange f vs out changed → RecordsChange o f vs records (set records i (record { id = r.id; class = r.class; slots = back }))
  put_back vs changed back e change =
      subst (λ (slots : List Slot). RecordsChange o f vs records (set records i (record { id = r.id; class = r.class; slots = slots }))) (sym e)
      (records_change o records i r rise place read f vs changed (subst (λ (slots : List Slot). SlotsChange f vs slots changed) taken change))

pub none_some : {A : Type 0} (r : Option A) → r ≡ None → IsSome r → ⊥
none_some None e h = false≢true h
none_some (Some x) e h = cc

pub on_ok : {A E : Type 0} {P Q : Type 0} (r : Result A E) → (P → Q) → OnOk r P → OnOk r Q
on_ok (Ok x) f p = f p
on_ok (Err e) f p = tt

pub on_err : {A E : Type 0} {P Q : Type 0} (r : Result A E) → (P → Q) → OnErr r P → OnErr r Q
on_err (Ok x) f p = tt
on_err (Err e) f p = f p

pub err_at : {A E : Type 0} {P : Type 0} (r : Result A E) → is_err r ≡ true → OnErr r P → P
err_at (Ok x) h p = absurd (false≢true h)
err_at (Err e) h p = p
