-- What is written of a model is a value that its text spells.
use Rattle.std.proofs.Common.{◌≡◌, ◌≤◌, ℕ, ◌^◌, Bool, true, false, List, [], ◌∷◌, map, pos, negsuc, Some, None, refl, sym, subst, cond, ltb, arith}
use Rattle.std.proofs.lemmas.Bool.{and_parts, and_from, ltb-true}
use Rattle.std.proofs.lemmas.Bool.Decides.{nat_tests}
use Rattle.std.proofs.lemmas.Str.{IsUtf8-from_is_utf8, IsUtf8-nil}
use Rattle.std.specs.Prelude.{codes, slice_get, unwrap_or}
use Rattle.std.specs.Option.{option_map_or}
use Rattle.std.specs.List.{list_all}
use Rattle.std.specs.Str.{IsUtf8}
use Rattle.std.specs.FinMap.{entries, keys}
use Rattle.serde_json.specs.Data.{Data, number, string, object, no_members, member, unsigned}
use Rattle.serde_json.specs.Written.{compact_text}
use Rattle.serde_json.specs.View.{items_of}
use Rattle.wb_json.specs.ToJson.{list_json, members_json}
use Rattle.wb_base.specs.Names.{is_name, is_name_byte}
use Rattle.wb_json.specs.Json.{json_of}
use Rattle.wb_json.proofs.JsonTexts.{json_of_text}
use Rattle.json.proofs.Printed.Utf8.{are_ascii, IsUtf8-are_ascii}
use Rattle.wb_metamodel.specs.Metamodel.{Metamodel, features_of, enum_at}
use Rattle.wb_metamodel.specs.WellFormed.{WellFormed}
use Rattle.wb_ecore.specs.declared.classes.Enumeration.{Enumeration}
use Rattle.wb_store.specs.declared.scalars.Scalar.{Scalar}
use Rattle.wb_store.specs.declared.scalars.Scalar.TheVariants as scalars
use Rattle.wb_store.specs.Contents.{Contents}
use Rattle.wb_store.specs.Features.{is_many}
use Rattle.wb_validity.specs.Valid.{Valid}
use Rattle.wb_store.proofs.Members.{In, In-all, map-In}
use Rattle.wb_store.proofs.Members.In.{here, there}
use Rattle.wb_model_json.specs.ByName.{by_name}
use Rattle.wb_validity.specs.Ranges.{is_in_range}
use Rattle.wb_model_json.specs.Written.{literal_text, scalar_data, single_data, slot_data, named_slots, slots_data, class_name, object_of_class, object_data, number_data, model_data, text_of}
use Rattle.wb_validity.specs.Ranges.{AreInRange}
use Rattle.wb_model_json.proofs.InRange.{next-small, object-small}
use Rattle.wb_model_json.proofs.ReadBack.{read-compact_text}
use Rattle.wb_model_json.proofs.Shallow.{IsShallow, list-shallow, members-shallow}
use Rattle.wb_model_json.proofs.ByName.{json_members, put_all-by_name}
use Rattle.wb_model_json.proofs.WrittenModels.{root-small}
use Rattle.wb_model_json.proofs.WrittenObjects.{entry-kind, all-written, class-known, name-known}
use Rattle.wb_model_json.proofs.WrittenSlots.{name-read}
use Rattle.wb_model_json.proofs.WrittenTexts.{HasTexts, ItemsHaveTexts, MembersHaveTexts, IsUtf8-compact_text}

narrow : (n : ℕ) → ltb n (2 ^ 63) ≡ true → ltb n (2 ^ 64) ≡ true
narrow n h = grind (arith, nat_tests)

narrower : (n : ℕ) → ltb n (2 ^ 32) ≡ true → ltb n (2 ^ 64) ≡ true
narrower n h = grind (arith, nat_tests)

pub number-shallow : (n : ℕ) → ltb n (2 ^ 32) ≡ true → IsShallow 0 (number_data n)
number-shallow n h = record { sayable = ltb-true _ _ (narrower n h); shallow = omega arith }

pub scalar-shallow : (mm : Metamodel) (v : Scalar) → is_in_range v ≡ true → IsShallow 0 (scalar_data mm v)
scalar-shallow mm (scalars.Int (pos n)) h = record { sayable = ltb-true _ _ (narrow n h); shallow = omega arith }
scalar-shallow mm (scalars.Int (negsuc n)) h = record { sayable = ltb-true _ _ h; shallow = omega arith }
scalar-shallow mm (scalars.Bool b) h = record { sayable = tt; shallow = omega arith }
scalar-shallow mm (scalars.Text text) h = record { sayable = tt; shallow = omega arith }
scalar-shallow mm (scalars.Literal e l) h = record { sayable = tt; shallow = omega arith }
scalar-shallow mm (scalars.Object o) h = number-shallow o h

deeper : (n k : ℕ) (d : Data) → n ≤ k → IsShallow n d → IsShallow k d
deeper n k d h s = let below = s.shallow in record { sayable = s.sayable; shallow = omega arith }

single-shallow : (mm : Metamodel) (values : List Scalar) → list_all is_in_range values ≡ true → IsShallow 1 (single_data mm values)
single-shallow mm [] h = record { sayable = tt; shallow = omega arith }
single-shallow mm (v ∷ values) h = deeper 0 1 (scalar_data mm v) (omega arith) (scalar-shallow mm v (and_parts _ _ h).0)

pub slot-shallow : (mm : Metamodel) (s : ℕ × List Scalar) → list_all is_in_range s.1 ≡ true → IsShallow 1 (slot_data mm s)
unfolding slot_data
slot-shallow mm s h =
    elim (is_many mm s.0) as (λ b. IsShallow 1 (cond b (list_json (scalar_data mm) s.1) (single_data mm s.1))) [
      | true ↦ list-shallow (scalar_data mm) 0 s.1 (λ v i. scalar-shallow mm v (In-all is_in_range s.1 v h i))
      | false ↦ single-shallow mm s.1 h
    ]

-- an object with its class and its slots
pub object-shallow : (name : List ℕ) (o : ℕ) (slots : Data) → ltb o (2 ^ 32) ≡ true → IsShallow 2 slots
    → IsShallow 3 (object (member (codes "class") (string name) (member (codes "id") (number (unsigned o)) (member (codes "slots") slots no_members))))
object-shallow name o slots h s = let below = s.shallow in record {
  sayable = ((refl, (refl, tt)), tt, ((refl, tt), ltb-true _ _ (narrower o h), (tt, s.sayable, tt)));
  shallow = omega arith;
}

pub model-shallow : (next : ℕ) (objects roots : Data) → ltb next (2 ^ 32) ≡ true → IsShallow 4 objects → IsShallow 1 roots
    → IsShallow 5 (object (member (codes "next") (number (unsigned next)) (member (codes "objects") objects (member (codes "roots") roots no_members))))
model-shallow next objects roots h s t = let below = s.shallow in let below_too = t.shallow in record {
  sayable = ((refl, (refl, tt)), ltb-true _ _ (narrower next h), ((refl, tt), s.sayable, (tt, t.sayable, tt)));
  shallow = omega arith;
}

-- ---- texts

name_byte_ascii : (c : ℕ) → is_name_byte c ≡ true → ltb c 128 ≡ true
name_byte_ascii c h = grind (arith, nat_tests)

bytes_ascii : (cs : List ℕ) → list_all is_name_byte cs ≡ true → are_ascii cs ≡ true
bytes_ascii [] h = refl
bytes_ascii (c ∷ cs) h = and_from _ _ (name_byte_ascii c (and_parts _ _ h).0) (bytes_ascii cs (and_parts _ _ h).1)

pub name-utf8 : (name : List ℕ) → is_name name ≡ true → IsUtf8 name
unfolding is_name
name-utf8 name h = IsUtf8-are_ascii name (bytes_ascii name (and_parts _ _ h).1)

module _ {A : Type 0} (json : A → Data) where
  items-texts : (xs : List A) → ((x : A) → In x xs → HasTexts (json x)) → ItemsHaveTexts (items_of (map json xs))
  items-texts [] h = tt
  items-texts (x ∷ xs) h = (h x here, items-texts xs (λ y i. h y (there i)))

  list-texts : (xs : List A) → ((x : A) → In x xs → HasTexts (json x)) → HasTexts (list_json json xs)
  unfolding list_json
  list-texts xs h = items-texts xs h

  members-texts-of : (ns : List (List ℕ × A)) → ((n : List ℕ × A) → In n ns → IsUtf8 n.0 × HasTexts (json n.1)) → MembersHaveTexts (json_members json ns)
  members-texts-of [] h = tt
  members-texts-of (n ∷ ns) h = ((h n here).0, (h n here).1, members-texts-of ns (λ m i. h m (there i)))

  members-texts : (ms : List (List ℕ × A)) → ((n : List ℕ × A) → In n (by_name ms) → IsUtf8 n.0 × HasTexts (json n.1)) → HasTexts (members_json json ms)
  unfolding members_json
  members-texts ms h = subst (λ found. HasTexts (object found)) (sym (put_all-by_name json ms)) (members-texts-of (by_name ms) h)

module _ (mm : Metamodel) (formed : WellFormed mm) where
  literal-utf8 : (e l : ℕ) → IsUtf8 (literal_text mm e l)
  literal-utf8 e l =
      elim (enum_at mm e) as (λ o. enum_at mm e ≡ o → IsUtf8 (unwrap_or (slice_get (option_map_or (λ (one : Enumeration). one.literals) o []) l) [])) [
        | None ↦ λ is. IsUtf8-nil
        | Some one ↦ λ is. elim (slice_get one.literals l) as (λ r. slice_get one.literals l ≡ r → IsUtf8 (unwrap_or r [])) [
          | None ↦ λ at. IsUtf8-nil
          | Some literal ↦ λ at. name-utf8 literal (formed.literals_are_names e l one literal is at)
        ] refl
      ] refl

  scalar-texts : (v : Scalar) → is_in_range v ≡ true → HasTexts (scalar_data mm v)
  scalar-texts (scalars.Int (pos n)) h = ltb-true _ _ (narrow n h)
  scalar-texts (scalars.Int (negsuc n)) h = ltb-true _ _ h
  scalar-texts (scalars.Bool b) h = tt
  scalar-texts (scalars.Text text) h = IsUtf8-from_is_utf8 text h
  scalar-texts (scalars.Literal e l) h = literal-utf8 e l
  scalar-texts (scalars.Object o) h = ltb-true _ _ (narrower o h)

  single-texts : (values : List Scalar) → list_all is_in_range values ≡ true → HasTexts (single_data mm values)
  single-texts [] h = tt
  single-texts (v ∷ values) h = scalar-texts v (and_parts _ _ h).0

  slot-texts : (s : ℕ × List Scalar) → list_all is_in_range s.1 ≡ true → HasTexts (slot_data mm s)
  unfolding slot_data
  slot-texts s h =
      elim (is_many mm s.0) as (λ b. HasTexts (cond b (list_json (scalar_data mm) s.1) (single_data mm s.1))) [
        | true ↦ list-texts (scalar_data mm) s.1 (λ v i. scalar-texts v (In-all is_in_range s.1 v h i))
        | false ↦ single-texts s.1 h
      ]

-- ---- a model

module _ (m : Contents) (formed : WellFormed m.metamodel) (v : Valid m) (s : AreInRange m) where
  slots-shallow : (o c : ℕ) → IsShallow 2 (slots_data m o c)
  slots-shallow o c = members-shallow (slot_data m.metamodel) 1 (named_slots m o (features_of m.metamodel c)) (λ n i. slot-shallow m.metamodel n.1 (all-written m formed v s o c n i).sayable)

  pub slots-texts : (e : ℕ × ℕ) → In e (entries m.kinds) → HasTexts (slots_data m e.0 e.1)
  slots-texts e j = members-texts (slot_data m.metamodel) (named_slots m e.0 (features_of m.metamodel e.1)) (λ n i.
      let w = all-written m formed v s e.0 e.1 n i in
      (name-utf8 n.0 (name-read m.metamodel formed e.1 (class-known m formed v s e j) n w), slot-texts m.metamodel formed n.1 w.sayable))

  keyed : (P : ℕ → Type 0) → ((e : ℕ × ℕ) → In e (entries m.kinds) → P e.0) → (o : ℕ) → In o (keys m.kinds) → P o
  keyed P h o i = let e = map-In (λ (e : ℕ × ℕ). e.0) (entries m.kinds) o i in subst P (sym e.2) (h e.0 e.1)

  kept-shallow : (e : ℕ × ℕ) → In e (entries m.kinds) → IsShallow 3 (object_data m e.0)
  unfolding object_data
  kept-shallow e i = subst (λ k. IsShallow 3 (object_of_class m e.0 k)) (sym (entry-kind m e.0 e.1 i)) (object-shallow (class_name m.metamodel e.1) e.0 (slots_data m e.0 e.1) (object-small m v e i) (slots-shallow e.0 e.1))

  kept-texts : (e : ℕ × ℕ) → In e (entries m.kinds) → HasTexts (object_data m e.0)
  unfolding object_data
  kept-texts e i = subst (λ k. HasTexts (object_of_class m e.0 k)) (sym (entry-kind m e.0 e.1 i)) (
    IsUtf8-are_ascii (codes "class") refl,
    name-utf8 (class_name m.metamodel e.1) (name-known m formed v s e i),
    (IsUtf8-are_ascii (codes "id") refl, ltb-true _ _ (narrower e.0 (object-small m v e i)), (IsUtf8-are_ascii (codes "slots") refl, slots-texts e i, tt)),
  )

  all-shallow : IsShallow 5 (model_data m)
  unfolding model_data
  all-shallow = model-shallow m.next _ _ (next-small m v)
      (list-shallow (object_data m) 3 (keys m.kinds) (keyed (λ o. IsShallow 3 (object_data m o)) kept-shallow))
      (list-shallow number_data 0 m.roots (λ o i. number-shallow o (root-small m formed v s o i)))

  all-texts : HasTexts (model_data m)
  unfolding model_data
  all-texts = (
    IsUtf8-are_ascii (codes "next") refl,
    ltb-true _ _ (narrower m.next (next-small m v)),
    (
      IsUtf8-are_ascii (codes "objects") refl,
      list-texts (object_data m) (keys m.kinds) (keyed (λ o. HasTexts (object_data m o)) kept-texts),
      (IsUtf8-are_ascii (codes "roots") refl, list-texts number_data m.roots (λ o i. ltb-true _ _ (narrower o (root-small m formed v s o i))), tt),
    ),
  )

  -- the text of a model spells its value
  pub text-spells : json_of (text_of m) ≡ Some (model_data m)
  unfolding text_of
  text-spells = let small = all-shallow.shallow in json_of_text (compact_text (model_data m)) (Some (model_data m)) (IsUtf8-compact_text (model_data m) all-texts) (read-compact_text (model_data m) all-shallow.sayable (omega arith))
