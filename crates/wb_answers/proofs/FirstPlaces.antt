-- How the objects among values, each at its first place, grow by a value.
use Rattle.std.proofs.Common.{◌≡◌, ℕ, ◌+◌, ◌<◌, Bool, true, false, cond, eqb, nat_eq, List, [], ◌∷◌, ◌++◌, Option, Some, None, length, take, get_or, refl, sym, ap, ◌∙◌, append-nil, rules}
use Rattle.std.specs.List.{list_any, filter_map, cons_option}
use Rattle.std.proofs.lemmas.List.{take_more}
use Rattle.std.proofs.lemmas.List.Elements.{filter_map-append}
use Rattle.indexmap.specs.IndexSet.{insert_key}
use Rattle.wb_base.specs.Lists.{first_places}
use Rattle.wb_base.proofs.ListLemmas.{first_places-push, first_places-member, member-first_places}
use Rattle.wb_ecore.specs.contracts.numbers.ObjectIdPartialEq.TheImpl.{eq-value}
use Rattle.wb_store.specs.declared.scalars.Scalar.{Scalar}
use Rattle.wb_answers.specs.Meanings.{object_in, objects_among}

same_test : (a b : Bool) → (a ≡ true → b ≡ true) → (b ≡ true → a ≡ true) → a ≡ b
same_test true b there back = sym (there refl)
same_test false true there back = back refl
same_test false false there back = refl

put_last : (b : Bool) (xs : List ℕ) (x : ℕ) → xs ++ cond b [] (x ∷ []) ≡ cond b xs (xs ++ x ∷ [])
put_last true xs x = append-nil xs
put_last false xs x = refl

-- the places grow by a number as the keys of a set do
pub first_places-insert : (xs : List ℕ) (x : ℕ) → first_places (xs ++ x ∷ []) ≡ insert_key nat_eq (first_places xs) x
first_places-insert xs x =
    first_places-push xs x
    ∙ ap (λ b. first_places xs ++ cond b [] (x ∷ [])) (same_test (list_any (eqb x) xs) (list_any (eqb x) (first_places xs)) (member-first_places x xs) (first_places-member x xs))
    ∙ put_last (list_any (eqb x) (first_places xs)) (first_places xs) x

abbrev pub with_object : List ℕ → Option ℕ → List ℕ
with_object keys None = keys
with_object keys (Some o) = insert_key nat_eq keys o

pub objects_more : (values : List Scalar) (value : Scalar) → objects_among (values ++ value ∷ []) ≡ with_object (objects_among values) (object_in value)
objects_more values value = ap first_places (filter_map-append object_in values (value ∷ [])) ∙ by (object_in value)
  where
    by : (o : Option ℕ) → first_places (filter_map object_in values ++ cons_option o []) ≡ with_object (first_places (filter_map object_in values)) o
    by None = ap first_places (append-nil (filter_map object_in values))
    by (Some o) = first_places-insert (filter_map object_in values) o

-- a loop over values, by one value more
pub objects_next : (values : List Scalar) (i : ℕ) (value : Scalar) (found : Option ℕ) → i < length values → value ≡ get_or values i value → found ≡ object_in value
    → objects_among (take (i + 1) values) ≡ with_object (objects_among (take i values)) found
objects_next values i value found within at is =
    ap objects_among (take_more values i value within ∙ ap (λ v. take i values ++ v ∷ []) (sym at))
    ∙ objects_more (take i values) value
    ∙ ap (with_object (objects_among (take i values))) (sym is)

same_ids : (x y : ℕ) → eq-value.it x y ≡ nat_eq x y
same_ids x y = search rules

-- a set of objects by one object more
pub inserted : (keys new : List ℕ) (o : ℕ) → new ≡ insert_key eq-value.it keys o → new ≡ insert_key nat_eq keys o
inserted keys new o is = is ∙ ap (λ (f : ℕ → ℕ → Bool). insert_key f keys o) (λ i x y. same_ids x y i)
