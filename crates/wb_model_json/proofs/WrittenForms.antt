-- What is written as a list or as members is read as these again.
use Rattle.std.proofs.Common.{◌≡◌, ℕ, ◌+◌, Bool, true, List, [], ◌∷◌, map, cond, Result, Ok, Err, refl, ap, ◌∙◌}
use Rattle.std.specs.List.{enumerate_from}
use Rattle.serde_json.specs.Data.{Data}
use Rattle.serde_json.specs.View.{items_of}
use Rattle.wb_json.specs.Place.{Place, at_index, at_member}
use Rattle.wb_base.specs.Results.{◌>>=◌}
use Rattle.wb_json.specs.Form.{in_turn, item_list, item_of, list_of, names_pass, member_list, member_of, members_of, object_with, is_name}
use Rattle.wb_ecore.specs.Resolving.{in_place, walked}
use Rattle.wb_json.specs.ToJson.{list_json, members_json}
use Rattle.wb_model_json.specs.ByName.{by_name}
use Rattle.wb_model_json.proofs.ByName.{json_members, put_all-by_name, member_list-json}
use Rattle.wb_store.proofs.Members.{In}
use Rattle.wb_store.proofs.Members.In.{here, there}

module _ {A B : Type 0} (form : Data → Result B Place) (json : A → Data) (text : A → B) where
  items-from : (i : ℕ) (xs : List A) → ((x : A) → In x xs → form (json x) ≡ Ok (text x)) → in_turn (item_of form) (enumerate_from i (item_list (items_of (map json xs)))) ≡ Ok (map text xs)
  items-from i [] h = refl
  items-from i (x ∷ xs) h =
      ap (λ r. at_index i r >>= (λ y. in_turn (item_of form) (enumerate_from (i + 1) (item_list (items_of (map json xs)))) >>= (λ ys. Ok (y ∷ ys)))) (h x here)
      ∙ ap (λ r. r >>= (λ ys. Ok (text x ∷ ys))) (items-from (i + 1) xs (λ y j. h y (there j)))

  pub list_of-written : (xs : List A) → ((x : A) → In x xs → form (json x) ≡ Ok (text x)) → list_of form (list_json json xs) ≡ Ok (map text xs)
  unfolding list_of list_json
  list_of-written xs h = items-from 0 xs h

  names-pass : (p : List ℕ → Bool) (ns : List (List ℕ × A)) → ((n : List ℕ × A) → In n ns → p n.0 ≡ true) → names_pass p (json_members json ns) ≡ Ok tt
  names-pass p [] h = refl
  names-pass p (n ∷ ns) h = ap (λ b. cond b (names_pass p (json_members json ns)) (at_member n.0 (Err []))) (h n here) ∙ names-pass p ns (λ m i. h m (there i))

  members-from : (ns : List (List ℕ × A)) → ((n : List ℕ × A) → In n ns → form (json n.1) ≡ Ok (text n.1)) → in_turn (member_of form) (map (λ (n : List ℕ × A). (n.0, json n.1)) ns) ≡ Ok (map (λ (n : List ℕ × A). (n.0, text n.1)) ns)
  members-from [] h = refl
  members-from (n ∷ ns) h =
      ap (λ r. at_member n.0 r >>= (λ v. Ok (n.0, v)) >>= (λ y. in_turn (member_of form) (map (λ (n : List ℕ × A). (n.0, json n.1)) ns) >>= (λ ys. Ok (y ∷ ys)))) (h n here)
      ∙ ap (λ r. r >>= (λ ys. Ok ((n.0, text n.1) ∷ ys))) (members-from ns (λ m i. h m (there i)))

  pub members_of-written : (ms : List (List ℕ × A)) → ((n : List ℕ × A) → In n (by_name ms) → (is_name n.0 ≡ true) × (form (json n.1) ≡ Ok (text n.1)))
      → members_of form (members_json json ms) ≡ Ok (map (λ (n : List ℕ × A). (n.0, text n.1)) (by_name ms))
  unfolding members_of object_with members_json
  members_of-written ms h =
      ap (λ found. names_pass is_name found >>= (λ _. in_turn (member_of form) (member_list found))) (put_all-by_name json ms)
      ∙ ap (λ r. r >>= (λ _. in_turn (member_of form) (member_list (json_members json (by_name ms))))) (names-pass is_name (by_name ms) (λ n i. (h n i).0))
      ∙ ap (in_turn (member_of form)) (member_list-json json (by_name ms))
      ∙ members-from (by_name ms) (λ n i. (h n i).1)

-- ---- walks over what was made of other things

module _ {A B C : Type 0} (step : A → Result B Place) (from : C → A) (to : C → B) where
  pub in_turn-made : (xs : List C) → ((x : C) → In x xs → step (from x) ≡ Ok (to x)) → in_turn step (map from xs) ≡ Ok (map to xs)
  in_turn-made [] h = refl
  in_turn-made (x ∷ xs) h =
      ap (λ r. r >>= (λ y. in_turn step (map from xs) >>= (λ ys. Ok (y ∷ ys)))) (h x here)
      ∙ ap (λ r. r >>= (λ ys. Ok (to x ∷ ys))) (in_turn-made xs (λ y i. h y (there i)))

  walked-from : (i : ℕ) (xs : List C) → ((x : C) → In x xs → step (from x) ≡ Ok (to x)) → in_turn (in_place step) (enumerate_from i (map from xs)) ≡ Ok (map to xs)
  walked-from i [] h = refl
  walked-from i (x ∷ xs) h =
      ap (λ r. at_index i r >>= (λ y. in_turn (in_place step) (enumerate_from (i + 1) (map from xs)) >>= (λ ys. Ok (y ∷ ys)))) (h x here)
      ∙ ap (λ r. r >>= (λ ys. Ok (to x ∷ ys))) (walked-from (i + 1) xs (λ y j. h y (there j)))

  pub walked-made : (xs : List C) → ((x : C) → In x xs → step (from x) ≡ Ok (to x)) → walked step (map from xs) ≡ Ok (map to xs)
  walked-made xs h = walked-from 0 xs h
