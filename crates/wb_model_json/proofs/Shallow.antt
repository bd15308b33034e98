-- What is written has numbers of 64 bits, members that ascend, and few levels.
use Rattle.std.proofs.Common.{ℕ, suc, ◌≤◌, List, [], ◌∷◌, map, sym, subst, arith}
use Rattle.serde_json.specs.Data.{Data, object, depth, items_depth, members_depth}
use Rattle.serde_json.specs.View.{items_of}
use Rattle.wb_json.specs.ToJson.{list_json, members_json}
use Rattle.wb_json.proofs.Ascending.{IsBelowAll}
use Rattle.wb_model_json.specs.ByName.{by_name}
use Rattle.wb_model_json.proofs.ByName.{json_members, put_all-by_name, IsBelowEach, Ascend, by_name-ascend}
use Rattle.wb_model_json.proofs.ReadBack.{IsSayable, ItemsAreSayable, MembersAreSayable}
use Rattle.wb_store.proofs.Members.{In}
use Rattle.wb_store.proofs.Members.In.{here, there}

-- a value that is read back, and that has at most so many levels
pub record IsShallow (levels : ℕ) (d : Data) : Type 0 where
  pub sayable : IsSayable d
  pub shallow : depth d ≤ levels

module _ {A : Type 0} (json : A → Data) (levels : ℕ) where
  items-sayable : (xs : List A) → ((x : A) → In x xs → IsShallow levels (json x)) → ItemsAreSayable (items_of (map json xs))
  items-sayable [] h = tt
  items-sayable (x ∷ xs) h = ((h x here).sayable, items-sayable xs (λ y i. h y (there i)))

  items-shallow : (xs : List A) → ((x : A) → In x xs → IsShallow levels (json x)) → items_depth (items_of (map json xs)) ≤ levels
  items-shallow [] h = omega arith
  items-shallow (x ∷ xs) h = let first = (h x here).shallow in let rest = items-shallow xs (λ y i. h y (there i)) in omega arith

  pub list-shallow : (xs : List A) → ((x : A) → In x xs → IsShallow levels (json x)) → IsShallow (suc levels) (list_json json xs)
  unfolding list_json
  list-shallow xs h = let below = items-shallow xs h in record { sayable = items-sayable xs h; shallow = omega arith }

  below-members : (k : List ℕ) (ns : List (List ℕ × A)) → IsBelowEach k ns → IsBelowAll k (json_members json ns)
  below-members k [] h = tt
  below-members k (n ∷ ns) h = (h.0, below-members k ns h.1)

  members-sayable : (ns : List (List ℕ × A)) → Ascend ns → ((n : List ℕ × A) → In n ns → IsShallow levels (json n.1)) → MembersAreSayable (json_members json ns)
  members-sayable [] all h = tt
  members-sayable (n ∷ ns) all h = (below-members n.0 ns all.0, (h n here).sayable, members-sayable ns all.1 (λ m i. h m (there i)))

  members-shallow-of : (ns : List (List ℕ × A)) → ((n : List ℕ × A) → In n ns → IsShallow levels (json n.1)) → members_depth (json_members json ns) ≤ levels
  members-shallow-of [] h = omega arith
  members-shallow-of (n ∷ ns) h = let first = (h n here).shallow in let rest = members-shallow-of ns (λ m i. h m (there i)) in omega arith

  pub members-shallow : (ms : List (List ℕ × A)) → ((n : List ℕ × A) → In n (by_name ms) → IsShallow levels (json n.1)) → IsShallow (suc levels) (members_json json ms)
  unfolding members_json
  members-shallow ms h =
      subst (λ found. IsShallow (suc levels) (object found)) (sym (put_all-by_name json ms))
      (let below = members-shallow-of (by_name ms) h in record { sayable = members-sayable (by_name ms) (by_name-ascend ms) h; shallow = omega arith })
