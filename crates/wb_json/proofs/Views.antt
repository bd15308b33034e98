-- The items and members of a value, as lists.
use Rattle.std.proofs.Common.{◌≡◌, ℕ, List, [], ◌∷◌, Bool, true, false, map, cond, string_bytes, Result, Ok, Err, refl, ap}
use Rattle.std.specs.Bool.{⊤}
use Rattle.serde_json.specs.View.{view, items_view, members_view}
use Rattle.serde_json.specs.declared.value.Value.{Value}
use Rattle.serde_json.proofs.Views.{Entry}
use Rattle.wb_json.specs.Place.{Place, pointer_segment, at_member}
use Rattle.wb_json.specs.Form.{Gives, Within, item_list, member_list, names_pass}
use Rattle.wb_json.specs.declared.wrong.Wrong.{Wrong}
use Rattle.wb_json.specs.declared.wrong.Wrong.TheVariants.{At, NoMemory}

pub item_list_view : (vs : List Value) → item_list (items_view vs) ≡ map view vs
item_list_view [] = refl
item_list_view (v ∷ vs) = ap (λ ds. view v ∷ ds) (item_list_view vs)

-- a name that passes leaves the test to the others
pub names_pass_on : (p : List ℕ → Bool) (e : Entry) (es left : List Entry) → left ≡ e ∷ es → p (string_bytes e.0) ≡ true → names_pass p (members_view left) ≡ names_pass p (members_view es)
names_pass_on p e es left is passes = rw (is, passes)

-- one that does not pass is the wrong place
pub names_pass_not : (p : List ℕ → Bool) (e : Entry) (es left : List Entry) (wrong : Wrong) → left ≡ e ∷ es → p (string_bytes e.0) ≡ false → Within (pointer_segment (string_bytes e.0)) (At []) wrong → Gives (Err wrong) (names_pass p (members_view left))
names_pass_not p e es left (At place) is fails placed = rw (is, fails, placed)
names_pass_not p e es left NoMemory is fails placed = tt

by_test : (b : Bool) (k : List ℕ) (rest : Result ⊤ Place) → cond b rest (at_member k (Err [])) ≡ Ok tt → (b ≡ true) × (rest ≡ Ok tt)
by_test true k rest is = (refl, is)
by_test false k rest is = cc

-- where all names pass, the first does, and so do the others
pub names_pass_first : (p : List ℕ → Bool) (e : Entry) (es left : List Entry) → left ≡ e ∷ es → names_pass p (members_view left) ≡ Ok tt → (p (string_bytes e.0) ≡ true) × (names_pass p (members_view es) ≡ Ok tt)
names_pass_first p e es left is all = by_test (p (string_bytes e.0)) (string_bytes e.0) (names_pass p (members_view es)) (rw is at all)

-- the first of the members, and the others
pub members_first : (e : Entry) (es left : List Entry) → left ≡ e ∷ es → member_list (members_view left) ≡ (string_bytes e.0, view e.1) ∷ member_list (members_view es)
members_first e es left is = rw is
