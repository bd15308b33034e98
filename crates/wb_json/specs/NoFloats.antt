-- What is written has no float in it.
use Rattle.std.specs.Prelude.{◌≡◌, ℕ, ℤ, pos, negsuc, List, [], ◌∷◌, map, Bool, false, true, Option, Some, None, refl}
use Rattle.std.specs.Ordering.{match_ordering, nat_cmp}
use Rattle.std.specs.Cmp.Lexicographic.{slice_cmp}
use Rattle.std.proofs.Common.{Ordering, Less, Equal, Greater, true≢false, ◌||◌}
use Rattle.serde_json.specs.Data.{Data, number, Members, no_members, member, put}
use Rattle.serde_json.specs.Find.{of_integer}
use Rattle.serde_json.specs.View.{items_of}
use Rattle.serde_json.specs.Written.{has_float, items_have_float, members_have_float}
use Rattle.wb_json.specs.ToJson.{list_json, option_json, put_all, members_json}

pub integer_no_float : (z : ℤ) → has_float (number (of_integer z)) ≡ false
integer_no_float (pos n) = refl
integer_no_float (negsuc n) = refl

pub items_no_float : {A : Type 0} (json : A → Data) → ((x : A) → has_float (json x) ≡ false) → (xs : List A) → items_have_float (items_of (map json xs)) ≡ false
items_no_float json none [] = refl
items_no_float json none (x ∷ xs) = rw (none x) (items_no_float json none xs)

pub list_no_float : {A : Type 0} (json : A → Data) → ((x : A) → has_float (json x) ≡ false) → (xs : List A) → has_float (list_json json xs) ≡ false
unfolding list_json
list_no_float json none xs = items_no_float json none xs

pub option_no_float : {A : Type 0} (json : A → Data) → ((x : A) → has_float (json x) ≡ false) → (o : Option A) → has_float (option_json json o) ≡ false
option_no_float json none (Some v) = none v
option_no_float json none None = refl

match_no_float : (o : Ordering) (a b c : Members) → members_have_float a ≡ false → members_have_float b ≡ false → members_have_float c ≡ false → members_have_float (match_ordering o a b c) ≡ false
match_no_float Less a b c x y z = x
match_no_float Equal a b c x y z = y
match_no_float Greater a b c x y z = z

neither : (a b : Bool) → (a || b) ≡ false → (a ≡ false) × (b ≡ false)
neither true b none = absurd (true≢false none)
neither false b none = (refl, none)

put_no_float : (k : List ℕ) (d : Data) (ms : Members) → has_float d ≡ false → members_have_float ms ≡ false → members_have_float (put k d ms) ≡ false
put_no_float k d no_members none others = rw none
put_no_float k d (member l e ms) none others =
    let parts = neither (has_float e) (members_have_float ms) others in
    match_no_float (slice_cmp nat_cmp k l) _ _ _ (rw none others) (rw (none, parts.1)) (rw parts.0 (put_no_float k d ms none parts.1))

all_no_float : {A : Type 0} (json : A → Data) → ((x : A) → has_float (json x) ≡ false) → (ms : List (List ℕ × A)) (there : Members) → members_have_float there ≡ false → members_have_float (put_all json ms there) ≡ false
all_no_float json none [] there others = others
all_no_float json none (m ∷ ms) there others = all_no_float json none ms (put m.0 (json m.1) there) (put_no_float m.0 (json m.1) there (none m.1) others)

pub members_no_float : {A : Type 0} (json : A → Data) → ((x : A) → has_float (json x) ≡ false) → (ms : List (List ℕ × A)) → has_float (members_json json ms) ≡ false
unfolding members_json
members_no_float json none ms = all_no_float json none ms no_members refl
