-- The parts of a value are less deep.
use Rattle.std.proofs.Common.{◌≡◌, ℕ, zero, suc, ◌≤◌, List, [], ◌∷◌, Option, Some, length, get_or, ◌<◌, subst, sym, arith}
use Rattle.std.specs.Ordering.{match_ordering, nat_cmp}
use Rattle.std.proofs.Common.{Ordering, Less, Equal, Greater}
use Rattle.std.specs.Cmp.Lexicographic.{slice_cmp}
use Rattle.serde_json.specs.Data.{Data, null, boolean, number, string, array, object, Items, Members, no_members, member, depth, items_depth, members_depth}
use Rattle.serde_json.specs.Find.{get, get_member, as_array}
use Rattle.serde_json.specs.View.{view, items_view}
use Rattle.serde_json.specs.declared.value.Value.{Value}

within-choice : (o : Ordering) (x y z : Option Data) (d : Data) (k : ℕ) → ((e : Data) → x ≡ Some e → depth e ≤ k) → ((e : Data) → y ≡ Some e → depth e ≤ k) → ((e : Data) → z ≡ Some e → depth e ≤ k) → match_ordering o x y z ≡ Some d → depth d ≤ k
within-choice Less x y z d k p q r is = p d is
within-choice Equal x y z d k p q r is = q d is
within-choice Greater x y z d k p q r is = r d is

some_depth : (d e : Data) (k : ℕ) → depth d ≤ k → Some d ≡ Some e → depth e ≤ k
some_depth d e k small is = grind (arith)

pub member_depth : (name : List ℕ) (ms : Members) (d : Data) → get_member name ms ≡ Some d → depth d ≤ members_depth ms
member_depth name no_members d is = absurd (cc)
member_depth name (member l e ms) d is =
    within-choice (slice_cmp nat_cmp name l) _ _ _ d (members_depth (member l e ms))
    (λ f found. omega (arith, member_depth name ms f found)) (λ f found. some_depth e f (members_depth (member l e ms)) (omega arith) found) (λ f found. omega (arith, member_depth name ms f found)) is

-- a member is less deep than its object
pub part_depth : (name : List ℕ) (d e : Data) → get name d ≡ Some e → depth e < depth d
part_depth name null e is = absurd (cc)
part_depth name (boolean b) e is = absurd (cc)
part_depth name (number x) e is = absurd (cc)
part_depth name (string s) e is = absurd (cc)
part_depth name (array ds) e is = absurd (cc)
part_depth name (object ms) e is = omega (arith, member_depth name ms e is)

-- an item is no deeper than the items
pub item_depth : (vs : List Value) (i : ℕ) (v : Value) → i < length vs → v ≡ get_or vs i v → depth (view v) ≤ items_depth (items_view vs)
item_depth [] i v within is = absurd (omega (arith, within))
item_depth (w ∷ vs) zero v within is = subst (λ (x : Value). depth (view x) ≤ items_depth (items_view (w ∷ vs))) (sym is) (omega arith)
item_depth (w ∷ vs) (suc i) v within is = omega (arith, item_depth vs i v (omega arith) is)

-- the items are less deep than their array
pub array_depth : (ds : Items) (d : Data) → as_array d ≡ Some ds → items_depth ds < depth d
array_depth ds null is = absurd (cc)
array_depth ds (boolean b) is = absurd (cc)
array_depth ds (number x) is = absurd (cc)
array_depth ds (string s) is = absurd (cc)
array_depth ds (array es) is = grind arith
array_depth ds (object ms) is = absurd (cc)
