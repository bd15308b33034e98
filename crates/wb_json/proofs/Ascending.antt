-- In a value that was read from a text, the members of each object ascend by the bytes of their names.
-- So the first member whose name does not pass is the one with the least of those names.
use Rattle.std.proofs.Common.{◌≡◌, ℕ, List, [], ◌++◌, Bool, true, false, ◌⊎◌, inl, inr, true≢false, cond, Option, Some, None, option_map, option_and_then, Err, Ordering, Less, Equal, Greater, nat_cmp, refl, sym, ap, ◌∙◌, append-nil}
use Rattle.std.specs.Bool.{⊤}
use Rattle.std.specs.Option.{IfSome}
use Rattle.std.specs.Cmp.Lexicographic.{slice_cmp}
use Rattle.std.specs.Ordering.{match_ordering, ordering_reverse}
use Rattle.std.specs.Str.{is_utf8}
use Rattle.std.proofs.lemmas.Cmp.{nat_list_cmp_total}
use Rattle.json.specs.Lex.{tokens}
use Rattle.json.specs.Json as json
use Rattle.serde_json.specs.Data.{Num, Data, null, boolean, number, string, array, object, Items, no_items, item, Members, no_members, member, put}
use Rattle.serde_json.specs.Read.{number_of, of_json, of_items, of_members, read, max_depth}
use Rattle.wb_json.specs.Json.{json_of}
use Rattle.wb_json.specs.Place.{Place, pointer_segment, at_member}
use Rattle.wb_json.specs.Form.{names_pass}

abbrev pub IsBelow : List ℕ → List ℕ → Type 0
IsBelow k l = slice_cmp nat_cmp k l ≡ Less

-- the name is below that of each member
abbrev pub IsBelowAll : List ℕ → Members → Type 0
IsBelowAll k no_members = ⊤
IsBelowAll k (member l d ms) = IsBelow k l × IsBelowAll k ms

-- the members ascend, in each object of the value
abbrev mutual
  pub Ascends : Data → Type 0
  Ascends null = ⊤
  Ascends (boolean b) = ⊤
  Ascends (number n) = ⊤
  Ascends (string s) = ⊤
  Ascends (array ds) = ItemsAscend ds
  Ascends (object ms) = MembersAscend ms

  pub ItemsAscend : Items → Type 0
  ItemsAscend no_items = ⊤
  ItemsAscend (item d ds) = Ascends d × ItemsAscend ds

  pub MembersAscend : Members → Type 0
  MembersAscend no_members = ⊤
  MembersAscend (member k d ms) = IsBelowAll k ms × Ascends d × MembersAscend ms

-- ---- what is put in leaves them ascending

below_lower : (k l : List ℕ) (ms : Members) → IsBelow k l → IsBelowAll l ms → IsBelowAll k ms
below_lower k l no_members under all = tt
below_lower k l (member n d ms) under all = (nat_list_cmp_total.trans k l n under all.0, below_lower k l ms under all.1)

below_match : (o : Ordering) (j : List ℕ) (a b c : Members) → IsBelowAll j a → IsBelowAll j b → IsBelowAll j c → IsBelowAll j (match_ordering o a b c)
below_match Less j a b c x y z = x
below_match Equal j a b c x y z = y
below_match Greater j a b c x y z = z

below_put : (j k : List ℕ) (d : Data) (ms : Members) → IsBelow j k → IsBelowAll j ms → IsBelowAll j (put k d ms)
below_put j k d no_members under all = (under, tt)
below_put j k d (member l e ms) under all = below_match (slice_cmp nat_cmp k l) j _ _ _ (under, all) (all.0, all.1) (all.0, below_put j k d ms under all.1)

put_in_order : (o : Ordering) (k l : List ℕ) (d e : Data) (ms more : Members) → slice_cmp nat_cmp k l ≡ o → Ascends d → MembersAscend (member l e ms) → MembersAscend more → (IsBelow l k → IsBelowAll l more)
    → MembersAscend (match_ordering o (member k d (member l e ms)) (member l d ms) (member l e more))
put_in_order Less k l d e ms more is of_d of_ms of_more above = ((is, below_lower k l ms is of_ms.0), of_d, of_ms)
put_in_order Equal k l d e ms more is of_d of_ms of_more above = (of_ms.0, of_d, of_ms.2)
put_in_order Greater k l d e ms more is of_d of_ms of_more above = (above (nat_list_cmp_total.antisymm l k ∙ ap ordering_reverse is), of_ms.1, of_more)

ascends_put : (k : List ℕ) (d : Data) (ms : Members) → Ascends d → MembersAscend ms → MembersAscend (put k d ms)
ascends_put k d no_members of_d of_ms = (tt, of_d, tt)
ascends_put k d (member l e ms) of_d of_ms = put_in_order (slice_cmp nat_cmp k l) k l d e ms (put k d ms) refl of_d of_ms (ascends_put k d ms of_d of_ms.2) (λ under. below_put l k d ms under of_ms.0)

-- ---- so what is read ascends

number_ascends : (o : Option Num) → IfSome (option_map number o) Ascends
number_ascends (Some n) = tt
number_ascends None = tt

array_ascends : (o : Option Items) → IfSome o ItemsAscend → IfSome (option_map array o) Ascends
array_ascends (Some ds) all = all
array_ascends None all = tt

object_ascends : (o : Option Members) → IfSome o MembersAscend → IfSome (option_map object o) Ascends
object_ascends (Some ms) all = all
object_ascends None all = tt

item_ascends : (d : Data) (o : Option Items) → Ascends d → IfSome o ItemsAscend → IfSome (option_map (item d) o) ItemsAscend
item_ascends d (Some ds) of_d all = (of_d, all)
item_ascends d None of_d all = tt

then_ascends : {B : Type 0} (P : B → Type 0) (o : Option Data) (next : Data → Option B) → IfSome o Ascends → ((d : Data) → Ascends d → IfSome (next d) P) → IfSome (option_and_then next o) P
then_ascends P (Some d) next of_o of_next = of_next d of_o
then_ascends P None next of_o of_next = tt

mutual
  pub of_json_ascends : (j : json.Json) → IfSome (of_json j) Ascends
  of_json_ascends json.null = tt
  of_json_ascends (json.boolean b) = tt
  of_json_ascends (json.number s) = number_ascends (number_of s)
  of_json_ascends (json.string s) = tt
  of_json_ascends (json.array js) = array_ascends (of_items js) (of_items_ascends js)
  of_json_ascends (json.object ms) = object_ascends (of_members ms no_members) (of_members_ascends ms no_members tt)

  of_items_ascends : (js : json.Items) → IfSome (of_items js) ItemsAscend
  of_items_ascends json.no_items = tt
  of_items_ascends (json.item j js) = then_ascends ItemsAscend (of_json j) _ (of_json_ascends j) (λ d of_d. item_ascends d (of_items js) of_d (of_items_ascends js))

  of_members_ascends : (ms : json.Members) (found : Members) → MembersAscend found → IfSome (of_members ms found) MembersAscend
  of_members_ascends json.no_members found all = all
  of_members_ascends (json.member k j ms) found all = then_ascends MembersAscend (of_json j) _ (of_json_ascends j) (λ d of_d. of_members_ascends ms (put k d found) (ascends_put k d found of_d all))

each_ascends : (o : Option json.Json) → IfSome (option_and_then of_json o) Ascends
each_ascends (Some j) = of_json_ascends j
each_ascends None = tt

unless_none : (b : Bool) (o : Option Data) → IfSome o Ascends → IfSome (cond b o None) Ascends
unless_none true o all = all
unless_none false o all = tt

-- in what a text spells, the members of each object ascend
pub json_of_ascends : (bytes : List ℕ) → IfSome (json_of bytes) Ascends
unfolding json_of
json_of_ascends bytes = unless_none (is_utf8 bytes) (read bytes) (each_ascends (option_and_then (λ p. json.if_last p.0 p.1) (json.value max_depth (tokens bytes))))

-- ---- the least name

-- a member has this name
abbrev pub IsNamed : List ℕ → Members → Type 0
IsNamed k no_members = ⊥
IsNamed k (member l d ms) = (k ≡ l) ⊎ IsNamed k ms

-- the place is that of a member whose name does not pass, and no lesser name of a member fails
pub record IsLeastWrong (p : List ℕ → Bool) (ms : Members) (place : Place) : Type 0 where
  pub name : List ℕ
  pub at : place ≡ pointer_segment name
  pub named : IsNamed name ms
  pub fails : p name ≡ false
  pub least : (other : List ℕ) → IsNamed other ms → p other ≡ false → (other ≡ name) ⊎ IsBelow name other

below_each : (k other : List ℕ) (ms : Members) → IsBelowAll k ms → IsNamed other ms → IsBelow k other
below_each k other no_members all there = absurd there
below_each k other (member l d ms) all there = elim there [ inl same ↦ rw same all.0 | inr later ↦ below_each k other ms all.1 later ]

least_first : (b : Bool) (p : List ℕ → Bool) (k : List ℕ) (d : Data) (ms : Members) (place : Place) → p k ≡ b → IsBelowAll k ms → (names_pass p ms ≡ Err place → IsLeastWrong p ms place)
    → cond b (names_pass p ms) (at_member k (Err [])) ≡ Err place → IsLeastWrong p (member k d ms) place
least_first true p k d ms place is under later wrong =
    let found = later wrong in
    record {
      name = found.name;
      at = found.at;
      named = inr found.named;
      fails = found.fails;
      least = λ other there fails. elim there [ inl same ↦ absurd (true≢false (sym is ∙ ap p (sym same) ∙ fails)) | inr rest ↦ found.least other rest fails ];
    }
least_first false p k d ms place is under later wrong =
    record {
      name = k;
      at = (let same : pointer_segment k ++ [] ≡ place = cc in sym same ∙ append-nil (pointer_segment k));
      named = inl refl;
      fails = is;
      least = λ other there fails. elim there [ inl same ↦ inl same | inr rest ↦ inr (below_each k other ms under rest) ];
    }

-- where the names of some members do not pass, the place is that of the least of those names
pub names_pass_least : (p : List ℕ → Bool) (ms : Members) (place : Place) → MembersAscend ms → names_pass p ms ≡ Err place → IsLeastWrong p ms place
names_pass_least p no_members place ascend wrong = cc
names_pass_least p (member k d ms) place ascend wrong = least_first (p k) p k d ms place refl ascend.0 (λ later. names_pass_least p ms place ascend.2 later) wrong
