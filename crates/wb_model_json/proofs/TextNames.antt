-- In what was read of a text the names of the members of an object ascend, so no name stands twice.
use Rattle.std.proofs.Common.{◌≡◌, ℕ, ◌+◌, true, List, [], ◌∷◌, map, Option, Some, None, Result, Ok, refl, sym, ap, ◌∙◌, subst, Ordering, Less, Equal, Greater}
use Rattle.std.proofs.lemmas.Bool.{and_from}
use Rattle.std.proofs.lemmas.Option.{none-some, same_Some}
use Rattle.std.specs.Prelude.{codes, ⊤}
use Rattle.std.specs.List.{list_all, AllByRecursion, enumerate_from}
use Rattle.std.specs.Option.{IfSome}
use Rattle.std.specs.Ordering.{nat_cmp, is_lt, match_ordering}
use Rattle.std.specs.Cmp.Lexicographic.{slice_cmp}
use Rattle.serde_json.specs.Data.{Data, null, boolean, number, string, array, object, Items, no_items, item, Members, no_members, member}
use Rattle.serde_json.specs.Find.{get, get_member, as_array, as_object}
use Rattle.wb_base.specs.Results.{◌>>=◌}
use Rattle.wb_base.proofs.Steps.{then_ok, same_ok}
use Rattle.wb_json.proofs.Found.{within_ok, or_wrong_ok, coded_ok}
use Rattle.wb_json.specs.Place.{Place, at_member}
use Rattle.wb_json.specs.Form.{in_turn, or_wrong, is_name, listed, needed, needed_part, name_of, u32_of, list_of, item_of, item_list, members_of, member_of, member_list, object_with}
use Rattle.wb_json.specs.Json.{json_of}
use Rattle.wb_json.specs.Refusals.{coded}
use Rattle.wb_json.proofs.Ascending.{IsBelowAll, Ascends, ItemsAscend, MembersAscend, json_of_ascends}
use Rattle.wb_model_json.specs.declared.model_text.SlotText.{SlotText}
use Rattle.wb_model_json.specs.declared.model_text.ObjectText.{ObjectText}
use Rattle.wb_model_json.specs.declared.model_text.ModelText.{ModelText}
use Rattle.wb_model_json.specs.declared.refusal.ModelCode.TheVariants.{BadJson, BadShape}
use Rattle.wb_model_json.specs.ModelFile.{read_text}
use Rattle.wb_model_json.specs.ModelText.{slot_of, object_of, model_of}
use Rattle.wb_model_json.specs.Rows.{names_ascend}
use Rattle.wb_model_json.proofs.Walks.{turn-keeps}

names-below : (k : List ℕ) (ms : Members) → IsBelowAll k ms → list_all (λ other. is_lt (slice_cmp nat_cmp k other)) (map (λ (m : List ℕ × Data). m.0) (member_list ms)) ≡ true
names-below k no_members h = refl
names-below k (member l d ms) h = and_from _ _ (ap is_lt h.0) (names-below k ms h.1)

names-ascend : (ms : Members) → MembersAscend ms → names_ascend (map (λ (m : List ℕ × Data). m.0) (member_list ms)) ≡ true
names-ascend no_members h = refl
names-ascend (member k d ms) h = and_from _ _ (names-below k ms h.0) (names-ascend ms h.2)

member-ascends : (k : List ℕ) (ms : Members) (d : Data) → MembersAscend ms → get_member k ms ≡ Some d → Ascends d
member-ascends k no_members d all e = absurd (none-some d e)
member-ascends k (member l f ms) d all e = at (slice_cmp nat_cmp k l) (member-ascends k ms d all.2) e
  where
    at : (o : Ordering) → (get_member k ms ≡ Some d → Ascends d) → match_ordering o (get_member k ms) (Some f) (get_member k ms) ≡ Some d → Ascends d
    at Less later e = later e
    at Equal later e = subst Ascends (same_Some f d e) all.1
    at Greater later e = later e

pub get-ascends : (k : List ℕ) (d e : Data) → Ascends d → get k d ≡ Some e → Ascends e
get-ascends k null e all h = absurd (none-some e h)
get-ascends k (boolean b) e all h = absurd (none-some e h)
get-ascends k (number n) e all h = absurd (none-some e h)
get-ascends k (string s) e all h = absurd (none-some e h)
get-ascends k (array ds) e all h = absurd (none-some e h)
get-ascends k (object ms) e all h = member-ascends k ms e all h

object-ascends : (d : Data) (ms : Members) → Ascends d → as_object d ≡ Some ms → MembersAscend ms
object-ascends null ms all h = absurd (none-some ms h)
object-ascends (boolean b) ms all h = absurd (none-some ms h)
object-ascends (number n) ms all h = absurd (none-some ms h)
object-ascends (string s) ms all h = absurd (none-some ms h)
object-ascends (array ds) ms all h = absurd (none-some ms h)
object-ascends (object ns) ms all h = subst MembersAscend (same_Some ns ms h) all

pub record IsNeeded {A : Type 0} (name : List ℕ) (form : Data → Result A Place) (d : Data) (x : A) : Type 0 where
  pub part : Data
  pub there_is : get name d ≡ Some part
  pub is : form part ≡ Ok x

pub needed-read : {A : Type 0} (name : List ℕ) (form : Data → Result A Place) (d : Data) (x : A) → needed name form d ≡ Ok x → IsNeeded name form d x
needed-read name form d x h =
    elim (get name d) as (λ o. get name d ≡ o → needed_part name form o ≡ Ok x → IsNeeded name form d x) [
      | None ↦ λ is h. cc
      | Some part ↦ λ is h. record { part = part; there_is = is; is = within_ok _ (form part) x h }
    ] refl h

named-so : (m : List ℕ × Data) (y : List ℕ × SlotText) → member_of slot_of m ≡ Ok y → y.0 ≡ m.0
named-so m y h =
    let b = then_ok (at_member m.0 (slot_of m.1)) (λ (v : SlotText). Ok (m.0, v)) y h in
    ap (λ (y : List ℕ × SlotText). y.0) (sym (same_ok (m.0, b.0) y b.2))

pub members-names : (d : Data) (texts : List (List ℕ × SlotText)) → Ascends d → members_of slot_of d ≡ Ok texts → names_ascend (map (λ (y : List ℕ × SlotText). y.0) texts) ≡ true
unfolding members_of
members-names d texts all h =
    let one = then_ok (object_with is_name d) (λ (_ : ⊤). or_wrong (as_object d) >>= (λ (ms : Members). in_turn (member_of slot_of) (member_list ms))) texts h in
    let two = then_ok (or_wrong (as_object d)) (λ (ms : Members). in_turn (member_of slot_of) (member_list ms)) texts one.2 in
    ap names_ascend (turn-keeps (member_of slot_of) (λ (m : List ℕ × Data). m.0) (λ (y : List ℕ × SlotText). y.0) named-so (member_list two.0) texts two.2)
    ∙ names-ascend two.0 (object-ascends d two.0 all (or_wrong_ok _ two.0 two.1))

-- ---- objects

-- the names of the slots of an object ascend
abbrev pub SlotsAscend : ObjectText → Type 0
SlotsAscend text = names_ascend (map (λ (y : List ℕ × SlotText). y.0) text.slots) ≡ true

abbrev Slots : Type 0
Slots = List (List ℕ × SlotText)

object-names : (d : Data) (text : ObjectText) → Ascends d → object_of d ≡ Ok text → SlotsAscend text
unfolding object_of
object-names d text all h =
    let one = then_ok (listed (codes "id" ∷ codes "class" ∷ codes "slots" ∷ []) d) (λ (_ : ⊤). needed (codes "id") u32_of d >>= (λ (id : ℕ). needed (codes "class") name_of d >>= (λ (class : List ℕ). needed (codes "slots") (members_of slot_of) d >>= (λ (slots : Slots). Ok (record { id = id; class = class; slots = slots }))))) text h in
    let two = then_ok (needed (codes "id") u32_of d) (λ (id : ℕ). needed (codes "class") name_of d >>= (λ (class : List ℕ). needed (codes "slots") (members_of slot_of) d >>= (λ (slots : Slots). Ok (record { id = id; class = class; slots = slots })))) text one.2 in
    let three = then_ok (needed (codes "class") name_of d) (λ (class : List ℕ). needed (codes "slots") (members_of slot_of) d >>= (λ (slots : Slots). Ok (record { id = two.0; class = class; slots = slots }))) text two.2 in
    let four = then_ok (needed (codes "slots") (members_of slot_of) d) (λ (slots : Slots). Ok (record { id = two.0; class = three.0; slots = slots })) text three.2 in
    let slots = needed-read (codes "slots") (members_of slot_of) d four.0 four.1 in
    subst SlotsAscend (same_ok (record { id = two.0; class = three.0; slots = four.0 }) text four.2)
    (members-names slots.part four.0 (get-ascends (codes "slots") d slots.part all slots.there_is) slots.is)

items-names : (i : ℕ) (ds : Items) (texts : List ObjectText) → ItemsAscend ds → in_turn (item_of object_of) (enumerate_from i (item_list ds)) ≡ Ok texts → AllByRecursion SlotsAscend texts
items-names i no_items texts all h = subst (AllByRecursion SlotsAscend) (same_ok [] texts h) tt
items-names i (item d ds) texts all h =
    let one = then_ok (item_of object_of (i, d)) (λ (y : ObjectText). in_turn (item_of object_of) (enumerate_from (i + 1) (item_list ds)) >>= (λ (ys : List ObjectText). Ok (y ∷ ys))) texts h in
    let two = then_ok (in_turn (item_of object_of) (enumerate_from (i + 1) (item_list ds))) (λ (ys : List ObjectText). Ok (one.0 ∷ ys)) texts one.2 in
    subst (AllByRecursion SlotsAscend) (same_ok (one.0 ∷ two.0) texts two.2)
    (object-names d one.0 all.0 (within_ok _ (object_of d) one.0 one.1), items-names (i + 1) ds two.0 all.1 two.1)

array-ascends : (d : Data) (ds : Items) → Ascends d → as_array d ≡ Some ds → ItemsAscend ds
array-ascends null ds all h = absurd (none-some ds h)
array-ascends (boolean b) ds all h = absurd (none-some ds h)
array-ascends (number n) ds all h = absurd (none-some ds h)
array-ascends (string s) ds all h = absurd (none-some ds h)
array-ascends (array es) ds all h = subst ItemsAscend (same_Some es ds h) all
array-ascends (object ms) ds all h = absurd (none-some ds h)

objects-names : (d : Data) (texts : List ObjectText) → Ascends d → list_of object_of d ≡ Ok texts → AllByRecursion SlotsAscend texts
unfolding list_of
objects-names d texts all h =
    let b = then_ok (or_wrong (as_array d)) (λ (ds : Items). in_turn (item_of object_of) (enumerate_from 0 (item_list ds))) texts h in
    items-names 0 b.0 texts (array-ascends d b.0 all (or_wrong_ok _ b.0 b.1)) b.2

-- ---- the whole

abbrev Numbers : Type 0
Numbers = List ℕ

model-names : (d : Data) (text : ModelText) → Ascends d → model_of d ≡ Ok text → AllByRecursion SlotsAscend text.objects
unfolding model_of
model-names d text all h =
    let one = then_ok (listed (codes "next" ∷ codes "roots" ∷ codes "objects" ∷ []) d) (λ (_ : ⊤). needed (codes "next") u32_of d >>= (λ (next : ℕ). needed (codes "roots") (list_of u32_of) d >>= (λ (roots : Numbers). needed (codes "objects") (list_of object_of) d >>= (λ (objects : List ObjectText). Ok (record { next = next; roots = roots; objects = objects }))))) text h in
    let two = then_ok (needed (codes "next") u32_of d) (λ (next : ℕ). needed (codes "roots") (list_of u32_of) d >>= (λ (roots : Numbers). needed (codes "objects") (list_of object_of) d >>= (λ (objects : List ObjectText). Ok (record { next = next; roots = roots; objects = objects })))) text one.2 in
    let three = then_ok (needed (codes "roots") (list_of u32_of) d) (λ (roots : Numbers). needed (codes "objects") (list_of object_of) d >>= (λ (objects : List ObjectText). Ok (record { next = two.0; roots = roots; objects = objects }))) text two.2 in
    let four = then_ok (needed (codes "objects") (list_of object_of) d) (λ (objects : List ObjectText). Ok (record { next = two.0; roots = three.0; objects = objects })) text three.2 in
    let objects = needed-read (codes "objects") (list_of object_of) d four.0 four.1 in
    subst (λ (text : ModelText). AllByRecursion SlotsAscend text.objects) (same_ok (record { next = two.0; roots = three.0; objects = four.0 }) text four.2)
    (objects-names objects.part four.0 (get-ascends (codes "objects") d objects.part all objects.there_is) objects.is)

-- in a text that was read the names of the slots of each object ascend
pub text-names : (bytes : List ℕ) (text : ModelText) → read_text bytes ≡ Ok text → AllByRecursion SlotsAscend text.objects
unfolding read_text
text-names bytes text h =
    let b = then_ok (coded BadJson (or_wrong (json_of bytes))) (λ (d : Data). coded BadShape (model_of d)) text h in
    let spelled = or_wrong_ok (json_of bytes) b.0 (coded_ok BadJson (or_wrong (json_of bytes)) b.0 b.1) in
    model-names b.0 text (subst (λ o. IfSome o Ascends) spelled (json_of_ascends bytes)) (coded_ok BadShape (model_of b.0) text b.2)
