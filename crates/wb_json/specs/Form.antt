-- Forms of JSON values. A form is a function from a value to what it stands for,
-- or to the first wrong place in it. The walk visits a value before its parts.
use Rattle.std.specs.Prelude.{ℕ, ℤ, ◌^◌, nat_eq, nat_lt, List, [], ◌∷◌, ◌++◌, Bool, if◌then◌else◌, Option, Some, None, is_some, option_and_then, Result, Ok, Err, ◌≡◌, ⊤}
use Rattle.std.specs.List.{list_any, enumerate_from}
use Rattle.serde_json.specs.Data.{Data, Items, no_items, item, Members, no_members, member}
use Rattle.serde_json.specs.Find.{get, as_null, as_bool, as_str, as_array, as_object, as_number, as_i64, as_u64}
pub use Rattle.wb_base.specs.Results.{◌>>=◌}
pub use Rattle.wb_base.specs.Names.{same_name, is_name}
use Rattle.wb_base.specs.Answering.{AsDefined}
use Rattle.wb_json.specs.Place.{Place, at_member, at_index}
use Rattle.wb_json.specs.declared.wrong.Wrong.{Wrong}
use Rattle.wb_json.specs.declared.wrong.Wrong.TheVariants.{At, NoMemory}

-- the place that a refusal names; want of memory names none
abbrev pub place_of : Wrong → Option Place
place_of (At place) = Some place
place_of NoMemory = None

-- what the code answers is what the form gives; only for want of memory it may answer nothing
abbrev pub Gives : {A : Type 0} → Result A Wrong → Result A Place → Type 0
Gives result given = AsDefined place_of given result

-- the same wrong place, seen through this step
abbrev pub Within : Place → Wrong → Wrong → Type 0
Within step (At place) (At whole) = whole ≡ step ++ place
Within step (At place) NoMemory = ⊤
Within step NoMemory whole = whole ≡ NoMemory

-- the place that was made, or want of memory
abbrev pub IsPlaced : {E : Type 0} → Result Place E → Wrong → Type 0
IsPlaced (Ok place) wrong = wrong ≡ At place
IsPlaced (Err _) wrong = wrong ≡ NoMemory

-- ---- steps in turn: the first wrong place ends the walk

-- the value, or else the whole is wrong
abbrev pub or_wrong : {A : Type 0} → Option A → Result A Place
or_wrong (Some v) = Ok v
or_wrong None = Err []

-- each element in turn
abbrev pub in_turn : {A B : Type 0} → (A → Result B Place) → List A → Result (List B) Place
in_turn step [] = Ok []
in_turn step (x ∷ xs) = step x >>= (λ y. in_turn step xs >>= (λ ys. Ok (y ∷ ys)))

-- ---- scalars

abbrev pub bool_of : Data → Result Bool Place
bool_of d = or_wrong (as_bool d)

-- any string
abbrev pub text_of : Data → Result (List ℕ) Place
text_of d = or_wrong (as_str d)

-- an integer of 64 signed bits
abbrev pub integer_of : Data → Result ℤ Place
integer_of d = or_wrong (option_and_then as_i64 (as_number d))

-- an integer from 0 to 4,294,967,295
abbrev pub u32_of : Data → Result ℕ Place
u32_of d = or_wrong (option_and_then (λ n. if nat_lt n (2 ^ 32) then Some n else None) (option_and_then as_u64 (as_number d)))

abbrev pub name_of : Data → Result (List ℕ) Place
name_of d = text_of d >>= (λ text. if is_name text then Ok text else Err [])

-- `null` for none, or a value of the form
abbrev pub nullable : {A : Type 0} → (Data → Result A Place) → Data → Result (Option A) Place
nullable form d = if is_some (as_null d) then Ok None else form d >>= (λ v. Ok (Some v))

-- one of some words, each of which means a value
abbrev pub meaning_of : {A : Type 0} → List (List ℕ × A) → List ℕ → Option A
meaning_of [] word = None
meaning_of (w ∷ ws) word = if same_name w.0 word then Some w.1 else meaning_of ws word

abbrev pub word_of : {A : Type 0} → List (List ℕ × A) → Data → Result A Place
word_of words d = text_of d >>= (λ text. or_wrong (meaning_of words text))

-- ---- lists

abbrev pub item_list : Items → List Data
item_list no_items = []
item_list (item d ds) = d ∷ item_list ds

abbrev pub item_of : {A : Type 0} → (Data → Result A Place) → ℕ × Data → Result A Place
item_of form i = at_index i.0 (form i.1)

-- a list of values of one form
unfoldable pub list_of : {A : Type 0} → (Data → Result A Place) → Data → Result (List A) Place
list_of form d = or_wrong (as_array d) >>= (λ ds. in_turn (item_of form) (enumerate_from 0 (item_list ds)))

-- ---- objects

-- the members in order; those of a text that was read ascend by the bytes of their names (`json_of_ascends`)
abbrev pub member_list : Members → List (List ℕ × Data)
member_list no_members = []
member_list (member k d ms) = (k, d) ∷ member_list ms

-- the first member whose name does not pass, which has the least of those names (`names_pass_least`)
abbrev pub names_pass : (List ℕ → Bool) → Members → Result ⊤ Place
names_pass p no_members = Ok tt
names_pass p (member k d ms) = if p k then names_pass p ms else at_member k (Err [])

-- an object, and then the least member of it whose name does not pass
unfoldable pub object_with : (List ℕ → Bool) → Data → Result ⊤ Place
object_with p d = or_wrong (as_object d) >>= (λ ms. names_pass p ms)

-- is this one of the names?
abbrev pub is_one_of : List (List ℕ) → List ℕ → Bool
is_one_of names name = list_any (λ n. same_name n name) names

-- an object with no member but the listed ones
abbrev pub listed : List (List ℕ) → Data → Result ⊤ Place
listed names d = object_with (is_one_of names) d

abbrev pub has : List ℕ → Data → Bool
has name d = is_some (get name d)

abbrev pub needed_part : {A : Type 0} → List ℕ → (Data → Result A Place) → Option Data → Result A Place
needed_part name form (Some d) = at_member name (form d)
needed_part name form None = Err []

-- the member of that name; where it is missing, the object is wrong
abbrev pub needed : {A : Type 0} → List ℕ → (Data → Result A Place) → Data → Result A Place
needed name form d = needed_part name form (get name d)

abbrev pub optional_part : {A : Type 0} → List ℕ → (Data → Result A Place) → Option Data → Result (Option A) Place
optional_part name form (Some d) = at_member name (form d) >>= (λ v. Ok (Some v))
optional_part name form None = Ok None

-- the member of that name, if there is one
abbrev pub optional : {A : Type 0} → List ℕ → (Data → Result A Place) → Data → Result (Option A) Place
optional name form d = optional_part name form (get name d)

abbrev pub list_part : {A : Type 0} → List ℕ → (Data → Result A Place) → Option Data → Result (List A) Place
list_part name form (Some d) = at_member name (list_of form d)
list_part name form None = Ok []

-- the list that is the member of that name; where it is missing, the list is empty
abbrev pub list_or_empty : {A : Type 0} → List ℕ → (Data → Result A Place) → Data → Result (List A) Place
list_or_empty name form d = list_part name form (get name d)

abbrev pub member_of : {A : Type 0} → (Data → Result A Place) → List ℕ × Data → Result (List ℕ × A) Place
member_of form m = at_member m.0 (form m.1) >>= (λ v. Ok (m.0, v))

-- an object whose members' names are free, as long as each is a name; a member that has none is like one that is not listed
unfoldable pub members_of : {A : Type 0} → (Data → Result A Place) → Data → Result (List (List ℕ × A)) Place
members_of form d = object_with is_name d >>= (λ _. or_wrong (as_object d) >>= (λ ms. in_turn (member_of form) (member_list ms)))
