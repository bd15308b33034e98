-- The compact text of a value is read back as the value.
use Rattle.std.proofs.Common.{◌≡◌, ℕ, suc, ◌^◌, ◌<◌, ◌≤◌, ◌==◌, max, negsuc, pos, List, [], ◌∷◌, length, drop, cond, false, Option, Some, option_and_then, decimal, refl, sym, ap, ap₂, ◌∙◌, arith, append-nil, Greater}
use Rattle.std.proofs.lemmas.Bool.{ne_eqb}
use Rattle.std.proofs.lemmas.Cmp.{nat_list_cmp_total}
use Rattle.std.proofs.lemmas.Fmt.{decimal_is_IsNumeral}
use Rattle.std.specs.Prelude.{⊤}
use Rattle.std.specs.Char.{digit_value}
use Rattle.std.specs.Cmp.Lexicographic.{slice_cmp}
use Rattle.std.specs.Ordering.{nat_cmp, match_ordering, ordering_reverse}
use Rattle.std.specs.Str.Parse.{AllDigits}
use Rattle.json.specs.Json as json
use Rattle.json.specs.Lex.{tokens}
use Rattle.json.specs.Print.{IsNumber}
use Rattle.json.specs.Token.{Token}
use Rattle.json.specs.Tree as tree
use Rattle.json.specs.Word.{head, after_whole, after_fraction, after_exponent, after_number}
use Rattle.json.proofs.Printed.Decimals.{IsNumber-decimal}
use Rattle.json.proofs.Printed.Tokens.{tokens-print}
use Rattle.json.proofs.Printed.Trees.{value-json_tokens, ArePrintable-json_tokens}
use Rattle.serde_json.specs.Data.{Num, unsigned, negative, float, Data, null, boolean, number, string, array, object, Items, no_items, item, Members, no_members, member, put, depth, items_depth, members_depth}
use Rattle.serde_json.specs.Read.{number_of, of_json, of_items, of_members, read, max_depth}
use Rattle.serde_json.specs.Written.{number_text, outline, items_outline, members_outline, compact_text}
use Rattle.wb_json.proofs.Ascending.{IsBelow, IsBelowAll}
use Rattle.serde_json.proofs.Numbers.{number_of-decimal, number_of-negative}
use Rattle.serde_json.proofs.Texts.{print-outline}

-- ---- values that a text can say

-- an integer of 64 bits
abbrev pub IsWhole : Num → Type 0
IsWhole (unsigned n) = n < 2 ^ 64
IsWhole (negative (pos n)) = ⊥
IsWhole (negative (negsuc n)) = n < 2 ^ 63
IsWhole (float x) = ⊥

-- integers of 64 bits, and members that ascend by the bytes of their names
abbrev mutual
  pub IsSayable : Data → Type 0
  IsSayable null = ⊤
  IsSayable (boolean b) = ⊤
  IsSayable (number n) = IsWhole n
  IsSayable (string s) = ⊤
  IsSayable (array ds) = ItemsAreSayable ds
  IsSayable (object ms) = MembersAreSayable ms

  pub ItemsAreSayable : Items → Type 0
  ItemsAreSayable no_items = ⊤
  ItemsAreSayable (item d ds) = IsSayable d × ItemsAreSayable ds

  pub MembersAreSayable : Members → Type 0
  MembersAreSayable no_members = ⊤
  MembersAreSayable (member k d ms) = IsBelowAll k ms × IsSayable d × MembersAreSayable ms

-- ---- numbers

not_minus : (ds : List ℕ) → AllDigits 10 ds → 0 < length ds → (head ds == 45) ≡ false
not_minus [] h some = absurd (omega arith)
not_minus (d ∷ ds) h some = ne_eqb d 45 (λ e. let digit : digit_value d < 10 = h.0 in grind arith)

IsNumber-minus : (n : ℕ) → n < 2 ^ 64 → IsNumber (45 ∷ decimal n)
unfolding after_number
IsNumber-minus n h =
    let numeral = (decimal_is_IsNumeral n h).0 in
    ap (λ b. option_and_then after_exponent (option_and_then after_fraction (after_whole (cond b (drop 1 (decimal n)) (decimal n))))) (sym (not_minus (decimal n) numeral.1 numeral.0)) ∙ IsNumber-decimal n h

IsNumber-text : (n : Num) → IsWhole n → IsNumber (number_text n)
IsNumber-text (unsigned n) h = IsNumber-decimal n h
IsNumber-text (negative (pos n)) h = absurd h
IsNumber-text (negative (negsuc n)) h = IsNumber-minus (suc n) (omega arith)
IsNumber-text (float x) h = absurd h

number_of-text : (n : Num) → IsWhole n → number_of (number_text n) ≡ Some n
number_of-text (unsigned n) h = number_of-decimal n h
number_of-text (negative (pos n)) h = absurd h
number_of-text (negative (negsuc n)) h = number_of-negative n h
number_of-text (float x) h = absurd h

mutual
  HasNumbers-outline : (d : Data) → IsSayable d → tree.HasNumbers (outline d)
  HasNumbers-outline null h = tt
  HasNumbers-outline (boolean b) h = tt
  HasNumbers-outline (number n) h = IsNumber-text n h
  HasNumbers-outline (string s) h = tt
  HasNumbers-outline (array ds) h = HasNumbers-items ds h
  HasNumbers-outline (object ms) h = HasNumbers-members ms h

  HasNumbers-items : (ds : Items) → ItemsAreSayable ds → tree.ItemsHaveNumbers (items_outline ds)
  HasNumbers-items no_items h = tt
  HasNumbers-items (item d ds) h = (HasNumbers-outline d h.0, HasNumbers-items ds h.1)

  HasNumbers-members : (ms : Members) → MembersAreSayable ms → tree.MembersHaveNumbers (members_outline ms)
  HasNumbers-members no_members h = tt
  HasNumbers-members (member k d ms) h = (HasNumbers-outline d h.1, HasNumbers-members ms h.2)

mutual
  depth-outline : (d : Data) → tree.depth (outline d) ≡ depth d
  depth-outline null = refl
  depth-outline (boolean b) = refl
  depth-outline (number n) = refl
  depth-outline (string s) = refl
  depth-outline (array ds) = ap suc (depth-items ds)
  depth-outline (object ms) = ap suc (depth-members ms)

  depth-items : (ds : Items) → tree.items_depth (items_outline ds) ≡ items_depth ds
  depth-items no_items = refl
  depth-items (item d ds) = ap₂ max (depth-outline d) (depth-items ds)

  depth-members : (ms : Members) → tree.members_depth (members_outline ms) ≡ members_depth ms
  depth-members no_members = refl
  depth-members (member k d ms) = ap₂ max (depth-outline d) (depth-members ms)

-- ---- members that go in one after another

joined : Members → Members → Members
joined no_members ms = ms
joined (member k d found) ms = member k d (joined found ms)

-- each of the members is below the name
AreBelow : Members → List ℕ → Type 0
AreBelow no_members k = ⊤
AreBelow (member l d ms) k = IsBelow l k × AreBelow ms k

-- each of the first is below each of the second
AreApart : Members → Members → Type 0
AreApart found no_members = ⊤
AreApart found (member k d ms) = AreBelow found k × AreApart found ms

nothing_below : (k : List ℕ) → AreBelow no_members k
unfolding AreBelow
nothing_below k = tt

nothing_apart : (ms : Members) → AreApart no_members ms
unfolding AreApart
nothing_apart no_members = tt
nothing_apart (member k d ms) = (nothing_below k, nothing_apart ms)

one_more_below : (found : Members) (k : List ℕ) (d : Data) (l : List ℕ) → AreBelow found l → IsBelow k l → AreBelow (joined found (member k d no_members)) l
unfolding AreBelow joined
one_more_below no_members k d l h under = (under, tt)
one_more_below (member n e found) k d l h under = (h.0, one_more_below found k d l h.1 under)

one_more_apart : (found : Members) (k : List ℕ) (d : Data) (ms : Members) → AreApart found ms → IsBelowAll k ms → AreApart (joined found (member k d no_members)) ms
unfolding AreApart
one_more_apart found k d no_members h under = tt
one_more_apart found k d (member l e ms) h under = (one_more_below found k d l h.0 under.0, one_more_apart found k d ms h.1 under.1)

above : (k l : List ℕ) → IsBelow l k → slice_cmp nat_cmp k l ≡ Greater
above k l h = nat_list_cmp_total.antisymm k l ∙ ap ordering_reverse h

put-last : (found : Members) (k : List ℕ) (d : Data) → AreBelow found k → put k d found ≡ joined found (member k d no_members)
unfolding AreBelow joined
put-last no_members k d h = refl
put-last (member l e found) k d h =
    ap (λ o. match_ordering o (member k d (member l e found)) (member l d found) (member l e (put k d found))) (above k l h.0)
    ∙ ap (member l e) (put-last found k d h.1)

joined-one : (found : Members) (k : List ℕ) (d : Data) (ms : Members) → joined (joined found (member k d no_members)) ms ≡ joined found (member k d ms)
unfolding joined
joined-one no_members k d ms = refl
joined-one (member l e found) k d ms = ap (member l e) (joined-one found k d ms)

joined-nothing : (ms : Members) → joined no_members ms ≡ ms
unfolding joined
joined-nothing ms = refl

joined-last : (ms : Members) → joined ms no_members ≡ ms
unfolding joined
joined-last no_members = refl
joined-last (member k d ms) = ap (member k d) (joined-last ms)

mutual
  unfolding AreApart

  of_json-outline : (d : Data) → IsSayable d → of_json (outline d) ≡ Some d
  of_json-outline null h = refl
  of_json-outline (boolean b) h = refl
  of_json-outline (number n) h = rw (number_of-text n h)
  of_json-outline (string s) h = refl
  of_json-outline (array ds) h = rw (of_items-outline ds h)
  of_json-outline (object ms) h = rw (of_members-outline ms no_members h (nothing_apart ms) ∙ ap Some (joined-nothing ms))

  of_items-outline : (ds : Items) → ItemsAreSayable ds → of_items (items_outline ds) ≡ Some ds
  of_items-outline no_items h = refl
  of_items-outline (item d ds) h = rw (of_json-outline d h.0, of_items-outline ds h.1)

  of_members-outline : (ms found : Members) → MembersAreSayable ms → AreApart found ms → of_members (members_outline ms) found ≡ Some (joined found ms)
  of_members-outline no_members found h apart = ap Some (sym (joined-last found))
  of_members-outline (member k d ms) found h apart =
      ap (option_and_then (λ d. of_members (members_outline ms) (put k d found))) (of_json-outline d h.1)
      ∙ ap (of_members (members_outline ms)) (put-last found k d apart.0)
      ∙ of_members-outline ms (joined found (member k d no_members)) h.2 (one_more_apart found k d ms apart.1 h.0)
      ∙ ap Some (joined-one found k d ms)

-- ---- the whole text

abbrev whole : Option (json.Json × List Token) → Option Data
whole o = option_and_then of_json (option_and_then (λ p. json.if_last p.0 p.1) o)

pub read-compact_text : (d : Data) → IsSayable d → depth d ≤ 127 → read (compact_text d) ≡ Some d
read-compact_text d h shallow =
    let same = depth-outline d in
    let parts = ap tokens (sym (print-outline d)) ∙ tokens-print (tree.json_tokens (outline d)) (ArePrintable-json_tokens (outline d) (HasNumbers-outline d h)) ∙ sym (append-nil (tree.json_tokens (outline d))) in
    ap whole (ap (json.value max_depth) parts ∙ value-json_tokens (outline d) max_depth [] (omega (arith, same))) ∙ of_json-outline d h
