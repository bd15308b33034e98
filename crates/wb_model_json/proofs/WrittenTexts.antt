-- The compact text of a value is UTF-8 where its texts are.
use Rattle.std.proofs.Common.{ℕ, suc, negsuc, pos, List, [], ◌∷◌, Bool, true, false, refl, arith}
use Rattle.std.proofs.lemmas.Fmt.{IsAscii-decimal}
use Rattle.std.proofs.lemmas.Str.{IsUtf8-append, IsUtf8-nil, IsUtf8-from_ascii}
use Rattle.std.specs.Prelude.{⊤}
use Rattle.std.specs.Str.{IsUtf8}
use Rattle.json.specs.Print.{quoted}
use Rattle.json.proofs.Printed.Utf8.{IsUtf8-quoted, IsUtf8-boolean, IsUtf8-are_ascii}
use Rattle.serde_json.specs.Data.{Num, unsigned, negative, float, Data, null, boolean, number, string, array, object, Items, no_items, item, Members, no_members, member}
use Rattle.serde_json.specs.Written.{number_text, comma_if, compact_text, items_text, members_text}
use Rattle.wb_model_json.proofs.ReadBack.{IsWhole}

-- each string and each name in the value is UTF-8
abbrev mutual
  pub HasTexts : Data → Type 0
  HasTexts null = ⊤
  HasTexts (boolean b) = ⊤
  HasTexts (number n) = IsWhole n
  HasTexts (string s) = IsUtf8 s
  HasTexts (array ds) = ItemsHaveTexts ds
  HasTexts (object ms) = MembersHaveTexts ms

  pub ItemsHaveTexts : Items → Type 0
  ItemsHaveTexts no_items = ⊤
  ItemsHaveTexts (item d ds) = HasTexts d × ItemsHaveTexts ds

  pub MembersHaveTexts : Members → Type 0
  MembersHaveTexts no_members = ⊤
  MembersHaveTexts (member k d ms) = IsUtf8 k × HasTexts d × MembersHaveTexts ms

IsUtf8-number : (n : Num) → IsWhole n → IsUtf8 (number_text n)
IsUtf8-number (unsigned n) h = IsUtf8-from_ascii _ (IsAscii-decimal n h)
IsUtf8-number (negative (pos n)) h = absurd h
IsUtf8-number (negative (negsuc n)) h = IsUtf8-append (45 ∷ []) _ (IsUtf8-are_ascii (45 ∷ []) refl) (IsUtf8-from_ascii _ (IsAscii-decimal (suc n) (omega arith)))
IsUtf8-number (float x) h = absurd h

comma_utf8 : (later : Bool) → IsUtf8 (comma_if later)
comma_utf8 true = IsUtf8-are_ascii (44 ∷ []) refl
comma_utf8 false = IsUtf8-nil

byte_then : (c : ℕ) (s : List ℕ) → IsUtf8 (c ∷ []) → IsUtf8 s → IsUtf8 (c ∷ s)
byte_then c s h rest = IsUtf8-append (c ∷ []) s h rest

mutual
  pub IsUtf8-compact_text : (d : Data) → HasTexts d → IsUtf8 (compact_text d)
  IsUtf8-compact_text null h = IsUtf8-are_ascii _ refl
  IsUtf8-compact_text (boolean b) h = IsUtf8-boolean b
  IsUtf8-compact_text (number n) h = IsUtf8-number n h
  IsUtf8-compact_text (string s) h = IsUtf8-quoted s h
  IsUtf8-compact_text (array ds) h = byte_then 91 _ (IsUtf8-are_ascii (91 ∷ []) refl) (IsUtf8-items_text false ds h)
  IsUtf8-compact_text (object ms) h = byte_then 123 _ (IsUtf8-are_ascii (123 ∷ []) refl) (IsUtf8-members_text false ms h)

  IsUtf8-items_text : (later : Bool) (ds : Items) → ItemsHaveTexts ds → IsUtf8 (items_text later ds)
  IsUtf8-items_text later no_items h = IsUtf8-are_ascii (93 ∷ []) refl
  IsUtf8-items_text later (item d ds) h =
      IsUtf8-append (comma_if later) _ (comma_utf8 later) (IsUtf8-append (compact_text d) _ (IsUtf8-compact_text d h.0) (IsUtf8-items_text true ds h.1))

  IsUtf8-members_text : (later : Bool) (ms : Members) → MembersHaveTexts ms → IsUtf8 (members_text later ms)
  IsUtf8-members_text later no_members h = IsUtf8-are_ascii (125 ∷ []) refl
  IsUtf8-members_text later (member k d ms) h =
      IsUtf8-append (comma_if later) _ (comma_utf8 later)
      (IsUtf8-append (quoted k) _ (IsUtf8-quoted k h.0)
      (byte_then 58 _ (IsUtf8-are_ascii (58 ∷ []) refl)
      (IsUtf8-append (compact_text d) _ (IsUtf8-compact_text d h.1) (IsUtf8-members_text true ms h.2))))
