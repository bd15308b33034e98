-- The key in a text is the one that the text spells.
use Rattle.std.proofs.Common.{◌≡◌, ℕ, ◌^◌, ◌<◌, ◌≤◌, Bool, true, false, Option, Some, None, leb, eqb, List, [], ◌∷◌, ◌++◌, length, map, refl, ap, sym, ◌∙◌, arith, append_assoc, suc}
use Rattle.std.specs.Prelude.{codes, decimal, IfSome, IsNone, if◌then◌else◌, option_and_then}
use Rattle.std.specs.Bool.{Decides}
use Rattle.std.specs.Int.{IsInRange}
use Rattle.std.specs.List.{All, list_all, slice_split}
use Rattle.std.specs.Str.Parse.{AllDigits, digits_value}
use Rattle.std.specs.Cmp.Lexicographic.{pointwise}
use Rattle.std.proofs.lemmas.Bool.Decides.{nat_tests, Decides-eqb, Decides-ltb, Decides-and, Decides-like, Decides-by_and}
use Rattle.std.proofs.lemmas.Fmt.{decimal_is_IsNumeral}
use Rattle.std.proofs.lemmas.List.Elements.{All-nil, All-cons, All-append}
use Rattle.std.proofs.lemmas.List.Splits.{slice_split_none, slice_split_at}
use Rattle.std.proofs.lemmas.Slice.Eq.{slice_eq-Decides}
use Rattle.std.proofs.lemmas.Str.Parse.{digit_from_value}
use Rattle.wb_diagram.specs.Keys.{IsNumbered, HasNumbers, IsPath, IsWritable, JoinsPaths, Spells, semantic_pair, pair_text, path_text, key_text, edge_key_text, any_key_text}
use Rattle.wb_diagram.specs.declared.keys.Pair.{Pair}
use Rattle.wb_diagram.specs.declared.keys.Key.{Key}
use Rattle.wb_diagram.specs.declared.keys.EdgeKey.{EdgeKey}
use Rattle.wb_diagram.specs.declared.keys.AnyKey.{AnyKey}
use Rattle.wb_diagram.specs.declared.keys.AnyKey.TheVariants.{Node, Edge}
use Rattle.wb_diagram.proofs.Spelling.{Lacks, IsNoDigit, split-path_text, no_colon}
use Rattle.wb_commands.specs.Keys.{pair_in, path_in, key_with, key_made, is_numbered, is_path, has_form, is_written_so, key_in}

-- ---- the tests tell

numbered_decided : (pair : Pair) → Decides (is_numbered pair) (IsNumbered pair)
numbered_decided pair = Decides-and _ _ (Decides-ltb pair.mapping (2 ^ 32)) (Decides-ltb pair.object (2 ^ 32))

all_numbered_decided : (pairs : List Pair) → Decides (list_all is_numbered pairs) (All IsNumbered pairs)
all_numbered_decided = Decides-by_and is_numbered IsNumbered (list_all is_numbered) numbered_decided refl (λ _ _. refl)

at_most_decided : (a b : ℕ) → Decides (leb a b) (a ≤ b)
at_most_decided a b = (λ e. grind (arith, nat_tests), λ h. grind (arith, nat_tests))

path_decided : (key : Key) → Decides (is_path key) (IsPath key × All IsNumbered key.pairs)
path_decided key =
    Decides-like (is_path key)
    (λ h. (record { not_empty = h.0.0; within_limit = h.0.1 }, h.1))
    (λ h. ((h.0.not_empty, h.0.within_limit), h.1))
    (Decides-and _ _ (Decides-and _ _ (at_most_decided 1 (length key.pairs)) (at_most_decided (length key.pairs) 32)) (all_numbered_decided key.pairs))

form_decided : (key : AnyKey) → Decides (has_form key) (IsWritable key × HasNumbers key)
form_decided (Node key) = path_decided key
form_decided (Edge key) =
    Decides-like (has_form (Edge key))
    (λ h. (record { source = h.0.1.0; target = h.1.0 }, (h.0.0, h.0.1.1, h.1.1)))
    (λ h. ((h.1.0, (h.0.source, h.1.1)), (h.0.target, h.1.2)))
    (Decides-and _ _ (Decides-and _ _ (numbered_decided (semantic_pair key)) (path_decided key.source)) (path_decided key.target))

spells_decided : (text : List ℕ) (key : AnyKey) → Decides (is_written_so text key) (Spells text key)
spells_decided text key =
    Decides-like (is_written_so text key)
    (λ h. record { writable = h.0.0; numbered = h.0.1; written = h.1 })
    (λ h. ((h.writable, h.numbered), h.written))
    (Decides-and _ _ (form_decided key) (slice_eq-Decides Decides-eqb text (any_key_text key) _ refl))

-- ---- the numbers of a key's text make the key

digits_lack : (c : ℕ) → IsNoDigit c → (ds : List ℕ) → AllDigits 10 ds → Lacks c ds
digits_lack c other [] all = All-nil (λ b. eqb b c ≡ false)
digits_lack c other (d ∷ ds) all =
    All-cons (λ b. eqb b c ≡ false) d ds
    (let range : IsInRange 48 57 d = digit_from_value d all.0 in other d range.0 range.1)
    (digits_lack c other ds all.1)

number_lacks : (c n : ℕ) → IsNoDigit c → n < 2 ^ 32 → Lacks c (decimal n)
number_lacks c n other small = digits_lack c other (decimal n) (decimal_is_IsNumeral n (omega arith)).0.1

dot_is_no_digit : IsNoDigit 46
dot_is_no_digit b low high = grind (arith, nat_tests)

colon_is_no_digit : IsNoDigit 58
colon_is_no_digit b low high = grind (arith, nat_tests)

number_made : (n : ℕ) → n < 2 ^ 32 → digits_value 10 (decimal n) ≡ n
number_made n small = (decimal_is_IsNumeral n (omega arith)).1

split-pair_text : (pair : Pair) → IsNumbered pair → slice_split (λ b. eqb b 46) (pair_text pair) ≡ decimal pair.mapping ∷ decimal pair.object ∷ []
unfolding pair_text
split-pair_text pair small =
    ap (slice_split (λ b. eqb b 46)) (append_assoc (decimal pair.mapping) (codes ".") (decimal pair.object))
    ∙ slice_split_at (λ b. eqb b 46) (decimal pair.mapping) 46 (decimal pair.object) (number_lacks 46 pair.mapping dot_is_no_digit small.0) refl
    ∙ ap (λ t. decimal pair.mapping ∷ t) (slice_split_none (λ b. eqb b 46) (decimal pair.object) (number_lacks 46 pair.object dot_is_no_digit small.1))

pair_made : (pair : Pair) → IsNumbered pair → pair_in (pair_text pair) ≡ pair
pair_made pair small =
    rw (split-pair_text pair small)
    (ap (λ (m : ℕ). record { mapping = m; object = digits_value 10 (decimal pair.object) }) (number_made pair.mapping small.0)
    ∙ ap (λ (o : ℕ). record { mapping = pair.mapping; object = o }) (number_made pair.object small.1))

pairs_made : (pairs : List Pair) → All IsNumbered pairs → map pair_in (map pair_text pairs) ≡ pairs
pairs_made [] all = refl
pairs_made (pair ∷ pairs) all =
    ap (λ p. p ∷ map pair_in (map pair_text pairs)) (pair_made pair (all 0 pair (omega arith)))
    ∙ ap (λ ps. pair ∷ ps) (pairs_made pairs (λ k d within. all (suc k) d (omega arith)))

path_made : (pairs : List Pair) → 0 < length pairs → All IsNumbered pairs → path_in (path_text pairs) ≡ record { pairs = pairs }
path_made [] some all = absurd (omega arith)
path_made (pair ∷ pairs) some all =
    ap (λ (texts : List (List ℕ)). record { pairs = map pair_in texts }) (split-path_text pair pairs all)
    ∙ ap (λ (ps : List Pair). record { pairs = ps }) (pairs_made (pair ∷ pairs) all)

key_path_made : (key : Key) → IsPath key → All IsNumbered key.pairs → path_in (key_text key) ≡ key
key_path_made key path all = path_made key.pairs path.not_empty all

pair_lacks_colon : (pair : Pair) → IsNumbered pair → Lacks 58 (pair_text pair)
unfolding pair_text
pair_lacks_colon pair small =
    let P : ℕ → Type 0 = λ b. eqb b 58 ≡ false in
    All-append P (decimal pair.mapping ++ codes ".") (decimal pair.object)
    (All-append P (decimal pair.mapping) (codes ".") (number_lacks 58 pair.mapping colon_is_no_digit small.0) (All-cons P 46 [] refl (All-nil P)))
    (number_lacks 58 pair.object colon_is_no_digit small.1)

split-edge : (key : EdgeKey) → HasNumbers (Edge key) → slice_split (λ b. eqb b 58) (edge_key_text key) ≡ pair_text (semantic_pair key) ∷ key_text key.source ∷ key_text key.target ∷ []
unfolding edge_key_text
split-edge key small =
    let whole : edge_key_text key ≡ pair_text (semantic_pair key) ++ 58 ∷ (key_text key.source ++ 58 ∷ key_text key.target) = simp append_assoc in
    ap (slice_split (λ b. eqb b 58)) whole
    ∙ slice_split_at (λ b. eqb b 58) (pair_text (semantic_pair key)) 58 (key_text key.source ++ 58 ∷ key_text key.target) (pair_lacks_colon (semantic_pair key) small.0) refl
    ∙ ap (λ t. pair_text (semantic_pair key) ∷ t)
    (slice_split_at (λ b. eqb b 58) (key_text key.source) 58 (key_text key.target) (no_colon key.source small.1) refl
    ∙ ap (λ t. key_text key.source ∷ t) (slice_split_none (λ b. eqb b 58) (key_text key.target) (no_colon key.target small.2)))

edge_made : (key : EdgeKey) (own : Pair) (source target : Key) → own ≡ semantic_pair key → source ≡ key.source → target ≡ key.target → ◌≡◌ {A = Option AnyKey} (Some (Edge (record { mapping = own.mapping; object = own.object; source = source; target = target }))) (Some (Edge key))
edge_made key own source target owns sources targets =
    ap (λ (p : Pair). Some (Edge (record { mapping = p.mapping; object = p.object; source = source; target = target }))) owns
    ∙ ap (λ (k : Key). Some (Edge (record { mapping = key.mapping; object = key.object; source = k; target = target }))) sources
    ∙ ap (λ (k : Key). Some (Edge (record { mapping = key.mapping; object = key.object; source = key.source; target = k }))) targets

made : (key : AnyKey) → IsWritable key → HasNumbers key → key_made (any_key_text key) ≡ Some key
made (Node key) path all =
    ap key_with (slice_split_none (λ b. eqb b 58) (key_text key) (no_colon key all))
    ∙ ap (λ k. Some (Node k)) (key_path_made key path all)
made (Edge key) paths small =
    ap key_with (split-edge key small)
    ∙ edge_made key _ _ _ (pair_made (semantic_pair key) small.0) (key_path_made key.source paths.source small.1) (key_path_made key.target paths.target small.2)

-- ---- the key in a text

pub is_found : (text : List ℕ) (key : AnyKey) → Spells text key → key_in text ≡ Some key
unfolding key_in
is_found text key spells =
    let there : key_made text ≡ Some key = ap key_made spells.written ∙ made key spells.writable spells.numbered in
    rw there (rw ((spells_decided text key).1 spells) refl)

found_spells : (text : List ℕ) (key : AnyKey) (made : Option AnyKey) → option_and_then (λ k. if is_written_so text k then Some k else None) made ≡ Some key → Spells text key
found_spells text key None found = absurd (cc)
found_spells text key (Some k) found = by (is_written_so text k) refl found
  where
    by : (t : Bool) → is_written_so text k ≡ t → (if t then Some k else None) ≡ Some key → Spells text key
    by true is same = let same_key : k ≡ key = cc in (spells_decided text key).0 (ap (is_written_so text) (sym same_key) ∙ is)
    by false is same = absurd (cc)

pub is_spelled : (text : List ℕ) (key : AnyKey) → key_in text ≡ Some key → Spells text key
unfolding key_in
is_spelled text key found = found_spells text key (key_made text) found

-- whoever answers the key that is spelled, and nothing only where none is, answers the key in the text
pub key_found : (text : List ℕ) (found : Option AnyKey) → IfSome found (Spells text) → (IsNone found → (key : AnyKey) → ¬ Spells text key) → key_in text ≡ found
key_found text (Some key) spells none = is_found text key spells
key_found text None spells none = by (key_in text) refl
  where
    by : (o : Option AnyKey) → key_in text ≡ o → key_in text ≡ None
    by None is = is
    by (Some key) is = absurd (none refl key (is_spelled text key is))
