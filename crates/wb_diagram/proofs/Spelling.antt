-- Where the written form of a key is cut, its parts come back.
use Rattle.std.proofs.Common.{◌≡◌, ℕ, ◌^◌, ◌<◌, ◌≤◌, ◌≢◌, Option, Some, MatchOption, Bor, false, eqb, List, [], ◌∷◌, ◌++◌, length, map, get_or, refl, ap, sym, ◌∙◌, arith, append_assoc, suc, lit<}
use Rattle.std.specs.List.{All, slice_split}
use Rattle.std.specs.Prelude.{codes, decimal}
use Rattle.std.specs.Int.{IsInRange}
use Rattle.std.specs.Str.{IsAscii, IsUtf8}
use Rattle.std.specs.Str.Parse.{AllDigits, digits_value}
use Rattle.std.proofs.lemmas.Str.Parse.{digit_from_value}
use Rattle.std.proofs.lemmas.Fmt.{decimal_is_IsNumeral, IsAscii-decimal}
use Rattle.std.proofs.lemmas.List.Elements.{All-nil, All-cons, All-append}
use Rattle.std.proofs.Math.Seq.{get_or-append_seam}
use Rattle.std.proofs.lemmas.List.{length-append, length-map, get_or-map}
use Rattle.std.proofs.lemmas.List.Splits.{slice_split_none, slice_split_at}
use Rattle.std.proofs.lemmas.Bool.Decides.{nat_tests}
use Rattle.std.proofs.lemmas.Str.Pattern.{IsSplitOnceResult, split_after, split_parts}
use Rattle.std.proofs.lemmas.Str.{IsAscii-append, IsUtf8-from_ascii}
use Rattle.std.proofs.lemmas.Str.Ascii.{IsAscii-nil}
use Rattle.wb_diagram.specs.Keys.{IsNumbered, HasNumbers, IsPath, JoinsPaths, Spells, own_pair, semantic_pair, pair_text, path_text, key_text, edge_key_text, any_key_text}
use Rattle.wb_diagram.specs.declared.keys.Pair.{Pair}
use Rattle.wb_diagram.specs.declared.keys.Key.{Key}
use Rattle.wb_diagram.specs.declared.keys.EdgeKey.{EdgeKey}
use Rattle.wb_diagram.specs.declared.keys.AnyKey.{AnyKey}
use Rattle.wb_diagram.specs.declared.keys.AnyKey.TheVariants.{Node, Edge}

-- a byte does not stand in a text
abbrev pub Lacks : ℕ → List ℕ → Type 0
Lacks c bs = All (λ b. eqb b c ≡ false) bs

-- a byte is no digit
abbrev pub IsNoDigit : ℕ → Type 0
IsNoDigit c = (b : ℕ) → 48 ≤ b → b ≤ 57 → eqb b c ≡ false

dash_is_no_digit : IsNoDigit 45
dash_is_no_digit b low high = grind (arith, nat_tests)

dot_is_no_digit : IsNoDigit 46
dot_is_no_digit b low high = grind (arith, nat_tests)

colon_is_no_digit : IsNoDigit 58
colon_is_no_digit b low high = grind (arith, nat_tests)

digits_lack : (c : ℕ) → IsNoDigit c → (ds : List ℕ) → AllDigits 10 ds → Lacks c ds
digits_lack c other [] all = All-nil (λ b. eqb b c ≡ false)
digits_lack c other (d ∷ ds) all =
    All-cons (λ b. eqb b c ≡ false) d ds
    (let range : IsInRange 48 57 d = digit_from_value d all.0 in other d range.0 range.1)
    (digits_lack c other ds all.1)

number_lacks : (c n : ℕ) → IsNoDigit c → n < 2 ^ 32 → Lacks c (decimal n)
number_lacks c n other small = digits_lack c other (decimal n) (decimal_is_IsNumeral n (omega arith)).0.1

pair_lacks : (c : ℕ) (p : Pair) → IsNoDigit c → eqb 46 c ≡ false → IsNumbered p → Lacks c (pair_text p)
unfolding pair_text
pair_lacks c p other dot small =
    let P : ℕ → Type 0 = λ b. eqb b c ≡ false in
    All-append P (decimal p.mapping ++ codes ".") (decimal p.object)
    (All-append P (decimal p.mapping) (codes ".") (number_lacks c p.mapping other small.0) (All-cons P 46 [] dot (All-nil P)))
    (number_lacks c p.object other small.1)

all_head : {A : Type 0} (P : A → Type 0) (x : A) (xs : List A) → All P (x ∷ xs) → P x
all_head P x xs all = all 0 x (omega arith)

all_tail : {A : Type 0} (P : A → Type 0) (x : A) (xs : List A) → All P (x ∷ xs) → All P xs
all_tail P x xs all = λ k d within. all (suc k) d (omega arith)

-- a path lacks whatever is no digit, no dot and no dash
path_lacks : (c : ℕ) → IsNoDigit c → eqb 46 c ≡ false → eqb 45 c ≡ false → (path : List Pair) → All IsNumbered path → Lacks c (path_text path)
unfolding path_text
path_lacks c other dot dash [] all = All-nil (λ b. eqb b c ≡ false)
path_lacks c other dot dash (p ∷ []) all = pair_lacks c p other dot (all_head IsNumbered p [] all)
path_lacks c other dot dash (p ∷ q ∷ ps) all =
    let P : ℕ → Type 0 = λ b. eqb b c ≡ false in
    All-append P (pair_text p) (45 ∷ path_text (q ∷ ps)) (pair_lacks c p other dot (all_head IsNumbered p (q ∷ ps) all))
    (All-cons P 45 (path_text (q ∷ ps)) dash (path_lacks c other dot dash (q ∷ ps) (all_tail IsNumbered p (q ∷ ps) all)))

-- a path that is cut at its dashes gives its pairs
pub split-path_text : (p : Pair) (ps : List Pair) → All IsNumbered (p ∷ ps) → slice_split (λ b. eqb b 45) (path_text (p ∷ ps)) ≡ map pair_text (p ∷ ps)
unfolding path_text
split-path_text p [] all =
    slice_split_none (λ b. eqb b 45) (pair_text p) (pair_lacks 45 p dash_is_no_digit refl (all_head IsNumbered p [] all))
split-path_text p (q ∷ ps) all =
    slice_split_at (λ b. eqb b 45) (pair_text p) 45 (path_text (q ∷ ps)) (pair_lacks 45 p dash_is_no_digit refl (all_head IsNumbered p (q ∷ ps) all)) refl
    ∙ ap (λ t. pair_text p ∷ t) (split-path_text q ps (all_tail IsNumbered p (q ∷ ps) all))

-- in the words of `split_once`
pub is_not_there : (c : ℕ) (bs : List ℕ) → Lacks c bs → (i : ℕ) → i < length bs → get_or bs i 0 ≢ c
is_not_there c bs lacks i within is = let apart : eqb (get_or bs i 0) c ≡ false = lacks i 0 within in grind (arith, nat_tests)

-- the two texts round a separator that is not in the front
abbrev pub IsCut : List ℕ → List ℕ → Option (Bor (List ℕ) × Bor (List ℕ)) → Type 0
IsCut front back r = MatchOption r ⊥ (λ x. (x.0.now ≡ front) × (x.1.now ≡ back))

-- a pair that is cut at its dot gives its numbers
pub cut_pair : (text : List ℕ) (r : Option (Bor (List ℕ) × Bor (List ℕ))) → IsSplitOnceResult 46 text r → (p : Pair) → IsNumbered p → text ≡ pair_text p → IsCut (decimal p.mapping) (decimal p.object) r
unfolding pair_text
cut_pair text r cut p small is =
    split_after 46 text (decimal p.mapping) (decimal p.object) r cut (lit< tt)
    (is ∙ append_assoc (decimal p.mapping) (codes ".") (decimal p.object))
    (is_not_there 46 (decimal p.mapping) (number_lacks 46 p.mapping dot_is_no_digit small.0))

-- an edge's key that is cut at its first colon gives its pair and its ends
pub cut_edge : (text : List ℕ) (r : Option (Bor (List ℕ) × Bor (List ℕ))) → IsSplitOnceResult 58 text r → (key : EdgeKey) → IsNumbered (semantic_pair key) → text ≡ edge_key_text key → IsCut (pair_text (semantic_pair key)) (key_text key.source ++ 58 ∷ key_text key.target) r
unfolding edge_key_text
cut_edge text r cut key small is =
    split_after 58 text (pair_text (semantic_pair key)) (key_text key.source ++ 58 ∷ key_text key.target) r cut (lit< tt)
    (is ∙ simp append_assoc)
    (is_not_there 58 (pair_text (semantic_pair key)) (pair_lacks 58 (semantic_pair key) colon_is_no_digit refl small))

-- the ends that are cut at the colon are the two keys
pub cut_ends : (text : List ℕ) (r : Option (Bor (List ℕ) × Bor (List ℕ))) → IsSplitOnceResult 58 text r → (source target : Key) → All IsNumbered source.pairs → text ≡ key_text source ++ 58 ∷ key_text target → IsCut (key_text source) (key_text target) r
cut_ends text r cut source target small is =
    split_after 58 text (key_text source) (key_text target) r cut (lit< tt) is
    (is_not_there 58 (key_text source) (path_lacks 58 colon_is_no_digit refl refl source.pairs small))

-- a node's key has no colon
pub no_colon : (key : Key) → All IsNumbered key.pairs → Lacks 58 (key_text key)
no_colon key small = path_lacks 58 colon_is_no_digit refl refl key.pairs small

-- ---- a key is ASCII

pair_is_ascii : (p : Pair) → IsNumbered p → IsAscii (pair_text p)
unfolding pair_text
pair_is_ascii p small =
    IsAscii-append (decimal p.mapping ++ codes ".") (decimal p.object)
    (IsAscii-append (decimal p.mapping) (codes ".") (IsAscii-decimal p.mapping (omega (arith, small.0))) (grind arith))
    (IsAscii-decimal p.object (omega (arith, small.1)))

path_is_ascii : (path : List Pair) → All IsNumbered path → IsAscii (path_text path)
unfolding path_text
path_is_ascii [] all = IsAscii-nil
path_is_ascii (p ∷ []) all = pair_is_ascii p (all_head IsNumbered p [] all)
path_is_ascii (p ∷ q ∷ ps) all =
    IsAscii-append (pair_text p) (codes "-" ++ path_text (q ∷ ps)) (pair_is_ascii p (all_head IsNumbered p (q ∷ ps) all))
    (IsAscii-append (codes "-") (path_text (q ∷ ps)) (grind arith) (path_is_ascii (q ∷ ps) (all_tail IsNumbered p (q ∷ ps) all)))

edge_is_ascii : (key : EdgeKey) → IsNumbered (semantic_pair key) → All IsNumbered key.source.pairs → All IsNumbered key.target.pairs → IsAscii (edge_key_text key)
unfolding edge_key_text
edge_is_ascii key own source target =
    let colon : IsAscii (codes ":") = grind arith in
    IsAscii-append (pair_text (semantic_pair key) ++ codes ":" ++ key_text key.source ++ codes ":") (key_text key.target)
    (IsAscii-append (pair_text (semantic_pair key) ++ codes ":" ++ key_text key.source) (codes ":")
    (IsAscii-append (pair_text (semantic_pair key) ++ codes ":") (key_text key.source)
    (IsAscii-append (pair_text (semantic_pair key)) (codes ":") (pair_is_ascii (semantic_pair key) own) colon)
    (path_is_ascii key.source.pairs source))
    colon)
    (path_is_ascii key.target.pairs target)

pub IsUtf8-any_key_text : (key : AnyKey) → HasNumbers key → IsUtf8 (any_key_text key)
IsUtf8-any_key_text (Node key) small = IsUtf8-from_ascii (key_text key) (path_is_ascii key.pairs small)
IsUtf8-any_key_text (Edge key) small = IsUtf8-from_ascii (edge_key_text key) (edge_is_ascii key small.0 small.1 small.2)

-- ---- the parts of a path between its dashes

-- the parts are the written forms of the pairs
abbrev pub ArePartsOf : List (Bor (List ℕ)) → List ℕ → Type 0
ArePartsOf parts text = map (λ (part : Bor (List ℕ)). part.now) parts ≡ slice_split (λ b. eqb b 45) text

parts_are : (parts : List (Bor (List ℕ))) (text : List ℕ) → ArePartsOf parts text → (path : List Pair) → 0 < length path → All IsNumbered path → text ≡ path_text path → map (λ (part : Bor (List ℕ)). part.now) parts ≡ map pair_text path
parts_are parts text are [] some small is = absurd (omega arith)
parts_are parts text are (p ∷ ps) some small is = are ∙ ap (slice_split (λ b. eqb b 45)) is ∙ split-path_text p ps small

pub as_many_parts : (parts : List (Bor (List ℕ))) (text : List ℕ) → ArePartsOf parts text → (key : Key) → 0 < length key.pairs → All IsNumbered key.pairs → text ≡ key_text key → length parts ≡ length key.pairs
as_many_parts parts text are key some small is =
    sym (length-map parts (λ (part : Bor (List ℕ)). part.now)) ∙ ap length (parts_are parts text are key.pairs some small is) ∙ length-map key.pairs pair_text

pub part_is : (parts : List (Bor (List ℕ))) (text : List ℕ) → ArePartsOf parts text → (key : Key) → 0 < length key.pairs → All IsNumbered key.pairs → text ≡ key_text key → (i : ℕ) (d : Bor (List ℕ)) (q : Pair) → i < length parts → (get_or parts i d).now ≡ pair_text (get_or key.pairs i q)
part_is parts text are key some small is i d q within =
    let many : length parts ≡ length key.pairs = as_many_parts parts text are key some small is in
    sym (get_or-map (λ (part : Bor (List ℕ)). part.now) parts i d [] within)
    ∙ ap (λ texts. get_or texts i []) (parts_are parts text are key.pairs some small is)
    ∙ get_or-map pair_text key.pairs i q [] (omega arith)

-- whoever reads each pair from its written form reads this one
pub part_reads : (parts : List (Bor (List ℕ))) (text : List ℕ) → ArePartsOf parts text → (key : Key) → 0 < length key.pairs → All IsNumbered key.pairs → text ≡ key_text key → (i : ℕ) (d : Bor (List ℕ)) → i < length parts → (r : Option Pair) → ((pair : Pair) → IsNumbered pair → (get_or parts i d).now ≡ pair_text pair → r ≡ Some pair) → r ≡ Some (get_or key.pairs i (own_pair key))
part_reads parts text are key some small is i d within r reads =
    let many : length parts ≡ length key.pairs = as_many_parts parts text are key some small is in
    reads (get_or key.pairs i (own_pair key)) (small i (own_pair key) (omega arith)) (part_is parts text are key some small is i d (own_pair key) within)

-- a node's key is not cut at a colon
pub node_is_whole : (text : List ℕ) (front back : Bor (List ℕ)) → IsSplitOnceResult 58 text (Some (front, back)) → (key : Key) → All IsNumbered key.pairs → text ≡ key_text key → ⊥
node_is_whole text front back cut key small is =
    let parts = split_parts 58 text (Some (front, back)) cut (lit< tt) in
    let whole : key_text key ≡ front.now ++ 58 ∷ back.now = sym is ∙ parts.0 in
    let within : length front.now < length (key_text key) = rw whole (simp length-append (omega arith)) in
    let there : get_or (key_text key) (length front.now) 0 ≡ 58 = rw whole (get_or-append_seam front.now 58 back.now 0) in
    is_not_there 58 (key_text key) (no_colon key small) (length front.now) within there

-- ---- two keys that are written alike are one key

decimal_alike : (m n : ℕ) → m < 2 ^ 32 → n < 2 ^ 32 → decimal m ≡ decimal n → m ≡ n
decimal_alike m n m_small n_small alike =
    sym (decimal_is_IsNumeral m (omega arith)).1 ∙ ap (digits_value 10) alike ∙ (decimal_is_IsNumeral n (omega arith)).1

split-pair_text : (p : Pair) → IsNumbered p → slice_split (λ b. eqb b 46) (pair_text p) ≡ decimal p.mapping ∷ decimal p.object ∷ []
unfolding pair_text
split-pair_text p small =
    ap (slice_split (λ b. eqb b 46)) (append_assoc (decimal p.mapping) (codes ".") (decimal p.object))
    ∙ slice_split_at (λ b. eqb b 46) (decimal p.mapping) 46 (decimal p.object) (number_lacks 46 p.mapping dot_is_no_digit small.0) refl
    ∙ ap (λ t. decimal p.mapping ∷ t) (slice_split_none (λ b. eqb b 46) (decimal p.object) (number_lacks 46 p.object dot_is_no_digit small.1))

pair_alike : (p q : Pair) → IsNumbered p → IsNumbered q → pair_text p ≡ pair_text q → p ≡ q
pair_alike p q p_small q_small alike =
    let parts : decimal p.mapping ∷ decimal p.object ∷ [] ≡ decimal q.mapping ∷ decimal q.object ∷ [] = sym (split-pair_text p p_small) ∙ ap (slice_split (λ b. eqb b 46)) alike ∙ split-pair_text q q_small in
    let mapping : p.mapping ≡ q.mapping = decimal_alike p.mapping q.mapping p_small.0 q_small.0 (cc) in
    let object : p.object ≡ q.object = decimal_alike p.object q.object p_small.1 q_small.1 (cc) in
    ap (λ (m : ℕ). record { mapping = m; object = p.object }) mapping ∙ ap (λ (o : ℕ). record { mapping = q.mapping; object = o }) object

pairs_alike : (ps qs : List Pair) → All IsNumbered ps → All IsNumbered qs → map pair_text ps ≡ map pair_text qs → ps ≡ qs
pairs_alike [] [] ps_small qs_small alike = refl
pairs_alike [] (q ∷ qs) ps_small qs_small alike = cc
pairs_alike (p ∷ ps) [] ps_small qs_small alike = cc
pairs_alike (p ∷ ps) (q ∷ qs) ps_small qs_small alike =
    let first : p ≡ q = pair_alike p q (all_head IsNumbered p ps ps_small) (all_head IsNumbered q qs qs_small) (cc) in
    let rest : ps ≡ qs = pairs_alike ps qs (all_tail IsNumbered p ps ps_small) (all_tail IsNumbered q qs qs_small) (cc) in
    cc

path_alike : (ps qs : List Pair) → 0 < length ps → 0 < length qs → All IsNumbered ps → All IsNumbered qs → path_text ps ≡ path_text qs → ps ≡ qs
path_alike [] qs ps_some qs_some ps_small qs_small alike = absurd (omega arith)
path_alike (p ∷ ps) [] ps_some qs_some ps_small qs_small alike = absurd (omega arith)
path_alike (p ∷ ps) (q ∷ qs) ps_some qs_some ps_small qs_small alike =
    pairs_alike (p ∷ ps) (q ∷ qs) ps_small qs_small (sym (split-path_text p ps ps_small) ∙ ap (slice_split (λ b. eqb b 45)) alike ∙ split-path_text q qs qs_small)

split-node : (key : Key) → All IsNumbered key.pairs → slice_split (λ b. eqb b 58) (key_text key) ≡ key_text key ∷ []
split-node key small = slice_split_none (λ b. eqb b 58) (key_text key) (no_colon key small)

split-edge : (key : EdgeKey) → HasNumbers (Edge key) → slice_split (λ b. eqb b 58) (edge_key_text key) ≡ pair_text (semantic_pair key) ∷ key_text key.source ∷ key_text key.target ∷ []
unfolding edge_key_text
split-edge key small =
    let whole : edge_key_text key ≡ pair_text (semantic_pair key) ++ 58 ∷ (key_text key.source ++ 58 ∷ key_text key.target) = simp append_assoc in
    ap (slice_split (λ b. eqb b 58)) whole
    ∙ slice_split_at (λ b. eqb b 58) (pair_text (semantic_pair key)) 58 (key_text key.source ++ 58 ∷ key_text key.target) (pair_lacks 58 (semantic_pair key) colon_is_no_digit refl small.0) refl
    ∙ ap (λ t. pair_text (semantic_pair key) ∷ t)
    (slice_split_at (λ b. eqb b 58) (key_text key.source) 58 (key_text key.target) (no_colon key.source small.1) refl
    ∙ ap (λ t. key_text key.source ∷ t) (split-node key.target small.2))

node_alike : (a b : Key) → IsPath a → IsPath b → All IsNumbered a.pairs → All IsNumbered b.pairs → key_text a ≡ key_text b → a ≡ b
node_alike a b a_path b_path a_small b_small alike =
    ap (λ (ps : List Pair). record { pairs = ps }) (path_alike a.pairs b.pairs a_path.not_empty b_path.not_empty a_small b_small alike)

edge_alike : (a b : EdgeKey) → JoinsPaths a → JoinsPaths b → HasNumbers (Edge a) → HasNumbers (Edge b) → edge_key_text a ≡ edge_key_text b → a ≡ b
edge_alike a b a_paths b_paths a_small b_small alike =
    let parts : pair_text (semantic_pair a) ∷ key_text a.source ∷ key_text a.target ∷ [] ≡ pair_text (semantic_pair b) ∷ key_text b.source ∷ key_text b.target ∷ [] =
    sym (split-edge a a_small) ∙ ap (slice_split (λ b. eqb b 58)) alike ∙ split-edge b b_small in
    let own : semantic_pair a ≡ semantic_pair b = pair_alike (semantic_pair a) (semantic_pair b) a_small.0 b_small.0 (cc) in
    let source : a.source ≡ b.source = node_alike a.source b.source a_paths.source b_paths.source a_small.1 b_small.1 (cc) in
    let target : a.target ≡ b.target = node_alike a.target b.target a_paths.target b_paths.target a_small.2 b_small.2 (cc) in
    ap (λ (p : Pair). record { mapping = p.mapping; object = p.object; source = a.source; target = a.target }) own
    ∙ ap (λ (k : Key). record { mapping = b.mapping; object = b.object; source = k; target = a.target }) source
    ∙ ap (λ (k : Key). record { mapping = b.mapping; object = b.object; source = b.source; target = k }) target

-- a node and an edge are never written alike
node_or_edge : (a : Key) (b : EdgeKey) → All IsNumbered a.pairs → HasNumbers (Edge b) → key_text a ≡ edge_key_text b → ⊥
node_or_edge a b a_small b_small alike =
    let parts : key_text a ∷ [] ≡ pair_text (semantic_pair b) ∷ key_text b.source ∷ key_text b.target ∷ [] =
    sym (split-node a a_small) ∙ ap (slice_split (λ b. eqb b 58)) alike ∙ split-edge b b_small in
    cc

-- a text spells one key at most
pub one_key : (text : List ℕ) (a b : AnyKey) → Spells text a → Spells text b → a ≡ b
one_key text (Node a) (Node b) a_spells b_spells =
    ap Node (node_alike a b a_spells.writable b_spells.writable a_spells.numbered b_spells.numbered (sym a_spells.written ∙ b_spells.written))
one_key text (Node a) (Edge b) a_spells b_spells = absurd (node_or_edge a b a_spells.numbered b_spells.numbered (sym a_spells.written ∙ b_spells.written))
one_key text (Edge a) (Node b) a_spells b_spells = absurd (node_or_edge b a b_spells.numbered a_spells.numbered (sym b_spells.written ∙ a_spells.written))
one_key text (Edge a) (Edge b) a_spells b_spells =
    ap Edge (edge_alike a b a_spells.writable b_spells.writable a_spells.numbered b_spells.numbered (sym a_spells.written ∙ b_spells.written))
