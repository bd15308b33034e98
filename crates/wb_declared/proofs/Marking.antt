-- What a mark of one key changes: whether that key is declared, and nothing above it.
use Rattle.std.proofs.Common.{◌≡◌, ◌+◌, ◌<◌, Bool, true, false, ◌&&◌, ◌||◌, nat_eq, List, [], ◌∷◌, ◌++◌, length, refl, sym, ap, ◌∙◌, arith, length-append, if◌then◌else◌}
use Rattle.std.specs.List.{list_any}
use Rattle.std.specs.Option.{option_map_or}
use Rattle.std.proofs.lemmas.Bool.{false_from_ne_true}
use Rattle.std.proofs.lemmas.List.Folds.{list_any-append}
use Rattle.wb_store.specs.Contents.{Contents}
use Rattle.wb_diagram.specs.declared.keys.Key.{Key}
use Rattle.wb_diagram.specs.declared.keys.Pair.{Pair}
use Rattle.wb_spec_check.specs.Checked.{Specification}
use Rattle.wb_spec_check.specs.declared.checked_mappings.CheckedNode.{CheckedNode}
use Rattle.wb_answers.specs.Meanings.{objects_of}
use Rattle.wb_answers.specs.SameKeys.{among, same_key}
use Rattle.wb_answers.specs.Seen.{Told}
use Rattle.wb_answers.proofs.SameKeyLaws.{key_equiv, key_is}
use Rattle.wb_nodes.specs.Nodes.{Scene, candidates_at, children, node_mapping, nodes, passes, scene_of}
use Rattle.wb_declared.specs.Standing.{fits_under, key_under, leads_to, may_stand}
use Rattle.wb_declared.proofs.Children.{among_children}
use Rattle.wb_declared.proofs.Paths.{among_key, among_nodes, leads}

-- the second marks the key, and else as the first
pub record AlsoMarks (key : Key) (a b : List Key) : Type 0 where
  pub own : among b key ≡ true
  pub others : (k : Key) → same_key k key ≡ false → among b k ≡ among a k

pub marks_one_more : (key : Key) (a : List Key) → AlsoMarks key a (a ++ key ∷ [])
marks_one_more key a = record {
  own = list_any-append (same_key key) a (key ∷ []) ∙ (ap (λ b. among a key || (b || false)) (key_equiv.refl key) ∙ yes (among a key));
  others = λ k other. list_any-append (same_key k) a (key ∷ []) ∙ (ap (λ b. among a k || (b || false)) other ∙ same (among a k));
}
  where
    yes : (b : Bool) → (b || true) ≡ true
    yes true = refl
    yes false = refl

    same : (b : Bool) → (b || false) ≡ b
    same true = refl
    same false = refl

pub marks_unless_there : (key : Key) (a : List Key) → AlsoMarks key a (if among a key then a else a ++ key ∷ [])
marks_unless_there key a = by (among a key) refl
  where
    by : (b : Bool) → among a key ≡ b → AlsoMarks key a (if b then a else a ++ key ∷ [])
    by true is = record { own = is; others = λ k other. refl }
    by false is = marks_one_more key a

-- the answers, and not the marks, let the object stand there
abbrev pub admits : Specification → Contents → Told → List Pair → Pair → CheckedNode → Bool
admits spec m told path own node =
    fits_under m path node own
    && (list_any (nat_eq own.object) (objects_of (told (candidates_at path own.mapping))) && passes (scene_of spec m []) told own.mapping (key_under path own))

-- it may stand under what the path leads to
abbrev pub may_be : Specification → Contents → Told → List Pair → Pair → Bool
may_be spec m told path own = may_stand spec path own.mapping && option_map_or (admits spec m told path own) (node_mapping spec own.mapping) false

module _ (spec : Specification) (m : Contents) (told : Told) (a b : List Key) where
  abbrev before : Scene
  before = scene_of spec m a

  abbrev after : Scene
  after = scene_of spec m b

  -- where both mark a key or neither does
  same_there : (path : List Pair) (own : Pair) → among b (key_under path own) ≡ among a (key_under path own) → among (children after told path) (key_under path own) ≡ among (children before told path) (key_under path own)
  same_there path own same =
      among_children after told path own
      ∙ ((λ i. may_stand spec path own.mapping && option_map_or (λ (node : CheckedNode). fits_under m path node own && (list_any (nat_eq own.object) (objects_of (told (candidates_at path own.mapping))) && (passes before told own.mapping (key_under path own) && (node.synchronised || same i)))) (node_mapping spec own.mapping) false)
      ∙ sym (among_children before told path own))

  shown_passes : (passed synchronised mark : Bool) → mark ≡ true → (passed && (synchronised || mark)) ≡ passed
  shown_passes true true mark is = refl
  shown_passes true false mark is = is
  shown_passes false synchronised mark is = refl

  marked_there : (path : List Pair) (own : Pair) → among b (key_under path own) ≡ true → among (children after told path) (key_under path own) ≡ may_be spec m told path own
  marked_there path own marked =
      among_children after told path own
      ∙ (λ i. may_stand spec path own.mapping && option_map_or (λ (node : CheckedNode). fits_under m path node own && (list_any (nat_eq own.object) (objects_of (told (candidates_at path own.mapping))) && shown_passes (passes before told own.mapping (key_under path own)) node.synchronised (among b (key_under path own)) marked i)) (node_mapping spec own.mapping) false)

  module _ (key : Key) (marks : AlsoMarks key a b) where
    shorter : (k : Key) → length k.pairs < length key.pairs → among b k ≡ among a k
    shorter k short = marks.others k (false_from_ne_true (same_key k key) (λ same. let is = ap (λ (q : Key). length q.pairs) (key_is k key same) in absurd (omega (arith, is, short))))

    same_way : (path : List Pair) (own : Pair) (rest : List Pair) → length path + length (own ∷ rest) < length key.pairs → leads after told path own rest ≡ leads before told path own rest
    same_way path own [] short = same_there path own (shorter (key_under path own) (let sum = length-append path (own ∷ []) in omega (arith, short, sum)))
    same_way path own (next ∷ rest) short =
        let sum = length-append path (own ∷ []) in
        let here = same_there path own (shorter (key_under path own) (omega (arith, short, sum))) in
        let onward = same_way (path ++ own ∷ []) next rest (omega (arith, short, sum)) in
        λ i. here i && onward i

    same_front : (path : List Pair) → length path < length key.pairs → leads_to (nodes after told) path ≡ leads_to (nodes before told) path
    same_front [] short = refl
    same_front (own ∷ rest) short = among_nodes after told own rest ∙ (same_way [] own rest (omega (arith, short)) ∙ sym (among_nodes before told own rest))

  -- whether a key is declared that is also marked
  pub among_marked : (path : List Pair) (own : Pair) → AlsoMarks (key_under path own) a b → among (nodes after told) (key_under path own) ≡ (leads_to (nodes before told) path && may_be spec m told path own)
  among_marked path own marks =
      let sum = length-append path (own ∷ []) in
      let front = same_front (key_under path own) marks path (omega (arith, sum)) in
      among_key after told path own ∙ (λ i. front i && marked_there path own marks.own i)
