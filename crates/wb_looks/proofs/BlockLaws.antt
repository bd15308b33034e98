-- The blocked elements, and what is visible by them.
use Rattle.std.proofs.Common.{◌≡◌, ◌<◌, ◌≤◌, ◌+◌, ◌-◌, ℕ, zero, suc, Bool, true, false, not, ◌&&◌, ◌||◌, cond, List, [], ◌∷◌, ◌++◌, length, take, get_or, Some, refl, sym, ap, ◌∙◌, arith, add-one}
use Rattle.std.specs.Prelude.{All, Contains, slice_get}
use Rattle.std.specs.List.{list_any}
use Rattle.std.proofs.lemmas.Bool.{and_left, and_right}
use Rattle.std.proofs.Math.Bool.{and-true}
use Rattle.std.proofs.lemmas.List.{length-take-le, take-take, take_all, take_more}
use Rattle.std.proofs.lemmas.List.Elements.{All-contains}
use Rattle.std.proofs.lemmas.List.Folds.{list_any_at, list_any_more, list_any_none}
use Rattle.std.proofs.lemmas.Option.{get_or_from_slice_get, slice_get_within}
use Rattle.wb_diagram.specs.declared.keys.AnyKey.{AnyKey}
use Rattle.wb_diagram.specs.declared.keys.AnyKey.TheVariants.{Node, Edge}
use Rattle.wb_diagram.specs.declared.keys.Key.{Key}
use Rattle.wb_diagram.specs.declared.keys.Pair.{Pair}
use Rattle.wb_answers.specs.Environments.{front}
use Rattle.wb_diagram.specs.contracts.keys.KeyPartialEq.TheImpl.{eq-value}
use Rattle.wb_answers.specs.SameKeys.{among, same_key}
use Rattle.wb_answers.proofs.SameKeyLaws.{any_same, key_equiv, key_is, key_symm, same_keys}
use Rattle.wb_looks.specs.Conditions.{Block, Tell, is_blocked_at, is_blocked_by, is_clear_at, is_unblocked, is_visible_at}
use Rattle.wb_looks.specs.Visible.{HasGround, is_node_visible, is_path_visible, is_visible_by, node_of}
use Rattle.wb_looks.specs.declared.conditions.Conditions.{Conditions}
use Rattle.wb_looks.proofs.KeyLaws.{one_more}

-- ---- on the way down a path

-- how an element is visible by its parent
one_down : (clear : AnyKey → Bool) (path : List Pair) (i : ℕ) → i < length path → is_path_visible clear (suc i) (take (suc i) path) ≡ (clear (node_of (take (suc i) path)) && is_path_visible clear i (take i path))
unfolding is_path_visible
one_down clear path i within = ap (λ (pairs : List Pair). clear (node_of (take (suc i) path)) && is_path_visible clear i pairs) above
  where
    less : suc i - 1 ≡ i
    less = omega arith

    above : front (take (suc i) path) ≡ take i path
    above = ap (λ (n : ℕ). take (n - 1) (take (suc i) path)) (length-take-le (suc i) path (omega (arith, within))) ∙ (ap (λ (n : ℕ). take n (take (suc i) path)) less ∙ take-take i (suc i) path (omega arith))

pub down_by_one : (clear : AnyKey → Bool) (path : List Pair) (i : ℕ) → i < length path → is_path_visible clear i (take i path) ≡ true → clear (node_of (take (i + 1) path)) ≡ true → is_path_visible clear (i + 1) (take (i + 1) path) ≡ true
down_by_one clear path i within so_far here =
    ap (λ (n : ℕ). is_path_visible clear n (take n path)) (add-one i)
    ∙ (one_down clear path i within
    ∙ (ap (λ (n : ℕ). clear (node_of (take n path)) && is_path_visible clear i (take i path)) (sym (add-one i))
    ∙ (ap (λ (b : Bool). b && is_path_visible clear i (take i path)) here ∙ so_far)))

-- below an element that is not visible none is
hidden_below : (clear : AnyKey → Bool) (path : List Pair) (i more : ℕ) → i + more ≤ length path → is_path_visible clear i (take i path) ≡ false → is_path_visible clear (i + more) (take (i + more) path) ≡ false
hidden_below clear path i zero within hidden = ap (λ (n : ℕ). is_path_visible clear n (take n path)) (let same : i + 0 ≡ i = omega arith in same) ∙ hidden
hidden_below clear path i (suc more) within hidden =
    ap (λ (n : ℕ). is_path_visible clear n (take n path)) (let same : i + suc more ≡ suc (i + more) = omega arith in same)
    ∙ (one_down clear path (i + more) (omega (arith, within))
    ∙ and_right _ _ (hidden_below clear path i more (omega (arith, within)) hidden))

-- a path one pair longer
pub one_longer : (path above longer : List Pair) (i : ℕ) (pair d : Pair) → i < length path → above ≡ take i path → pair ≡ get_or path i d → longer ≡ above ++ pair ∷ [] → longer ≡ take (i + 1) path
one_longer path above longer i pair d within so_far at is =
    is ∙ (ap (λ (pairs : List Pair). pairs ++ pair ∷ []) so_far ∙ (ap (λ (p : Pair). take i path ++ p ∷ []) at ∙ sym (take_more path i d within)))

pub hidden_here : (clear : AnyKey → Bool) (path : List Pair) (i : ℕ) → i < length path → clear (node_of (take (i + 1) path)) ≡ false → false ≡ is_path_visible clear (length path) path
hidden_here clear path i within here =
    sym
    (sym (ap (λ (pairs : List Pair). is_path_visible clear (length path) pairs) (take_all (length path) path (omega arith)))
    ∙ (ap (λ (n : ℕ). is_path_visible clear n (take n path)) whole
    ∙ hidden_below clear path (suc i) (length path - suc i) (omega (arith, within)) below))
  where
    whole : length path ≡ suc i + (length path - suc i)
    whole = omega (arith, within)

    below : is_path_visible clear (suc i) (take (suc i) path) ≡ false
    below = one_down clear path i within ∙ and_left _ _ (ap (λ (n : ℕ). clear (node_of (take n path))) (sym (add-one i)) ∙ here)

-- ---- the blocked elements

-- an item at a place is of the list
pub contained : (keys : List AnyKey) (place : ℕ) (key : AnyKey) → slice_get keys place ≡ Some key → Contains keys key
contained keys place key at = (place, slice_get_within keys place key at, get_or_from_slice_get keys place key key at)

module _ (clear : AnyKey → Bool) (keys : List AnyKey) (blocked : List Key) (block : Block clear keys blocked) where
  -- an element among the keys is blocked exactly where it is not clear
  unblocked : (key : Key) → Contains keys (Node key) → is_unblocked blocked (Node key) ≡ clear (Node key)
  unblocked key within = by (clear (Node key)) refl
    where
      other : clear (Node key) ≡ true → (k : Key) (b : Bool) → same_key key k ≡ b → (b && not (clear (Node k))) ≡ false
      other is k true same = ap (λ (it : Key). not (clear (Node it))) (sym (key_is key k same)) ∙ ap not is
      other is k false same = refl

      none : clear (Node key) ≡ true → (k : AnyKey) → is_blocked_by clear key k ≡ false
      none is (Node k) = other is k (same_key key k) refl
      none is (Edge k) = refl

      own : clear (Node key) ≡ false → is_blocked_by clear key (Node key) ≡ true
      own is = ap (λ (b : Bool). b && not (clear (Node key))) (key_equiv.refl key) ∙ ap not is

      by : (b : Bool) → clear (Node key) ≡ b → is_unblocked blocked (Node key) ≡ clear (Node key)
      by true is = ap not (block key ∙ list_any_none (is_blocked_by clear key) keys (λ n d _. none is (get_or keys n d))) ∙ sym is
      by false is = ap not (block key ∙ list_any_at (is_blocked_by clear key) keys within.0 (Node key) within.1 (ap (is_blocked_by clear key) within.2 ∙ own is)) ∙ sym is

  module _ (ground : All (HasGround keys) keys) where
    -- so an element among the keys is visible by either
    path_shown : (n : ℕ) (path : List Pair) → length path ≡ n → (1 ≤ n → Contains keys (node_of path)) → is_path_visible (is_unblocked blocked) n path ≡ is_path_visible clear n path
    unfolding is_path_visible
    path_shown zero path is within = refl
    path_shown (suc n) path is within =
        let held = within (omega arith) in
        let above : 1 ≤ n → Contains keys (node_of (front path)) = λ some. All-contains (HasGround keys) keys (node_of path) ground held (omega (arith, is, some)) in
        let shorter : length (front path) ≡ n = length-take-le (length path - 1) path (omega arith) ∙ (omega (arith, is)) in
        ap (λ (b : Bool). b && is_path_visible (is_unblocked blocked) n (front path)) (unblocked (record { pairs = path }) held)
        ∙ ap (λ (b : Bool). clear (node_of path) && b) (path_shown n (front path) shorter above)

    node_shown : (key : Key) → Contains keys (Node key) → is_node_visible (is_unblocked blocked) key ≡ is_node_visible clear key
    node_shown key held = path_shown (length key.pairs) key.pairs refl (λ _. held)

    pub shown : (c : Conditions) → Tell c keys clear → (place : ℕ) (key : AnyKey) → slice_get keys place ≡ Some key → is_visible_at c blocked place key ≡ is_visible_by clear key
    unfolding is_visible_at is_visible_by
    shown c tell place (Node key) at = node_shown key (contained keys place (Node key) at)
    shown c tell place (Edge key) at =
        let ends = All-contains (HasGround keys) keys (Edge key) ground (contained keys place (Edge key) at) in
        let here = tell place (Edge key) at in
        let source = node_shown key.source ends.0 in
        let target = node_shown key.target ends.1 in
        ap (λ (b : Bool). b && is_node_visible (is_unblocked blocked) key.source && is_node_visible (is_unblocked blocked) key.target) here
        ∙ ap (λ (b : Bool). clear (Edge key) && b && is_node_visible (is_unblocked blocked) key.target) source
        ∙ ap (λ (b : Bool). clear (Edge key) && is_node_visible clear key.source && b) target

-- ---- the set of blocked elements, key by key

-- is the element of this path in the set?
pub found_blocked : (blocked : List Key) (path longer : List Pair) (b : Bool) → longer ≡ path → b ≡ list_any (eq-value.it (record { pairs = longer })) blocked → is_unblocked blocked (node_of path) ≡ not b
found_blocked blocked path longer b is found =
    ap (λ (pairs : List Pair). not (among blocked (record { pairs = pairs }))) (sym is) ∙ ap not (sym (found ∙ any_same (record { pairs = longer }) blocked))

pub put_blocked : (c : Conditions) (place : ℕ) (key : AnyKey) (node copied it : Key) (old new : List Key) → key ≡ Node node → copied ≡ node → is_clear_at c place key ≡ false
    → list_any (eq-value.it it) new ≡ cond (eq-value.it copied it) true (list_any (eq-value.it it) old) → among new it ≡ (among old it || is_blocked_at c place key it)
put_blocked c place key node copied it old new is same unclear updated =
    one_more eq-value.it same_key same_keys key_symm it copied old new updated
    ∙ (ap (λ (k : Key). among old it || same_key it k) same ∙ ap (λ (b : Bool). among old it || b) (sym blocked))
  where
    blocked : is_blocked_at c place key it ≡ same_key it node
    blocked =
        ap (λ (k : AnyKey). is_blocked_at c place k it) is
        ∙ (ap (λ (b : Bool). same_key it node && not b) (sym (ap (is_clear_at c place) is) ∙ unclear) ∙ and-true (same_key it node))

told_blocked : (c : Conditions) (clear : AnyKey → Bool) (place : ℕ) (key : AnyKey) → is_clear_at c place key ≡ clear key → (it : Key) → is_blocked_at c place key it ≡ is_blocked_by clear it key
told_blocked c clear place (Node key) same it = ap (λ (b : Bool). same_key it key && not b) same
told_blocked c clear place (Edge key) same it = refl

pub one_more_block : (c : Conditions) (keys : List AnyKey) (clear : AnyKey → Bool) → Tell c keys clear → (place : ℕ) (key d : AnyKey) → slice_get keys place ≡ Some key → (it : Key) (old new : List Key)
    → among new it ≡ (among old it || is_blocked_at c place key it) → among old it ≡ list_any (is_blocked_by clear it) (take place keys) → among new it ≡ list_any (is_blocked_by clear it) (take (place + 1) keys)
one_more_block c keys clear tell place key d at it old new step so_far =
    step
    ∙ (ap (λ (b : Bool). b || is_blocked_at c place key it) so_far
    ∙ (ap (λ (b : Bool). list_any (is_blocked_by clear it) (take place keys) || b) (told_blocked c clear place key (tell place key at) it ∙ ap (is_blocked_by clear it) (sym (get_or_from_slice_get keys place key d at)))
    ∙ sym (list_any_more (is_blocked_by clear it) keys place d (slice_get_within keys place key at))))
