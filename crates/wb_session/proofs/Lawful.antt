-- Lawful marks stay lawful.
use Rattle.std.proofs.Common.{◌≡◌, ◌||◌, ℕ, Bool, true, false, cond, List, [], ◌∷◌, ◌++◌, Option, Some, refl, sym, ap, subst, ◌∙◌, option_map}
use Rattle.std.specs.Prelude.{IsSome, not}
use Rattle.std.specs.FinMap.{get, get-insert}
use Rattle.std.specs.List.{AllByRecursion, list_any}
use Rattle.std.specs.Option.{option_map_or}
use Rattle.std.specs.Ordering.{is_eq}
use Rattle.std.specs.declared.cmp.Ordering.{Ordering}
use Rattle.std.specs.declared.cmp.Ordering.TheVariants as c
use Rattle.wb_base.proofs.ListLemmas.{filter-keeps}
use Rattle.wb_diagram.specs.declared.keys.AnyKey.{AnyKey}
use Rattle.wb_diagram.specs.declared.keys.AnyKey.TheVariants.{Node}
use Rattle.wb_diagram.specs.declared.keys.Key.{Key}
use Rattle.wb_spec_check.specs.Checked.{Specification}
use Rattle.wb_spec_check.specs.Units.{mapping_of_key}
use Rattle.wb_answers.specs.SameKeys.{same_key as is_same}
use Rattle.wb_layout.specs.Orders.{is_key, key_cmp, same_key}
use Rattle.wb_layout.specs.Positions.{Position}
use Rattle.wb_layout.proofs.Each.{others_stay}
use Rattle.wb_layout.proofs.KeyOrder.{key_cmp-IsAntisymmetric, key_cmp_total}
use Rattle.wb_marks.specs.Marks.{arranged, hidden_too, placed, revealed, shown_too, unshown, with_filter, with_layer}
use Rattle.wb_marks.specs.declared.marks.Marks.{Marks}
use Rattle.wb_marks.proofs.Apart.{arranged_apart, filter_apart, hidden_apart, layer_apart, placed_apart, revealed_apart, shown_apart, unshown_apart}
use Rattle.wb_targets.specs.Targets.{is_placeable, is_unsynchronised, placeable}
use Rattle.wb_session.specs.States.{AreLawful}
use Rattle.wb_diagram.specs.declared.keys.Pair.{Pair}
use Rattle.wb_nodes.specs.Nodes.{child, pair_of}
use Rattle.wb_session.proofs.Lists.{all_append, all_kept, last_of_more}

-- ---- keys

equal_of : (r : Ordering) → is_eq r ≡ true → r ≡ c.Equal
equal_of c.Less e = absurd cc
equal_of c.Equal e = refl
equal_of c.Greater e = absurd cc

one_key : (q k : Key) → same_key q k ≡ true → q ≡ k
one_key q k e = key_cmp-IsAntisymmetric q k (equal_of (key_cmp q k) e)

first_or_later : (P : Key → Type 0) (q k : Key) (b : Bool) (more : Bool) → same_key q k ≡ b → P k → (more ≡ true → P q) → (b || more) ≡ true → P q
first_or_later P q k true more e first later h = subst P (sym (one_key q k e)) first
first_or_later P q k false more e first later h = later h

-- what is true of each key is true of one that is among them
one_of : (P : Key → Type 0) (ks : List Key) (q : Key) → AllByRecursion P ks → is_key ks q ≡ true → P q
one_of P [] q all is = absurd cc
one_of P (k ∷ ks) q all is = first_or_later P q k (same_key q k) (list_any (same_key q) ks) refl all.0 (one_of P ks q all.1) is

-- ---- marks

module _ (spec : Specification) (m : Marks) (h : AreLawful spec m) where
  abbrev IsByHand : Key → Type 0
  IsByHand key = option_map_or (is_unsynchronised spec) (mapping_of_key (Node key)) false ≡ true

  shown_by : (b : Bool) (key : Key) → IsByHand key → AllByRecursion IsByHand (cond b m.shown (m.shown ++ key ∷ []))
  shown_by true key by_hand = h.shown
  shown_by false key by_hand = all_append IsByHand m.shown (key ∷ []) h.shown (by_hand, tt)

  pub shown_lawful : (key : Key) → IsByHand key → AreLawful spec (shown_too key m)
  shown_lawful key by_hand = record { shown = shown_by (list_any (is_same key) m.shown) key by_hand; placed = h.placed; distinct = shown_apart key m h.distinct }

  pub unshown_lawful : (key : Key) → AreLawful spec (unshown key m)
  unshown_lawful key = record { shown = filter-keeps IsByHand (λ (other : Key). not (is_same key other)) m.shown h.shown; placed = h.placed; distinct = unshown_apart key m h.distinct }

  pub hidden_lawful : (key : AnyKey) → AreLawful spec (hidden_too key m)
  hidden_lawful key = record { shown = h.shown; placed = h.placed; distinct = hidden_apart key m h.distinct }

  pub revealed_lawful : (key : AnyKey) → AreLawful spec (revealed key m)
  revealed_lawful key = record { shown = h.shown; placed = h.placed; distinct = revealed_apart key m h.distinct }

  pub layer_lawful : (n : ℕ) (active : Bool) → AreLawful spec (with_layer n active m)
  layer_lawful n active = record { shown = h.shown; placed = h.placed; distinct = layer_apart n active m h.distinct }

  pub filter_lawful : (n : ℕ) (active : Bool) → AreLawful spec (with_filter n active m)
  filter_lawful n active = record { shown = h.shown; placed = h.placed; distinct = filter_apart n active m h.distinct }

  -- ---- positions

  placed_by : (q : Key) (b : Bool) (at : Position) → (b ≡ true → is_placeable spec q ≡ true) → IsSome (cond b (Some at) (get m.layout q)) → is_placeable spec q ≡ true
  placed_by q true at able is = able refl
  placed_by q false at able is = h.placed q is

  pub placed_lawful : (key : Key) (at : Position) → is_placeable spec key ≡ true → AreLawful spec (placed key at m)
  placed_lawful key at able = record {
    shown = h.shown;
    placed = λ q is. placed_by q (same_key q key) at (λ e. subst (λ (k : Key). is_placeable spec k ≡ true) (sym (one_key q key e)) able) (subst IsSome (get-insert key_cmp_total m.layout key at q) is);
    distinct = placed_apart key at m h.distinct;
  }

  laid_by : (ks : List Key) (q : Key) (b : Bool) → is_key ks q ≡ b → AllByRecursion (λ (k : Key). is_placeable spec k ≡ true) ks → IsSome (get (arranged ks m).layout q) → is_placeable spec q ≡ true
  laid_by ks q true e able is = one_of (λ (k : Key). is_placeable spec k ≡ true) ks q able e
  laid_by ks q false e able is = h.placed q (subst IsSome (others_stay m.layout ks q e) is)

  pub arranged_lawful : (ks : List Key) → AllByRecursion (λ (k : Key). is_placeable spec k ≡ true) ks → AreLawful spec (arranged ks m)
  arranged_lawful ks able = record { shown = h.shown; placed = λ q is. laid_by ks q (is_key ks q) refl able is; distinct = arranged_apart ks m h.distinct }

-- those that can be placed can be placed
pub all_placeable : (spec : Specification) (ks : List Key) → AllByRecursion (λ (k : Key). is_placeable spec k ≡ true) (placeable spec ks)
all_placeable spec ks = all_kept (is_placeable spec) ks

-- the mapping of a candidate's key is that of its last pair
pub by_hand_child : (spec : Specification) (path : List Pair) (n o : ℕ) (key : Key) → key ≡ child path n o → is_unsynchronised spec n ≡ true
    → option_map_or (is_unsynchronised spec) (mapping_of_key (Node key)) false ≡ true
by_hand_child spec path n o key is h =
    ap (λ (k : Key). option_map_or (is_unsynchronised spec) (mapping_of_key (Node k)) false) is
    ∙ (ap (λ (found : Option Pair). option_map_or (is_unsynchronised spec) (option_map (λ (p : Pair). p.mapping) found) false) (last_of_more path (pair_of n o)) ∙ h)
