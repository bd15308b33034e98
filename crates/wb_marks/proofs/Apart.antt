-- Lists in which nothing stands twice.
use Rattle.std.proofs.Common.{◌≡◌, ℕ, Bool, true, false, cond, nat_eq, List, [], ◌∷◌, ◌++◌, refl}
use Rattle.std.proofs.lemmas.Map.Keys.{IsDistinct-push}
use Rattle.std.specs.Cmp.{IsEquivalence, nat_eq_equiv}
use Rattle.std.specs.List.{IsDistinct, list_any}
use Rattle.wb_base.proofs.ListLemmas.{filter-distinct}
use Rattle.wb_diagram.specs.declared.keys.AnyKey.{AnyKey}
use Rattle.wb_diagram.specs.declared.keys.AnyKey.TheVariants.{Node, Edge}
use Rattle.wb_diagram.specs.declared.keys.EdgeKey.{EdgeKey}
use Rattle.wb_diagram.specs.declared.keys.Key.{Key}
use Rattle.wb_layout.specs.Positions.{Position}
use Rattle.wb_answers.specs.SameKeys.{same_any, same_key}
use Rattle.wb_answers.proofs.SameKeyLaws.{edge_equiv, key_equiv}
use Rattle.wb_marks.specs.Marks.{AreDistinct, arranged, hidden_too, placed, revealed, settled, shown_too, switched, unmarked, unshown, with_filter, with_layer}
use Rattle.wb_marks.specs.Ones.{with_one}
use Rattle.wb_marks.specs.declared.marks.Marks.{Marks}

any_congr : (x y z : AnyKey) → same_any x y ≡ true → same_any x z ≡ same_any y z
any_congr (Node a) (Node b) (Node d) h = key_equiv.congr a b d h
any_congr (Node a) (Node b) (Edge d) h = refl
any_congr (Node a) (Edge b) z h = cc
any_congr (Edge a) (Node b) z h = cc
any_congr (Edge a) (Edge b) (Node d) h = refl
any_congr (Edge a) (Edge b) (Edge d) h = edge_equiv.congr a b d h

any_refl : (x : AnyKey) → same_any x x ≡ true
any_refl (Node a) = key_equiv.refl a
any_refl (Edge a) = edge_equiv.refl a

any_symm : (x y : AnyKey) → same_any x y ≡ same_any y x
any_symm (Node a) (Node b) = key_equiv.symm a b
any_symm (Node a) (Edge b) = refl
any_symm (Edge a) (Node b) = refl
any_symm (Edge a) (Edge b) = edge_equiv.symm a b

any_equiv : IsEquivalence same_any
any_equiv = record { refl = any_refl; symm = any_symm; congr = any_congr }

-- ---- lists

with_by : {A : Type 0} {same : A → A → Bool} → IsEquivalence same → (x : A) (xs : List A) (b : Bool) → list_any (same x) xs ≡ b → IsDistinct same xs → IsDistinct same (cond b xs (xs ++ x ∷ []))
with_by laws x xs true is apart = apart
with_by laws x xs false is apart = IsDistinct-push laws xs x apart is

one_apart : {A : Type 0} (same : A → A → Bool) → IsEquivalence same → (x : A) (xs : List A) → IsDistinct same xs → IsDistinct same (with_one same x xs)
one_apart same laws x xs apart = with_by laws x xs (list_any (same x) xs) refl apart

switched_apart : (number : ℕ) (active : Bool) (numbers : List ℕ) → IsDistinct nat_eq numbers → IsDistinct nat_eq (switched number active numbers)
switched_apart number true numbers apart = one_apart nat_eq nat_eq_equiv number numbers apart
switched_apart number false numbers apart = filter-distinct nat_eq _ numbers apart

none_apart : {A : Type 0} (same : A → A → Bool) → IsDistinct same []
unfolding IsDistinct
none_apart same = tt

-- ---- marks

pub unmarked_apart : (layers : List ℕ) → IsDistinct nat_eq layers → AreDistinct (unmarked layers)
unmarked_apart layers apart = record { shown = none_apart same_key; hidden = none_apart same_any; layers = apart; filters = none_apart nat_eq }

pub shown_apart : (key : Key) (m : Marks) → AreDistinct m → AreDistinct (shown_too key m)
shown_apart key m d = record { shown = one_apart same_key key_equiv key m.shown d.shown; hidden = d.hidden; layers = d.layers; filters = d.filters }

pub unshown_apart : (key : Key) (m : Marks) → AreDistinct m → AreDistinct (unshown key m)
unshown_apart key m d = record { shown = filter-distinct same_key _ m.shown d.shown; hidden = d.hidden; layers = d.layers; filters = d.filters }

pub hidden_apart : (key : AnyKey) (m : Marks) → AreDistinct m → AreDistinct (hidden_too key m)
hidden_apart key m d = record { shown = d.shown; hidden = one_apart same_any any_equiv key m.hidden d.hidden; layers = d.layers; filters = d.filters }

pub revealed_apart : (key : AnyKey) (m : Marks) → AreDistinct m → AreDistinct (revealed key m)
revealed_apart key m d = record { shown = d.shown; hidden = filter-distinct same_any _ m.hidden d.hidden; layers = d.layers; filters = d.filters }

pub placed_apart : (key : Key) (at : Position) (m : Marks) → AreDistinct m → AreDistinct (placed key at m)
placed_apart key at m d = record { shown = d.shown; hidden = d.hidden; layers = d.layers; filters = d.filters }

pub arranged_apart : (keys : List Key) (m : Marks) → AreDistinct m → AreDistinct (arranged keys m)
arranged_apart keys m d = record { shown = d.shown; hidden = d.hidden; layers = d.layers; filters = d.filters }

pub layer_apart : (number : ℕ) (active : Bool) (m : Marks) → AreDistinct m → AreDistinct (with_layer number active m)
layer_apart number active m d = record { shown = d.shown; hidden = d.hidden; layers = switched_apart number active m.layers d.layers; filters = d.filters }

pub filter_apart : (number : ℕ) (active : Bool) (m : Marks) → AreDistinct m → AreDistinct (with_filter number active m)
filter_apart number active m d = record { shown = d.shown; hidden = d.hidden; layers = d.layers; filters = switched_apart number active m.filters d.filters }

pub settled_apart : (nodes : List Key) (edges : List EdgeKey) (m : Marks) → AreDistinct m → AreDistinct (settled nodes edges m)
settled_apart nodes edges m d = record { shown = filter-distinct same_key _ m.shown d.shown; hidden = filter-distinct same_any _ m.hidden d.hidden; layers = d.layers; filters = d.filters }
