-- Equal keys are the same, and how a set of keys grows by a key.
use Rattle.std.proofs.Common.{◌≡◌, ◌<◌, ◌+◌, ℕ, Bool, true, false, cond, ◌||◌, List, length, take, get_or, refl, sym, ap, ◌∙◌, rules}
use Rattle.std.specs.List.{list_any}
use Rattle.std.proofs.lemmas.List.Folds.{list_any_more}
use Rattle.wb_diagram.specs.declared.keys.AnyKey.{AnyKey}
use Rattle.wb_diagram.specs.declared.keys.AnyKey.TheVariants.{Node, Edge}
use Rattle.wb_diagram.specs.contracts.keys.AnyKeyPartialEq.TheImpl.{eq-value}
use Rattle.wb_answers.specs.SameKeys.{same_any}
use Rattle.wb_answers.proofs.SameKeyLaws.{key_symm, edge_equiv}

-- ---- keys of either sort

pub any_symm : (x y : AnyKey) → same_any x y ≡ same_any y x
any_symm (Node a) (Node b) = key_symm a b
any_symm (Node a) (Edge b) = refl
any_symm (Edge a) (Node b) = refl
any_symm (Edge a) (Edge b) = edge_equiv.symm a b

pub any_keys : (x y : AnyKey) → eq-value.it x y ≡ same_any x y
any_keys (Node a) (Node b) = search rules
any_keys (Node a) (Edge b) = search rules
any_keys (Edge a) (Node b) = search rules
any_keys (Edge a) (Edge b) = search rules

-- ---- a set by one key more

by_or : (b c : Bool) → cond b true c ≡ (c || b)
by_or true true = refl
by_or true false = refl
by_or false true = refl
by_or false false = refl

-- where the set's equality is this one
pub one_more : {K : Type 0} (equal same : K → K → Bool) → ((x y : K) → equal x y ≡ same x y) → ((x y : K) → same x y ≡ same y x) → (it key : K) (old new : List K)
    → list_any (equal it) new ≡ cond (equal key it) true (list_any (equal it) old) → list_any (same it) new ≡ (list_any (same it) old || same it key)
one_more {K} equal same is symm it key old new updated =
    sym (any new) ∙ updated
    ∙ ap (λ b. cond b true (list_any (equal it) old)) (is key it ∙ symm key it)
    ∙ by_or (same it key) (list_any (equal it) old)
    ∙ ap (λ b. b || same it key) (any old)
  where
    any : (keys : List K) → list_any (equal it) keys ≡ list_any (same it) keys
    any keys = ap (λ (test : K → Bool). list_any test keys) (λ i y. is it y i)

-- the set of marked keys by one mark more
pub one_more_mark : (it key d : AnyKey) (old new marked : List AnyKey) (i : ℕ) → i < length marked → key ≡ get_or marked i d
    → list_any (eq-value.it it) new ≡ cond (eq-value.it key it) true (list_any (eq-value.it it) old)
    → list_any (same_any it) old ≡ list_any (same_any it) (take i marked)
    → list_any (same_any it) new ≡ list_any (same_any it) (take (i + 1) marked)
one_more_mark it key d old new marked i within at updated so_far =
    one_more eq-value.it same_any any_keys any_symm it key old new updated
    ∙ ap (λ b. b || same_any it key) so_far
    ∙ ap (λ (k : AnyKey). list_any (same_any it) (take i marked) || same_any it k) at
    ∙ sym (list_any_more (same_any it) marked i d within)
