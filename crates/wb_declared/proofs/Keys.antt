-- Keys among keys.
use Rattle.std.proofs.Common.{◌≡◌, Bool, true, false, ◌&&◌, List, filter, refl, sym, ap, subst, ◌∙◌}
use Rattle.std.specs.Prelude.{All, Contains}
use Rattle.std.specs.List.{list_any}
use Rattle.std.proofs.lemmas.List.Elements.{All-contains_itself, All-weaker}
use Rattle.std.proofs.lemmas.List.Folds.{list_any_at}
use Rattle.wb_diagram.specs.declared.keys.Key.{Key}
use Rattle.wb_answers.specs.SameKeys.{among, same_key}
use Rattle.wb_answers.proofs.SameKeyLaws.{key_equiv, key_is}
use Rattle.wb_declared.proofs.Lists.{any_filter, any_one}

is_among : (keys : List Key) (key : Key) → Contains keys key → among keys key ≡ true
is_among keys key within =
    list_any_at (same_key key) keys within.0 key within.1 (subst (λ (k : Key). same_key key k ≡ true) (sym within.2) (key_equiv.refl key))

-- each of some keys is among them
pub all_among : (keys : List Key) → All (λ (key : Key). among keys key ≡ true) keys
all_among keys = All-weaker (Contains keys) (λ (key : Key). among keys key ≡ true) (is_among keys) keys (All-contains_itself keys)

turned : (a b : Bool) → (a && b) ≡ (b && a)
turned true true = refl
turned true false = refl
turned false true = refl
turned false false = refl

-- a key is among those that are among others, where it is among both
pub among_filter : (others keys : List Key) (key : Key) → among (filter (among others) keys) key ≡ (among others key && among keys key)
among_filter others keys key =
    any_filter (same_key key) (among others) keys
    ∙ ((ap (λ (p : Key → Bool). list_any p keys) (λ i k. turned (among others k) (same_key key k) i))
    ∙ any_one (same_key key) (among others) key (λ k is. sym (key_is key k is)) keys
    ∙ turned (among keys key) (among others key))
