-- Where each key is laid, if each stands once.
use Rattle.std.proofs.Common.{◌≡◌, Bool, true, false, ◌||◌, List, [], ◌∷◌, ◌++◌, length, cond, map, Some, refl, sym, ap, ◌∙◌}
use Rattle.std.specs.List.{list_any, IsDistinct, AllByRecursion}
use Rattle.std.specs.FinMap.{get, get-insert}
use Rattle.std.specs.Ordering.{is_eq}
use Rattle.std.proofs.lemmas.Cmp.{tied_itself}
use Rattle.std.proofs.lemmas.List.{map-append, map-id, append-nil}
use Rattle.wb_diagram.specs.declared.keys.Key.{Key}
use Rattle.wb_layout.specs.Orders.{same_key, is_key}
use Rattle.wb_layout.specs.Positions.{Position, Positions, placed}
use Rattle.wb_layout.specs.Grid.{parent_of, children_of, grid, with_earlier, place, placed_all, arranged}
use Rattle.wb_layout.proofs.KeyOrder.{key_cmp_total}

-- ---- items with those before them

twice : {A B C : Type 0} (f : B → C) (g : A → B) (xs : List A) → map f (map g xs) ≡ map (λ x. f (g x)) xs
twice f g [] = refl
twice f g (x ∷ xs) = ap (λ ys. f (g x) ∷ ys) (twice f g xs)

with_earlier-append : {A : Type 0} (xs ys : List A) → with_earlier (xs ++ ys) ≡ with_earlier xs ++ map (λ p. (xs ++ p.0, p.1)) (with_earlier ys)
with_earlier-append [] ys = sym (map-id (with_earlier ys))
with_earlier-append (x ∷ xs) ys =
    ap (λ ps. ([], x) ∷ map (λ p. (x ∷ p.0, p.1)) ps) (with_earlier-append xs ys)
    ∙ ap (λ ps. ([], x) ∷ ps) (map-append (λ p. (x ∷ p.0, p.1)) (with_earlier xs) (map (λ p. (xs ++ p.0, p.1)) (with_earlier ys))
    ∙ ap (λ ps. map (λ p. (x ∷ p.0, p.1)) (with_earlier xs) ++ ps) (twice (λ p. (x ∷ p.0, p.1)) (λ p. (xs ++ p.0, p.1)) (with_earlier ys)))

items : {A : Type 0} (xs : List A) → map (λ p. p.1) (with_earlier xs) ≡ xs
items [] = refl
items (x ∷ xs) = ap (λ ys. x ∷ ys) (twice (λ p. p.1) (λ p. (x ∷ p.0, p.1)) (with_earlier xs) ∙ items xs)

-- ---- what is put later

placed_all-append : (m : Positions) (es fs : List (Key × Position)) → placed_all m (es ++ fs) ≡ placed_all (placed_all m es) fs
placed_all-append m [] fs = refl
placed_all-append m (e ∷ es) fs = placed_all-append (placed m e.0 e.1) es fs

left_false : (a b : Bool) → (a || b) ≡ false → a ≡ false
left_false true b h = h
left_false false b h = refl

right_false : (a b : Bool) → (a || b) ≡ false → b ≡ false
right_false true b h = absurd cc
right_false false b h = h

get-placed : (m : Positions) (k : Key) (at : Position) (q : Key) → get (placed m k at) q ≡ cond (same_key q k) (Some at) (get m q)
get-placed m k at q = get-insert key_cmp_total m k at q

apart : (m : Positions) (q : Key) (es : List (Key × Position)) → list_any (same_key q) (map (λ (e : Key × Position). e.0) es) ≡ false → get (placed_all m es) q ≡ get m q
apart m q [] h = refl
apart m q (e ∷ es) h =
    apart (placed m e.0 e.1) q es (right_false (same_key q e.0) (list_any (same_key q) (map (λ (e : Key × Position). e.0) es)) h)
    ∙ get-placed m e.0 e.1 q
    ∙ ap (λ b. cond b (Some e.1) (get m q)) (left_false (same_key q e.0) (list_any (same_key q) (map (λ (e : Key × Position). e.0) es)) h)

keys_laid : (ps : List (List Key × Key)) → map (λ (e : Key × Position). e.0) (map place ps) ≡ map (λ p. p.1) ps
keys_laid ps = twice (λ (e : Key × Position). e.0) place ps

-- ---- keys that stand once

none_of : (q : Key) (ks : List Key) → AllByRecursion (λ k. same_key q k ≡ false) ks → list_any (same_key q) ks ≡ false
none_of q [] h = refl
none_of q (k ∷ ks) h = ap (λ b. b || list_any (same_key q) ks) h.0 ∙ none_of q ks h.1

not_after : (before : List Key) (key : Key) (after : List Key) → IsDistinct same_key (before ++ key ∷ after) → list_any (same_key key) after ≡ false
unfolding IsDistinct
not_after [] key after h = none_of key after h.0
not_after (k ∷ before) key after h = not_after before key after h.1

same_itself : (k : Key) → same_key k k ≡ true
same_itself k = ap is_eq (tied_itself key_cmp_total k)

-- ---- the laws

pub others_stay : (m : Positions) (ks : List Key) (q : Key) → is_key ks q ≡ false → get (arranged m ks) q ≡ get m q
unfolding arranged
others_stay m ks q h = apart m q (map place (with_earlier ks)) (ap (list_any (same_key q)) (keys_laid (with_earlier ks) ∙ items ks) ∙ h)

module _ (m : Positions) (before : List Key) (key : Key) (after : List Key) where
  abbrev shifted : List Key × Key → List Key × Key
  shifted p = (before ++ p.0, p.1)

  abbrev later : List (List Key × Key)
  later = map shifted (map (λ p. (key ∷ p.0, p.1)) (with_earlier after))

  later_keys : map (λ (e : Key × Position). e.0) (map place later) ≡ after
  later_keys = keys_laid later ∙ twice (λ p. p.1) shifted (map (λ p. (key ∷ p.0, p.1)) (with_earlier after)) ∙ twice (λ p. p.1) (λ p. (key ∷ p.0, p.1)) (with_earlier after) ∙ items after

  whole : arranged m (before ++ key ∷ after) ≡ placed_all (placed (placed_all m (map place (with_earlier before))) key (grid (length (children_of (parent_of key) (before ++ []))))) (map place later)
  unfolding arranged
  whole = ap (λ ps. placed_all m (map place ps)) (with_earlier-append before (key ∷ after))
      ∙ ap (placed_all m) (map-append place (with_earlier before) (map shifted (with_earlier (key ∷ after))))
      ∙ placed_all-append m (map place (with_earlier before)) (map place (map shifted (with_earlier (key ∷ after))))

  pub laid_once : IsDistinct same_key (before ++ key ∷ after) → get (arranged m (before ++ key ∷ after)) key ≡ Some (grid (length (children_of (parent_of key) before)))
  laid_once once =
      let so_far : Positions = placed_all m (map place (with_earlier before)) in
      let at : Position = grid (length (children_of (parent_of key) (before ++ []))) in
      ap (λ n. get n key) whole
      ∙ apart (placed so_far key at) key (map place later) (ap (list_any (same_key key)) later_keys ∙ not_after before key after once)
      ∙ get-placed so_far key at key
      ∙ ap (λ b. cond b (Some at) (get so_far key)) (same_itself key)
      ∙ ap (λ ks. Some (grid (length (children_of (parent_of key) ks)))) (append-nil before)
