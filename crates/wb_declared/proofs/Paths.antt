-- Declared elements, key by key: an element is declared where what it stands in is, and it is declared directly there.
use Rattle.std.proofs.Common.{◌≡◌, ◌+◌, ◌≤◌, ℕ, zero, suc, Bool, true, false, ◌&&◌, ◌||◌, List, [], ◌∷◌, ◌++◌, length, take, refl, sym, ap, subst, ◌∙◌, arith, append_assoc, length-append}
use Rattle.std.specs.Prelude.{All}
use Rattle.std.proofs.lemmas.Bool.{false_from_ne_true, false≢true}
use Rattle.std.proofs.lemmas.List.{take_at}
use Rattle.std.proofs.lemmas.List.Elements.{All-cons, All-nil, All-weaker}
use Rattle.std.proofs.lemmas.List.Folds.{list_any_none}
use Rattle.wb_diagram.specs.declared.keys.Key.{Key}
use Rattle.wb_diagram.specs.declared.keys.Pair.{Pair}
use Rattle.wb_answers.specs.SameKeys.{among, same_key}
use Rattle.wb_answers.specs.Seen.{Told}
use Rattle.wb_answers.proofs.SameKeyLaws.{key_equiv, key_is}
use Rattle.wb_nodes.specs.Nodes.{Scene, below, children, nodes, pair_of}
use Rattle.wb_nodes.proofs.NodeLaws.{IsUnder, children_are_under}
use Rattle.wb_declared.specs.Standing.{key_under, leads_to}
use Rattle.wb_declared.proofs.Lists.{all_flat, any_alike, any_flat, any_one}
use Rattle.wb_declared.proofs.Tests.{and_assoc, or_none}

-- ---- keys that begin with a path

-- the key goes on from the path
record GoesOn (path : List Pair) (key : Key) : Type 0 where
  pub first : Pair
  pub rest : List Pair
  pub is : key.pairs ≡ path ++ first ∷ rest

further : (path : List Pair) (own : Pair) (key : Key) → GoesOn (path ++ own ∷ []) key → GoesOn path key
further path own key on = record { first = own; rest = on.first ∷ on.rest; is = on.is ∙ append_assoc path (own ∷ []) (on.first ∷ on.rest) }

module _ (s : Scene) (told : Told) where
  below_go_on : (levels : ℕ) (path : List Pair) → All (GoesOn path) (below levels s told path)
  unfolding below
  below_go_on zero path = All-nil (GoesOn path)
  below_go_on (suc n) path = all_flat (GoesOn path) (IsUnder s.spec path) (λ (key : Key). key ∷ below n s told key.pairs) (children s told path) (λ key under. inside n path key (below_go_on n key.pairs) under) (children_are_under s told path)
    where
      inside : (n : ℕ) (path : List Pair) (key : Key) → All (GoesOn key.pairs) (below n s told key.pairs) → IsUnder s.spec path key → All (GoesOn path) (key ∷ below n s told key.pairs)
      inside n path key all under =
          let is = under.candidate.is in
          let own = pair_of under.number under.candidate.object in
          All-cons (GoesOn path) key (below n s told key.pairs) (record { first = own; rest = []; is = is })
          (All-weaker (GoesOn key.pairs) (GoesOn path) (λ inner on. further path own inner (subst (λ (pairs : List Pair). GoesOn pairs inner) is on)) (below n s told key.pairs) all)

-- the key of this length is none that goes on from a path as long
longer : (path : List Pair) (key inner : Key) → length key.pairs ≤ length path → GoesOn path inner → same_key key inner ≡ false
longer path key inner long on = false_from_ne_true (same_key key inner) differ
  where
    differ : same_key key inner ≡ true → ⊥
    differ same =
        let is = ap (λ (k : Key). length k.pairs) (key_is key inner same) in
        let sum = ap length on.is ∙ length-append path (on.first ∷ on.rest) in
        absurd (omega (arith, is, sum, long))

-- what goes on from another path as long
elsewhere : (path : List Pair) (own first : Pair) (rest : List Pair) (outer inner : Key) → length outer.pairs ≡ suc (length path) → same_key (key_under path own) outer ≡ false → GoesOn outer.pairs inner → same_key (record { pairs = path ++ own ∷ first ∷ rest }) inner ≡ false
elsewhere path own first rest outer inner long other on = false_from_ne_true (same_key (record { pairs = path ++ own ∷ first ∷ rest }) inner) differ
  where
    front_is : (xs ys : List Pair) → take (length xs) (xs ++ ys) ≡ xs
    front_is xs ys = take_at xs ys (length xs) (omega arith)

    differ : same_key (record { pairs = path ++ own ∷ first ∷ rest }) inner ≡ true → ⊥
    differ same =
        let pairs = ap (λ (k : Key). k.pairs) (key_is (record { pairs = path ++ own ∷ first ∷ rest }) inner same) in
        let sum = length-append path (own ∷ []) in
        let as_long : length (path ++ own ∷ []) ≡ length outer.pairs = omega (arith, sum, long) in
        let one = sym (front_is (path ++ own ∷ []) (first ∷ rest)) ∙ ap (take (length (path ++ own ∷ []))) (append_assoc path (own ∷ []) (first ∷ rest) ∙ (pairs ∙ on.is)) in
        let two = one ∙ (ap (λ n. take n (outer.pairs ++ on.first ∷ on.rest)) as_long ∙ front_is outer.pairs (on.first ∷ on.rest)) in
        let own_is : key_under path own ≡ outer = λ i. record { pairs = two i } in
        false≢true (sym other ∙ subst (λ (k : Key). same_key (key_under path own) k ≡ true) own_is (key_equiv.refl (key_under path own)))

-- ---- the way down

module _ (s : Scene) (told : Told) where
  -- each element on the way from a path down by these pairs is declared directly under the one before
  abbrev pub leads : List Pair → Pair → List Pair → Bool
  leads path own [] = among (children s told path) (key_under path own)
  leads path own (next ∷ rest) = among (children s told path) (key_under path own) && leads (path ++ own ∷ []) next rest

  -- directly under a path of 32 pairs nothing is declared
  none_deep : (path : List Pair) (key : Key) → 32 ≤ length path → among (children s told path) key ≡ false
  none_deep path key deep = list_any_none (same_key key) (children s told path) (All-weaker (IsUnder s.spec path) (λ (k : Key). same_key key k ≡ false) (λ k under. let shallow = under.candidate.shallow in absurd (omega (arith, deep, shallow))) (children s told path) (children_are_under s told path))

  leads_nowhere : (path : List Pair) (own : Pair) (rest : List Pair) → 32 ≤ length path → false ≡ leads path own rest
  leads_nowhere path own [] deep = sym (none_deep path (key_under path own) deep)
  leads_nowhere path own (next ∷ rest) deep = ap (λ b. b && leads (path ++ own ∷ []) next rest) (sym (none_deep path (key_under path own) deep))

  outer_long : (path : List Pair) (key : Key) → IsUnder s.spec path key → length key.pairs ≡ suc (length path)
  outer_long path key under = ap length under.candidate.is ∙ (length-append path (pair_of under.number under.candidate.object ∷ []) ∙ (omega arith))

  module _ (n : ℕ) (each : (path : List Pair) → n + length path ≡ 32 → (own : Pair) (rest : List Pair) → among (below n s told path) (record { pairs = path ++ own ∷ rest }) ≡ leads path own rest) where
    abbrev subtree : Key → List Key
    subtree key = key ∷ below n s told key.pairs

    -- the key itself, and nothing in the elements beside it
    itself : (path : List Pair) (own : Pair) (key : Key) → IsUnder s.spec path key → among (subtree key) (key_under path own) ≡ same_key (key_under path own) key
    itself path own key under =
        let outer = outer_long path key under in
        let sum = length-append path (own ∷ []) in
        or_none (same_key (key_under path own) key) (among (below n s told key.pairs) (key_under path own))
        (list_any_none (same_key (key_under path own)) (below n s told key.pairs)
        (All-weaker (GoesOn key.pairs) (λ (k : Key). same_key (key_under path own) k ≡ false) (λ k on. longer key.pairs (key_under path own) k (omega (arith, outer, sum)) on) (below n s told key.pairs) (below_go_on s told n key.pairs)))

    -- within the one element that the key begins with
    within : (path : List Pair) → suc n + length path ≡ 32 → (own next : Pair) (rest : List Pair) (key : Key) → IsUnder s.spec path key → among (subtree key) (record { pairs = path ++ own ∷ next ∷ rest }) ≡ (same_key (key_under path own) key && leads (path ++ own ∷ []) next rest)
    within path deep own next rest key under =
        let outer = outer_long path key under in
        let sum = length-append path (own ∷ next ∷ rest) in
        ap (λ b. b || among (below n s told key.pairs) (record { pairs = path ++ own ∷ next ∷ rest })) (not_itself outer sum) ∙ by (same_key (key_under path own) key) refl outer
      where
        not_itself : length key.pairs ≡ suc (length path) → length (path ++ own ∷ next ∷ rest) ≡ length path + length (own ∷ next ∷ rest) → same_key (record { pairs = path ++ own ∷ next ∷ rest }) key ≡ false
        not_itself outer sum = false_from_ne_true (same_key (record { pairs = path ++ own ∷ next ∷ rest }) key) differ
          where
            differ : same_key (record { pairs = path ++ own ∷ next ∷ rest }) key ≡ true → ⊥
            differ same =
                let is = ap (λ (k : Key). length k.pairs) (key_is (record { pairs = path ++ own ∷ next ∷ rest }) key same) in
                absurd (omega (arith, is, sum, outer))

        by : (b : Bool) → same_key (key_under path own) key ≡ b → length key.pairs ≡ suc (length path) → among (below n s told key.pairs) (record { pairs = path ++ own ∷ next ∷ rest }) ≡ (b && leads (path ++ own ∷ []) next rest)
        by true is outer =
            let sum = length-append path (own ∷ []) in
            ap (λ (pairs : List Pair). among (below n s told key.pairs) (record { pairs = pairs })) (sym (append_assoc path (own ∷ []) (next ∷ rest)))
            ∙ (ap (λ (k : Key). among (below n s told k.pairs) (record { pairs = (path ++ own ∷ []) ++ next ∷ rest })) (sym (key_is (key_under path own) key is))
            ∙ each (path ++ own ∷ []) (omega (arith, deep, sum)) next rest)
        by false is outer =
            list_any_none (same_key (record { pairs = path ++ own ∷ next ∷ rest })) (below n s told key.pairs)
            (All-weaker (GoesOn key.pairs) (λ (k : Key). same_key (record { pairs = path ++ own ∷ next ∷ rest }) k ≡ false) (λ k on. elsewhere path own next rest key k outer is on) (below n s told key.pairs) (below_go_on s told n key.pairs))

  among_below : (levels : ℕ) (path : List Pair) → levels + length path ≡ 32 → (own : Pair) (rest : List Pair) → among (below levels s told path) (record { pairs = path ++ own ∷ rest }) ≡ leads path own rest
  unfolding below
  among_below zero path deep own rest = leads_nowhere path own rest (omega (arith, deep))
  among_below (suc n) path deep own [] =
      any_flat (same_key (key_under path own)) (subtree n (among_below n)) (children s told path)
      ∙ any_alike (λ (key : Key). among (subtree n (among_below n) key) (key_under path own)) (same_key (key_under path own)) (children s told path)
      (All-weaker (IsUnder s.spec path) (λ (key : Key). among (subtree n (among_below n) key) (key_under path own) ≡ same_key (key_under path own) key) (itself n (among_below n) path own) (children s told path) (children_are_under s told path))
  among_below (suc n) path deep own (next ∷ rest) =
      any_flat (same_key (record { pairs = path ++ own ∷ next ∷ rest })) (subtree n (among_below n)) (children s told path)
      ∙ (any_alike (λ (key : Key). among (subtree n (among_below n) key) (record { pairs = path ++ own ∷ next ∷ rest })) (λ (key : Key). same_key (key_under path own) key && leads (path ++ own ∷ []) next rest) (children s told path)
      (All-weaker (IsUnder s.spec path) (λ (key : Key). among (subtree n (among_below n) key) (record { pairs = path ++ own ∷ next ∷ rest }) ≡ (same_key (key_under path own) key && leads (path ++ own ∷ []) next rest)) (within n (among_below n) path deep own next rest) (children s told path) (children_are_under s told path))
      ∙ any_one (same_key (key_under path own)) (λ (key : Key). leads (path ++ own ∷ []) next rest) (key_under path own) (λ key is. sym (key_is (key_under path own) key is)) (children s told path))

  pub among_nodes : (own : Pair) (rest : List Pair) → among (nodes s told) (record { pairs = own ∷ rest }) ≡ leads [] own rest
  unfolding nodes
  among_nodes own rest = among_below 32 [] (omega arith) own rest

  leads_last : (path : List Pair) (own : Pair) (rest : List Pair) (last : Pair) → leads path own (rest ++ last ∷ []) ≡ (leads path own rest && among (children s told (path ++ own ∷ rest)) (key_under (path ++ own ∷ rest) last))
  leads_last path own [] last = refl
  leads_last path own (next ∷ rest) last =
      ap (λ b. among (children s told path) (key_under path own) && b)
      (leads_last (path ++ own ∷ []) next rest last
      ∙ ap (λ (front : List Pair). leads (path ++ own ∷ []) next rest && among (children s told front) (key_under front last)) (append_assoc path (own ∷ []) (next ∷ rest)))
      ∙ sym (and_assoc (among (children s told path) (key_under path own)) (leads (path ++ own ∷ []) next rest) (among (children s told (path ++ own ∷ next ∷ rest)) (key_under (path ++ own ∷ next ∷ rest) last)))

  -- an element is declared where its path leads to the diagram or a declared one, and it is declared directly there
  pub among_key : (path : List Pair) (own : Pair) → among (nodes s told) (key_under path own) ≡ (leads_to (nodes s told) path && among (children s told path) (key_under path own))
  among_key [] own = among_nodes own []
  among_key (first ∷ rest) own = among_nodes first (rest ++ own ∷ []) ∙ (leads_last [] first rest own ∙ ap (λ b. b && among (children s told (first ∷ rest)) (key_under (first ∷ rest) own)) (sym (among_nodes first rest)))
