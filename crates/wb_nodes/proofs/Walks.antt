-- How the walk over declared elements goes.
use Rattle.std.proofs.Common.{◌≡◌, ◌+◌, ◌-◌, ◌<◌, ◌≤◌, ℕ, zero, suc, Bool, true, false, not, ◌&&◌, ◌||◌, nat_le, cond, List, [], ◌∷◌, ◌++◌, length, map, filter, Option, Some, None, refl, sym, ap, ◌∙◌, arith, append-nil, append_assoc, length-append, reverse}
use Rattle.std.specs.List.{flat_map, list_any}
use Rattle.std.specs.Option.{option_map_or}
use Rattle.std.proofs.lemmas.List.{reverse-append, reverse-reverse, length-reverse}
use Rattle.std.proofs.lemmas.Bool.{leb-false}
use Rattle.std.proofs.lemmas.Grind.{flat_map-append}
use Rattle.wb_diagram.specs.declared.keys.Pair.{Pair}
use Rattle.wb_diagram.specs.declared.keys.Key.{Key}
use Rattle.wb_diagram.specs.declared.units.Unit.{Unit as Place}
use Rattle.wb_validity.specs.Valid.{conforms_to}
use Rattle.wb_spec_check.specs.declared.checked_mappings.CheckedNode.{CheckedNode}
use Rattle.wb_answers.specs.Seen.{Told}
use Rattle.wb_answers.specs.SameKeys.{same_pair}
use Rattle.wb_nodes.specs.Nodes.{Scene, fits, fitting, candidates_by, child, pair_of, is_declared, children_by, children_with, children, child_mappings, node_mapping, below, nodes, node_units, units_under}

-- the key is one pair longer than the path, which has less than 32
pub record IsInner (path : List Pair) (key : Key) : Type 0 where
  pub deeper : length key.pairs ≡ suc (length path)
  pub shallow : length path < 32

abbrev pub AreInner : List Pair → List Key → Type 0
AreInner path [] = Unit {0}
AreInner path (key ∷ keys) = IsInner path key × AreInner path keys

pub uncut : (a b c : Bool) → (a && not (b || c)) ≡ true → c ≡ false
uncut true true c h = cc
uncut true false true h = cc
uncut true false false h = refl
uncut false b c h = cc

inner_fitting : (s : Scene) (path : List Pair) (n : ℕ) (node : CheckedNode) (objects : List ℕ) → AreInner path (fitting s path n node objects)
inner_fitting s path n node [] = tt
inner_fitting s path n node (o ∷ os) = by (fits s path n node o) refl (inner_fitting s path n node os)
  where
    by : (b : Bool) → fits s path n node o ≡ b → AreInner path (fitting s path n node os) → AreInner path (map (child path n) (cond b (o ∷ filter (fits s path n node) os) (filter (fits s path n node) os)))
    by true is rest = (
      record {
        deeper = length-append path (pair_of n o ∷ []) ∙ (omega arith);
        shallow = leb-false 32 (length path) (uncut (conforms_to s.model node.objects.domain o) (list_any (same_pair (pair_of n o)) path) (nat_le 32 (length path)) is);
      },
      rest,
    )
    by false is rest = rest

inner_filtered : (path : List Pair) (p : Key → Bool) (keys : List Key) → AreInner path keys → AreInner path (filter p keys)
inner_filtered path p [] are = tt
inner_filtered path p (key ∷ keys) are = by (p key) (inner_filtered path p keys are.1)
  where
    by : (b : Bool) → AreInner path (filter p keys) → AreInner path (cond b (key ∷ filter p keys) (filter p keys))
    by true rest = (are.0, rest)
    by false rest = rest

inner_appended : (path : List Pair) (xs ys : List Key) → AreInner path xs → AreInner path ys → AreInner path (xs ++ ys)
inner_appended path [] ys a b = b
inner_appended path (x ∷ xs) ys a b = (a.0, inner_appended path xs ys a.1 b)

inner_by : (s : Scene) (told : Told) (path : List Pair) (n : ℕ) → AreInner path (children_by s told path n)
unfolding children_by candidates_by
inner_by s told path n = by (node_mapping s.spec n)
  where
    by : (m : Option CheckedNode) → AreInner path (option_map_or (children_with s told path n) m [])
    by None = tt
    by (Some node) = inner_filtered path (is_declared s told n node) (candidates_by s told path n node) (inner_fitting s path n node _)

inner_flat : (s : Scene) (told : Told) (path : List Pair) (ns : List ℕ) → AreInner path (flat_map (children_by s told path) ns)
inner_flat s told path [] = tt
inner_flat s told path (n ∷ ns) = inner_appended path (children_by s told path n) _ (inner_by s told path n) (inner_flat s told path ns)

pub inner_children : (s : Scene) (told : Told) (path : List Pair) → AreInner path (children s told path)
unfolding children
inner_children s told path = inner_flat s told path (child_mappings s.spec path)

-- an element, and what is declared in it
abbrev pub subtree : Scene → Told → Key → List Key
subtree s told key = key ∷ below (32 - length key.pairs) s told key.pairs

level : (s : Scene) (told : Told) (path : List Pair) (n : ℕ) (keys : List Key) → n + suc (length path) ≡ 32 → AreInner path keys
    → flat_map (λ (key : Key). key ∷ below n s told key.pairs) keys ≡ flat_map (subtree s told) keys
level s told path n [] is are = refl
level s told path n (key ∷ keys) is are =
    let deeper = are.0.deeper in
    let depth : n ≡ 32 - length key.pairs = omega (arith, is, deeper) in
    ap (λ k. (key ∷ below k s told key.pairs) ++ flat_map (λ (other : Key). other ∷ below n s told other.pairs) keys) depth
    ∙ ap (λ rest. (key ∷ below (32 - length key.pairs) s told key.pairs) ++ rest) (level s told path n keys is are.1)

none_deep : (s : Scene) (told : Told) (path : List Pair) (keys : List Key) → 32 ≤ length path → AreInner path keys → [] ≡ flat_map (subtree s told) keys
none_deep s told path [] deep are = refl
none_deep s told path (key ∷ keys) deep are = let shallow = are.0.shallow in absurd (omega (arith, deep, shallow))

-- what is declared under a path is what is declared directly there, each with what is declared in it
pub one_level : (s : Scene) (told : Told) (path : List Pair) → below (32 - length path) s told path ≡ flat_map (subtree s told) (children s told path)
unfolding below
one_level s told path = by (32 - length path) refl
  where
    by : (k : ℕ) → 32 - length path ≡ k → below k s told path ≡ flat_map (subtree s told) (children s told path)
    by zero is = none_deep s told path (children s told path) (omega (arith, is)) (inner_children s told path)
    by (suc n) is = level s told path n (children s told path) (omega (arith, is)) (inner_children s told path)

-- ---- the units

abbrev pub own_units : Scene → Told → Key → List Place
own_units s told key = units_under s told key.pairs

-- those asked where these elements were gone over
abbrev pub units_so_far : Scene → Told → List Key → List Place
units_so_far s told keys = units_under s told [] ++ flat_map (own_units s told) keys

pub units_split : (s : Scene) (told : Told) (keys more : List Key) → keys ++ more ≡ nodes s told → units_so_far s told keys ++ flat_map (own_units s told) more ≡ node_units s told
unfolding node_units
units_split s told keys more is =
    append_assoc (units_under s told []) (flat_map (own_units s told) keys) (flat_map (own_units s told) more)
    ∙ ap (λ us. units_under s told [] ++ us) (sym (flat_map-append (own_units s told) keys more) ∙ ap (flat_map (own_units s told)) is)

pub units_next : (s : Scene) (told : Told) (keys : List Key) (key : Key) → units_so_far s told keys ++ own_units s told key ≡ units_so_far s told (keys ++ key ∷ [])
units_next s told keys key =
    append_assoc (units_under s told []) (flat_map (own_units s told) keys) (own_units s told key)
    ∙ ap (λ us. units_under s told [] ++ us) (ap (λ us. flat_map (own_units s told) keys ++ us) (sym (append-nil (own_units s told key))) ∙ sym (flat_map-append (own_units s told) keys (key ∷ [])))

-- ---- the walk

-- these elements, and those that wait with all that is declared in them, are the declared elements
abbrev pub Whole : Scene → Told → List Key → List Key → Type 0
Whole s told keys waiting = keys ++ flat_map (subtree s told) (reverse waiting) ≡ nodes s told

pub walk_starts : (s : Scene) (told : Told) → Whole s told [] (reverse (children s told []))
unfolding nodes
walk_starts s told = ap (flat_map (subtree s told)) (reverse-reverse (children s told [])) ∙ sym (one_level s told [])

-- what is left where an element is taken up
abbrev pub behind : Scene → Told → List Key → Key → List Key
behind s told rest key = below (32 - length key.pairs) s told key.pairs ++ flat_map (subtree s told) (reverse rest)

pub taken_up : (s : Scene) (told : Told) (keys rest waiting : List Key) (key : Key) → waiting ≡ rest ++ key ∷ [] → Whole s told keys waiting → keys ++ (key ∷ behind s told rest key) ≡ nodes s told
taken_up s told keys rest waiting key is whole =
    ap (λ ks. keys ++ flat_map (subtree s told) ks) (sym (ap reverse is ∙ reverse-append rest (key ∷ []))) ∙ whole

pub walk_goes_on : (s : Scene) (told : Told) (keys rest waiting waiting' : List Key) (key : Key) → waiting ≡ rest ++ key ∷ [] → waiting' ≡ rest ++ reverse (children s told key.pairs) → Whole s told keys waiting → Whole s told (keys ++ key ∷ []) waiting'
walk_goes_on s told keys rest waiting waiting' key is next whole =
    append_assoc keys (key ∷ []) (flat_map (subtree s told) (reverse waiting'))
    ∙ (ap (λ ks. keys ++ (key ∷ ks))
    (ap (λ ks. flat_map (subtree s told) (reverse ks)) next
    ∙ (ap (flat_map (subtree s told)) (reverse-append rest (reverse (children s told key.pairs)) ∙ ap (λ ks. ks ++ reverse rest) (reverse-reverse (children s told key.pairs)))
    ∙ (flat_map-append (subtree s told) (children s told key.pairs) (reverse rest)
    ∙ ap (λ ks. ks ++ flat_map (subtree s told) (reverse rest)) (sym (one_level s told key.pairs)))))
    ∙ taken_up s told keys rest waiting key is whole)

at_least : (s : Scene) (told : Told) (keys : List Key) → length keys ≤ length (flat_map (subtree s told) keys)
at_least s told [] = omega arith
at_least s told (key ∷ keys) =
    let more = at_least s told keys in
    let sum = length-append (below (32 - length key.pairs) s told key.pairs) (flat_map (subtree s told) keys) in
    omega (arith, more, sum)

pub too_many : (s : Scene) (told : Told) (keys rest waiting : List Key) (key : Key) → waiting ≡ rest ++ key ∷ [] → Whole s told keys waiting → 100000 - length keys ≤ length rest → 100000 < length (nodes s told)
too_many s told keys rest waiting key is whole many =
    let all = ap length (taken_up s told keys rest waiting key is whole) in
    let one = length-append keys (key ∷ behind s told rest key) in
    let two = length-append (below (32 - length key.pairs) s told key.pairs) (flat_map (subtree s told) (reverse rest)) in
    let three = at_least s told (reverse rest) in
    let four = length-reverse rest in
    omega (arith, all, one, two, three, four, many)

pub all_units : (s : Scene) (told : Told) → units_under s told [] ++ flat_map (own_units s told) (nodes s told) ≡ node_units s told
unfolding node_units
all_units s told = refl
