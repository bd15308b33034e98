-- Edges that are put one after the other.
use Rattle.std.proofs.Common.{◌≡◌, ◌+◌, ◌<◌, ◌≤◌, ℕ, Bool, true, false, List, [], ◌∷◌, ◌++◌, length, take, drop, get_or, refl, sym, ap, ◌∙◌, arith, rules, length-append, if◌then◌else◌}
use Rattle.std.specs.List.{list_any, flat_map}
use Rattle.std.specs.Prelude.{Result, Ok, Err, IsErr, IsErrAnd}
use Rattle.indexmap.specs.IndexSet.{insert_key}
use Rattle.wb_diagram.specs.declared.keys.EdgeKey.{EdgeKey}
use Rattle.wb_diagram.specs.contracts.keys.EdgeKeyPartialEq.TheImpl.{eq-value}
use Rattle.wb_answers.specs.declared.answers.Stop.{Stop}
use Rattle.wb_answers.specs.declared.answers.Stop.TheVariants.{NoMemory, TooLarge}
use Rattle.wb_answers.proofs.SeenLoops.{flat_map_next, flat_map_rest}
use Rattle.wb_answers.specs.SameKeys.{same_edge}
use Rattle.wb_edges.specs.Puts.{put, put_all, Puts}

pub same_edges : (x y : EdgeKey) → eq-value.it x y ≡ same_edge x y
same_edges x y = search rules

pub insert_is_put : (edges : List EdgeKey) (e : EdgeKey) → insert_key eq-value.it edges e ≡ put_all edges (e ∷ [])
unfolding put_all
insert_is_put edges e = ap (λ (f : EdgeKey → Bool). if list_any f edges then edges else edges ++ e ∷ []) (λ i y. same_edges e y i)

pub put_appended : (edges xs ys : List EdgeKey) → put_all edges (xs ++ ys) ≡ put_all (put_all edges xs) ys
unfolding put_all
put_appended edges [] ys = refl
put_appended edges (x ∷ xs) ys = put_appended (put edges x) xs ys

pub put_none : (edges : List EdgeKey) → put_all edges [] ≡ edges
unfolding put_all
put_none edges = refl

one_more : (edges : List EdgeKey) (e : EdgeKey) → length edges ≤ length (put edges e)
one_more edges e = by (list_any (same_edge e) edges)
  where
    by : (b : Bool) → length edges ≤ length (if b then edges else edges ++ e ∷ [])
    by true = omega arith
    by false = let sum = length-append edges (e ∷ []) in omega (arith, sum)

put_grows : (edges xs : List EdgeKey) → length edges ≤ length (put_all edges xs)
unfolding put_all
put_grows edges [] = omega arith
put_grows edges (x ∷ xs) = let one = one_more edges x in let rest = put_grows (put edges x) xs in omega (arith, one, rest)

-- ---- a loop that puts the edges of each item of a list

module _ {X : Type 0} (h : X → List EdgeKey) (xs : List X) (i : ℕ) (d x : X) (before now : List EdgeKey) (within : i < length xs) (at : x ≡ get_or xs i d) (so_far : now ≡ put_all before (flat_map h (take i xs))) where
  next : put_all now (h x) ≡ put_all before (flat_map h (take (i + 1) xs))
  next = ap (λ es. put_all es (h x)) so_far ∙ (sym (put_appended before (flat_map h (take i xs)) (h x)) ∙ ap (put_all before) (sym (flat_map_next h xs i d x within at)))

  -- by one item more
  pub put_goes_on : (new : List EdgeKey) → new ≡ put_all now (h x) → new ≡ put_all before (flat_map h (take (i + 1) xs))
  put_goes_on new is = is ∙ next

  -- what is put at an item is at most what is put at all
  pub put_at_most : length (put_all now (h x)) ≤ length (put_all before (flat_map h xs))
  put_at_most =
      let joined = ap length next in
      let whole = ap (λ es. length (put_all before es)) (flat_map_rest h xs (i + 1)) in
      let parts = ap length (put_appended before (flat_map h (take (i + 1) xs)) (flat_map h (drop (i + 1) xs))) in
      let grows = put_grows (put_all before (flat_map h (take (i + 1) xs))) (flat_map h (drop (i + 1) xs)) in
      omega (arith, joined, whole, parts, grows)

  -- there is no room for what an item adds
  pub puts_refused : {A : Type 0} (room : ℕ) (new : List EdgeKey) (r : Result A Stop) (e : Stop) → IsErr r × IsErrAnd r (λ f. f ≡ e) → (e ≡ TooLarge → room < length (put_all now (h x))) → Puts before (flat_map h xs) room r new
  puts_refused room new (Ok y) e err large = absurd err.1
  puts_refused room new (Err f) e err large = λ same. let many = large (sym err.1 ∙ same) in let less = put_at_most in omega (arith, many, less)

-- want of memory is no matter of room
pub puts_short : {A : Type 0} (before more now : List EdgeKey) (room : ℕ) (r : Result A Stop) → IsErr r × IsErrAnd r (λ e. e ≡ NoMemory) → Puts before more room r now
puts_short before more now room (Ok x) err = absurd err.1
puts_short before more now room (Err e) err = λ same. impossible (sym err.1 ∙ same)
  where
    impossible : NoMemory ≡ TooLarge → room < length (put_all before more)
    impossible h = cc
