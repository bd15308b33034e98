-- A walk over a list of operations, one by one.
use Rattle.std.proofs.Common.{◌≡◌, ℕ, suc, ◌+◌, ◌<◌, ◌≤◌, length, get_or, drop, subst, List, [], ◌∷◌, ◌++◌, Result, Ok, Err, refl, sym, ap, ◌∙◌, add-one, arith}
use Rattle.serde_json.specs.Data.{Data, Items, item, no_items}
use Rattle.std.proofs.Math.Seq.{drop-cons}
use Rattle.std.proofs.lemmas.List.{drop_all}
use Rattle.serde_json.specs.View.{view, items_view}
use Rattle.serde_json.specs.declared.value.Value.{Value}
use Rattle.wb_json.specs.Place.{Place, at_index}
use Rattle.wb_json.specs.Form.{◌>>=◌}
use Rattle.wb_viewpoint.specs.Answers.{GivesTree, GivesTrees}
use Rattle.wb_viewpoint.specs.OperationForms.{operation_of, operations_from}
use Rattle.wb_viewpoint.specs.OperationTrees.{Trees, no_trees, trees, count, count_all}
use Rattle.wb_viewpoint.specs.View.{tree_of, trees_of}
use Rattle.wb_viewpoint.specs.declared.operations.Operation.{Operation}
use Rattle.wb_json.specs.declared.wrong.Wrong.{Wrong}
use Rattle.wb_json.specs.declared.wrong.Wrong.TheVariants.{At, NoMemory}

-- the one list, and then the other
abbrev pub joined : Trees → Trees → Trees
joined no_trees ys = ys
joined (trees x xs) ys = trees x (joined xs ys)

-- the whole walk is what was done, and then the walk over the rest
abbrev pub Goes : Trees → Result Trees Place → Result Trees Place → Type 0
Goes done rest whole = whole ≡ (rest >>= (λ xs. Ok (joined done xs)))

joined-nothing : (xs : Trees) → joined xs no_trees ≡ xs
joined-nothing no_trees = refl
joined-nothing (trees x xs) = ap (trees x) (joined-nothing xs)

pub goes_first : (whole : Result Trees Place) → Goes no_trees whole whole
goes_first (Ok xs) = refl
goes_first (Err p) = refl

joined-one : (os : List Operation) (o : Operation) (xs : Trees) → joined (trees_of (os ++ o ∷ [])) xs ≡ joined (trees_of os) (trees (tree_of o) xs)
joined-one [] o xs = refl
joined-one (p ∷ os) o xs = ap (trees (tree_of p)) (joined-one os o xs)

regroup : (os : List Operation) (o : Operation) (rest : Result Trees Place) → ((rest >>= (λ xs. Ok (trees (tree_of o) xs))) >>= (λ xs. Ok (joined (trees_of os) xs))) ≡ (rest >>= (λ xs. Ok (joined (trees_of (os ++ o ∷ [])) xs)))
regroup os o (Ok xs) = ap Ok (sym (joined-one os o xs))
regroup os o (Err p) = refl

pub goes_on : (os : List Operation) (o : Operation) (n i : ℕ) (d : Data) (ds : Items) (whole : Result Trees Place) → at_index i (operation_of n d) ≡ Ok (tree_of o) → Goes (trees_of os) (operations_from n i (item d ds)) whole → Goes (trees_of (os ++ o ∷ [])) (operations_from (n + count (tree_of o)) (suc i) ds) whole
goes_on os o n i d ds whole is so_far = rw is at so_far ∙ regroup os o (operations_from (n + count (tree_of o)) (suc i) ds)

pub goes_wrong : (os : List Operation) (n i : ℕ) (d : Data) (ds : Items) (whole : Result Trees Place) (e : Wrong) → GivesTree (Err e) (at_index i (operation_of n d)) → Goes (trees_of os) (operations_from n i (item d ds)) whole → GivesTrees (Err e) whole
goes_wrong os n i d ds whole (At p) is so_far = rw is at so_far
goes_wrong os n i d ds whole NoMemory is so_far = tt

pub goes_last : (os : List Operation) (n i : ℕ) (whole : Result Trees Place) → Goes (trees_of os) (operations_from n i no_items) whole → whole ≡ Ok (trees_of os)
goes_last os n i whole so_far = so_far ∙ ap Ok (joined-nothing (trees_of os))

pub count_one : (os : List Operation) (o : Operation) → count_all (trees_of (os ++ o ∷ [])) ≡ count_all (trees_of os) + count (tree_of o)
count_one [] o = omega arith
count_one (p ∷ os) o = omega (arith, count_one os o)

dropped : (vs : List Value) (i : ℕ) (v : Value) → i < length vs → v ≡ get_or vs i v → drop i vs ≡ v ∷ drop (suc i) vs
dropped vs i v within is = drop-cons vs i v within ∙ ap (λ x. x ∷ drop (suc i) vs) (sym is)

-- the walk after the item at i
pub goes_next : (os news : List Operation) (o : Operation) (n m i : ℕ) (v : Value) (vs : List Value) (whole : Result Trees Place) → i < length vs → v ≡ get_or vs i v → news ≡ os ++ o ∷ [] → m ≡ n + count (tree_of o) → at_index i (operation_of n (view v)) ≡ Ok (tree_of o) → Goes (trees_of os) (operations_from n i (items_view (drop i vs))) whole → Goes (trees_of news) (operations_from m (i + 1) (items_view (drop (i + 1) vs))) whole
goes_next os news o n m i v vs whole within at more counted is so_far =
    let before : Goes (trees_of os) (operations_from n i (items_view (v ∷ drop (suc i) vs))) whole =
    subst (λ left. Goes (trees_of os) (operations_from n i (items_view left)) whole) (dropped vs i v within at) so_far in
    rw (more, counted, add-one) (goes_on os o n i (view v) (items_view (drop (suc i) vs)) whole is before)

-- the walk stops at an item that is wrong
pub goes_off : (os : List Operation) (n i : ℕ) (v : Value) (vs : List Value) (whole : Result Trees Place) (e : Wrong) → i < length vs → v ≡ get_or vs i v → GivesTree (Err e) (at_index i (operation_of n (view v))) → Goes (trees_of os) (operations_from n i (items_view (drop i vs))) whole → GivesTrees (Err e) whole
goes_off os n i v vs whole e within at is so_far =
    goes_wrong os n i (view v) (items_view (drop (suc i) vs)) whole e is (subst (λ left. Goes (trees_of os) (operations_from n i (items_view left)) whole) (dropped vs i v within at) so_far)

-- after the last item
pub goes_end : (os : List Operation) (n i : ℕ) (vs : List Value) (whole : Result Trees Place) → length vs ≤ i → Goes (trees_of os) (operations_from n i (items_view (drop i vs))) whole → whole ≡ Ok (trees_of os)
goes_end os n i vs whole all so_far = goes_last os n i whole (rw (drop_all i vs all) at so_far)
