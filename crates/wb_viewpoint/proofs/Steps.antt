-- An operation by its head and what stands at its `do`.
use Rattle.std.proofs.Common.{◌≡◌, ℕ, suc, Option, Ok, Err, option_map, refl, ap, ◌∙◌, codes, Ordering, Less, Equal, Greater}
use Rattle.std.specs.Ordering.{match_ordering, nat_cmp}
use Rattle.std.specs.Cmp.Lexicographic.{slice_cmp}
use Rattle.serde_json.specs.Data.{Data, null, boolean, number, string, array, object, Members, no_members, member}
use Rattle.serde_json.specs.Find.{get, get_member}
use Rattle.wb_json.specs.Form.{Gives, ◌>>=◌}
use Rattle.wb_json.specs.declared.wrong.Wrong.{Wrong}
use Rattle.wb_json.specs.declared.wrong.Wrong.TheVariants.{At, NoMemory}
use Rattle.wb_viewpoint.specs.Answers.{GivesTree, GivesTrees}
use Rattle.wb_viewpoint.specs.OperationForms.{head_of, inside, operation_of, operations_of, done_in, with_inside}
use Rattle.wb_viewpoint.specs.OperationTrees.{Trees, operation}
use Rattle.wb_viewpoint.specs.declared.operation_reader.Head.{Head}

-- a choice by an order, seen through a function
through : {A B : Type 0} (f : A → B) (o : Ordering) (x y z : Option A) (u v w : Option B) → u ≡ option_map f x → v ≡ option_map f y → w ≡ option_map f z → match_ordering o u v w ≡ option_map f (match_ordering o x y z)
through f Less x y z u v w p q r = p
through f Equal x y z u v w p q r = q
through f Greater x y z u v w p q r = r

pub done_found : (n : ℕ) (ms : Members) → done_in n ms ≡ option_map (operations_of n) (get_member (codes "do") ms)
done_found n no_members = refl
done_found n (member name d ms) = through (operations_of n) (slice_cmp nat_cmp (codes "do") name) _ _ _ _ _ _ (done_found n ms) refl (done_found n ms)

-- an operation, with what stands at its `do`
pub operation_found : (n : ℕ) (d : Data) → operation_of n d ≡ with_inside n d (option_map (operations_of (suc n)) (get (codes "do") d))
operation_found n null = refl
operation_found n (boolean b) = refl
operation_found n (number x) = refl
operation_found n (string s) = refl
operation_found n (array ds) = refl
operation_found n (object ms) = ap (with_inside n (object ms)) (done_found (suc n) ms)

pub operation_headless : (n : ℕ) (d : Data) (e : Wrong) → Gives {A = Head} (Err e) (head_of d) → GivesTree (Err e) (operation_of n d)
operation_headless n d (At p) is = operation_found n d ∙ ap (λ found. found >>= (λ (head : Head). inside head.needs_inside (option_map (operations_of (suc n)) (get (codes "do") d)) >>= (λ operations. Ok (operation n head.action operations)))) is
operation_headless n d NoMemory is = tt

with_head : (n : ℕ) (d : Data) (head : Head) → head_of d ≡ Ok head → operation_of n d ≡ (inside head.needs_inside (option_map (operations_of (suc n)) (get (codes "do") d)) >>= (λ operations. Ok (operation n head.action operations)))
with_head n d head is = operation_found n d ∙ ap (λ found. found >>= (λ (h : Head). inside h.needs_inside (option_map (operations_of (suc n)) (get (codes "do") d)) >>= (λ operations. Ok (operation n h.action operations)))) is

pub operation_wrong : (n m : ℕ) (d : Data) (head : Head) (e : Wrong) → m ≡ suc n → head_of d ≡ Ok head → GivesTrees (Err e) (inside head.needs_inside (option_map (operations_of m) (get (codes "do") d))) → GivesTree (Err e) (operation_of n d)
operation_wrong n m d head (At p) next is found = with_head n d head is ∙ ap (λ r. r >>= (λ operations. Ok (operation n head.action operations))) (rw next at found)
operation_wrong n m d head NoMemory next is found = tt

pub operation_right : (n m : ℕ) (d : Data) (head : Head) (operations : Trees) → m ≡ suc n → head_of d ≡ Ok head → inside head.needs_inside (option_map (operations_of m) (get (codes "do") d)) ≡ Ok operations → operation_of n d ≡ Ok (operation n head.action operations)
operation_right n m d head operations next is found = with_head n d head is ∙ ap (λ r. r >>= (λ xs. Ok (operation n head.action xs))) (rw next at found)
