-- How the logic stores trees of operations.
use Rattle.std.proofs.Common.{◌≡◌, ◌≢◌, ℕ, refl, ap, arith}
use Rattle.std.specs.Coded.{Coded, coded_ℕ}
use base.Stored.{Gv, gnil, gnum, gcons}
use Rattle.wb_viewpoint.specs.OperationTrees.{Tree, Trees, operation, no_trees, trees}
use Rattle.wb_viewpoint.specs.contracts.operations.Action as action

abbrev head : Gv → Gv
head gnil = gnil
head (gnum n) = gnil
head (gcons a b) = a

abbrev tail : Gv → Gv
tail gnil = gnil
tail (gnum n) = gnil
tail (gcons a b) = b

apart : (m n : ℕ) {a b : Gv} → gcons (gnum m) a ≡ gcons (gnum n) b → m ≢ n → ⊥
apart m n p other = other (cc)

abbrev mutual
  pub tree_code : Tree → Gv
  tree_code (operation n a xs) = gcons (coded_ℕ.code n) (gcons (action.the_row.coded.code a) (trees_code xs))

  pub trees_code : Trees → Gv
  trees_code no_trees = gcons (gnum 0) gnil
  trees_code (trees x xs) = gcons (gnum 1) (gcons (tree_code x) (trees_code xs))

mutual
  pub tree_inj : (x y : Tree) → tree_code x ≡ tree_code y → x ≡ y
  tree_inj (operation n a xs) (operation m b ys) p = λ i. operation (coded_ℕ.inj n m (ap (λ g. head g) p) i) (action.the_row.coded.inj a b (ap (λ g. head (tail g)) p) i) (trees_inj xs ys (ap (λ g. tail (tail g)) p) i)

  pub trees_inj : (xs ys : Trees) → trees_code xs ≡ trees_code ys → xs ≡ ys
  trees_inj no_trees no_trees p = refl
  trees_inj (trees x xs) (trees y ys) p = λ i. trees (tree_inj x y (ap (λ g. head (tail g)) p) i) (trees_inj xs ys (ap (λ g. tail (tail g)) p) i)
  trees_inj xs ys p = absurd (apart _ _ p (omega arith))

abbrev pub coded_trees : Coded Trees
coded_trees = record { code = trees_code; inj = trees_inj }
