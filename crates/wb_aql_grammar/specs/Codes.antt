-- How the logic stores a tree.
use Rattle.std.proofs.Common.{◌≡◌, ◌≢◌, ℕ, List, refl, ap, arith}
use Rattle.std.specs.Coded.{Coded, coded_ℕ, coded_list}
use base.Stored.{Gv, gnil, gnum, gcons}
use Rattle.wb_aql_grammar.specs.Tree.{Tree, Trees, Arguments}
use Rattle.wb_aql_grammar.specs.Tree as t
use Rattle.wb_aql_grammar.specs.contracts.expr.Constant as constant
use Rattle.wb_aql_grammar.specs.contracts.expr.CollectionKind as collection
use Rattle.wb_aql_grammar.specs.contracts.expr.Unary as unary
use Rattle.wb_aql_grammar.specs.contracts.expr.Binary as binary
use Rattle.wb_aql_grammar.specs.contracts.expr.CallKind as call

abbrev head : Gv → Gv
head gnil = gnil
head (gnum n) = gnil
head (gcons a b) = a

abbrev tail : Gv → Gv
tail gnil = gnil
tail (gnum n) = gnil
tail (gcons a b) = b

apart : (m n : ℕ) {a b : Gv} → gcons (gnum m) a ≡ gcons (gnum n) b → m ≢ n → ⊥
apart m n p other = other (cc)

abbrev bytes : Coded (List ℕ)
bytes = coded_list coded_ℕ

abbrev mutual
  pub tree_code : Tree → Gv
  tree_code (t.Integer a0) = gcons (gnum 0) (coded_ℕ.code a0)
  tree_code (t.Text a0) = gcons (gnum 1) (bytes.code a0)
  tree_code (t.Const a0) = gcons (gnum 2) (constant.the_row.coded.code a0)
  tree_code (t.Variable a0) = gcons (gnum 3) (bytes.code a0)
  tree_code (t.Literal a0 a1 a2) = gcons (gnum 4) (gcons (bytes.code a0) (gcons (bytes.code a1) (bytes.code a2)))
  tree_code (t.Collection a0 a1) = gcons (gnum 5) (gcons (collection.the_row.coded.code a0) (trees_code a1))
  tree_code (t.Unary a0 a1) = gcons (gnum 6) (gcons (unary.the_row.coded.code a0) (tree_code a1))
  tree_code (t.Binary a0 a1 a2) = gcons (gnum 7) (gcons (binary.the_row.coded.code a0) (gcons (tree_code a1) (tree_code a2)))
  tree_code (t.If a0 a1 a2) = gcons (gnum 8) (gcons (tree_code a0) (gcons (tree_code a1) (tree_code a2)))
  tree_code (t.Let a0 a1 a2) = gcons (gnum 9) (gcons (bytes.code a0) (gcons (tree_code a1) (tree_code a2)))
  tree_code (t.Feature a0 a1) = gcons (gnum 10) (gcons (tree_code a0) (bytes.code a1))
  tree_code (t.Call a0 a1 a2 a3) = gcons (gnum 11) (gcons (call.the_row.coded.code a0) (gcons (tree_code a1) (gcons (bytes.code a2) (arguments_code a3))))

  pub trees_code : Trees → Gv
  trees_code t.no_trees = gcons (gnum 0) gnil
  trees_code (t.trees a0 a1) = gcons (gnum 1) (gcons (tree_code a0) (trees_code a1))

  pub arguments_code : Arguments → Gv
  arguments_code t.no_arguments = gcons (gnum 0) gnil
  arguments_code (t.lambda a0 a1 a2) = gcons (gnum 1) (gcons (bytes.code a0) (gcons (tree_code a1) (arguments_code a2)))
  arguments_code (t.type_named a0 a1 a2) = gcons (gnum 2) (gcons (bytes.code a0) (gcons (bytes.code a1) (arguments_code a2)))
  arguments_code (t.expression a0 a1) = gcons (gnum 3) (gcons (tree_code a0) (arguments_code a1))

mutual
  pub tree_inj : (x y : Tree) → tree_code x ≡ tree_code y → x ≡ y
  tree_inj (t.Integer a0) (t.Integer b0) p = λ i. t.Integer (coded_ℕ.inj a0 b0 (ap (λ g. tail g) p) i)
  tree_inj (t.Text a0) (t.Text b0) p = λ i. t.Text (bytes.inj a0 b0 (ap (λ g. tail g) p) i)
  tree_inj (t.Const a0) (t.Const b0) p = λ i. t.Const (constant.the_row.coded.inj a0 b0 (ap (λ g. tail g) p) i)
  tree_inj (t.Variable a0) (t.Variable b0) p = λ i. t.Variable (bytes.inj a0 b0 (ap (λ g. tail g) p) i)
  tree_inj (t.Literal a0 a1 a2) (t.Literal b0 b1 b2) p = λ i. t.Literal (bytes.inj a0 b0 (ap (λ g. head (tail g)) p) i) (bytes.inj a1 b1 (ap (λ g. head (tail (tail g))) p) i) (bytes.inj a2 b2 (ap (λ g. tail (tail (tail g))) p) i)
  tree_inj (t.Collection a0 a1) (t.Collection b0 b1) p = λ i. t.Collection (collection.the_row.coded.inj a0 b0 (ap (λ g. head (tail g)) p) i) (trees_inj a1 b1 (ap (λ g. tail (tail g)) p) i)
  tree_inj (t.Unary a0 a1) (t.Unary b0 b1) p = λ i. t.Unary (unary.the_row.coded.inj a0 b0 (ap (λ g. head (tail g)) p) i) (tree_inj a1 b1 (ap (λ g. tail (tail g)) p) i)
  tree_inj (t.Binary a0 a1 a2) (t.Binary b0 b1 b2) p = λ i. t.Binary (binary.the_row.coded.inj a0 b0 (ap (λ g. head (tail g)) p) i) (tree_inj a1 b1 (ap (λ g. head (tail (tail g))) p) i) (tree_inj a2 b2 (ap (λ g. tail (tail (tail g))) p) i)
  tree_inj (t.If a0 a1 a2) (t.If b0 b1 b2) p = λ i. t.If (tree_inj a0 b0 (ap (λ g. head (tail g)) p) i) (tree_inj a1 b1 (ap (λ g. head (tail (tail g))) p) i) (tree_inj a2 b2 (ap (λ g. tail (tail (tail g))) p) i)
  tree_inj (t.Let a0 a1 a2) (t.Let b0 b1 b2) p = λ i. t.Let (bytes.inj a0 b0 (ap (λ g. head (tail g)) p) i) (tree_inj a1 b1 (ap (λ g. head (tail (tail g))) p) i) (tree_inj a2 b2 (ap (λ g. tail (tail (tail g))) p) i)
  tree_inj (t.Feature a0 a1) (t.Feature b0 b1) p = λ i. t.Feature (tree_inj a0 b0 (ap (λ g. head (tail g)) p) i) (bytes.inj a1 b1 (ap (λ g. tail (tail g)) p) i)
  tree_inj (t.Call a0 a1 a2 a3) (t.Call b0 b1 b2 b3) p = λ i. t.Call (call.the_row.coded.inj a0 b0 (ap (λ g. head (tail g)) p) i) (tree_inj a1 b1 (ap (λ g. head (tail (tail g))) p) i) (bytes.inj a2 b2 (ap (λ g. head (tail (tail (tail g)))) p) i) (arguments_inj a3 b3 (ap (λ g. tail (tail (tail (tail g)))) p) i)
  tree_inj x y p = absurd (apart _ _ p (omega arith))

  pub trees_inj : (x y : Trees) → trees_code x ≡ trees_code y → x ≡ y
  trees_inj t.no_trees t.no_trees p = refl
  trees_inj (t.trees a0 a1) (t.trees b0 b1) p = λ i. t.trees (tree_inj a0 b0 (ap (λ g. head (tail g)) p) i) (trees_inj a1 b1 (ap (λ g. tail (tail g)) p) i)
  trees_inj x y p = absurd (apart _ _ p (omega arith))

  pub arguments_inj : (x y : Arguments) → arguments_code x ≡ arguments_code y → x ≡ y
  arguments_inj t.no_arguments t.no_arguments p = refl
  arguments_inj (t.lambda a0 a1 a2) (t.lambda b0 b1 b2) p = λ i. t.lambda (bytes.inj a0 b0 (ap (λ g. head (tail g)) p) i) (tree_inj a1 b1 (ap (λ g. head (tail (tail g))) p) i) (arguments_inj a2 b2 (ap (λ g. tail (tail (tail g))) p) i)
  arguments_inj (t.type_named a0 a1 a2) (t.type_named b0 b1 b2) p = λ i. t.type_named (bytes.inj a0 b0 (ap (λ g. head (tail g)) p) i) (bytes.inj a1 b1 (ap (λ g. head (tail (tail g))) p) i) (arguments_inj a2 b2 (ap (λ g. tail (tail (tail g))) p) i)
  arguments_inj (t.expression a0 a1) (t.expression b0 b1) p = λ i. t.expression (tree_inj a0 b0 (ap (λ g. head (tail g)) p) i) (arguments_inj a1 b1 (ap (λ g. tail (tail g)) p) i)
  arguments_inj x y p = absurd (apart _ _ p (omega arith))

abbrev pub coded_tree : Coded Tree
coded_tree = record { code = tree_code; inj = tree_inj }
