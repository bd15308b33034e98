-- The tree of each node.
use Rattle.std.proofs.Common.{◌≡◌, ℕ, List, [], ◌∷◌, map, refl, sym, ap, ◌∙◌}
use Rattle.wb_aql_grammar.specs.Tree.{Tree}
use Rattle.wb_aql_grammar.specs.Tree as t
use Rattle.wb_aql_grammar.specs.View.{tree_of, layer, trees_of, arguments_of, trees_in, arguments_in}
use Rattle.wb_aql_grammar.specs.declared.expr.Node.{Node}
use Rattle.wb_aql_grammar.specs.declared.expr.Node.TheVariants as v
use Rattle.wb_aql_grammar.specs.declared.expr.Node.TheOpen as n
use Rattle.wb_aql_grammar.specs.declared.expr.Node.TheFolds.{fold-Node, fold-roll-Node}
use Rattle.wb_aql_grammar.specs.declared.expr.Unary.{Unary}
use Rattle.wb_aql_grammar.specs.declared.expr.Binary.{Binary}
use Rattle.wb_aql_grammar.specs.declared.expr.Constant.{Constant}
use Rattle.wb_aql_grammar.specs.declared.expr.CallKind.{CallKind}
use Rattle.wb_aql_grammar.specs.declared.expr.CollectionKind.{CollectionKind}
use Rattle.wb_aql_grammar.specs.declared.expr.Argument.{Argument}
use Rattle.wb_aql_grammar.specs.declared.expr.Argument.TheVariants as a

pub tree_binary : (o : Binary) (x y : Node) → tree_of (v.Binary o x y) ≡ t.Binary o (tree_of x) (tree_of y)
unfolding tree_of
tree_binary o x y = ap (fold-Node Tree layer) (sym (v.rolls-Binary o x y)) ∙ fold-roll-Node Tree layer (n.Binary o x y)

pub tree_unary : (o : Unary) (x : Node) → tree_of (v.Unary o x) ≡ t.Unary o (tree_of x)
unfolding tree_of
tree_unary o x = ap (fold-Node Tree layer) (sym (v.rolls-Unary o x)) ∙ fold-roll-Node Tree layer (n.Unary o x)

pub tree_conditional : (x y z : Node) → tree_of (v.If x y z) ≡ t.If (tree_of x) (tree_of y) (tree_of z)
unfolding tree_of
tree_conditional x y z = ap (fold-Node Tree layer) (sym (v.rolls-If x y z)) ∙ fold-roll-Node Tree layer (n.If x y z)

pub tree_let_in : (w : List ℕ) (x y : Node) → tree_of (v.Let w x y) ≡ t.Let w (tree_of x) (tree_of y)
unfolding tree_of
tree_let_in w x y = ap (fold-Node Tree layer) (sym (v.rolls-Let w x y)) ∙ fold-roll-Node Tree layer (n.Let w x y)

pub tree_feature : (x : Node) (w : List ℕ) → tree_of (v.Feature x w) ≡ t.Feature (tree_of x) w
unfolding tree_of
tree_feature x w = ap (fold-Node Tree layer) (sym (v.rolls-Feature x w)) ∙ fold-roll-Node Tree layer (n.Feature x w)

pub tree_integer : (i : ℕ) → tree_of (v.Integer i) ≡ t.Integer i
unfolding tree_of
tree_integer i = ap (fold-Node Tree layer) (sym (v.rolls-Integer i)) ∙ fold-roll-Node Tree layer (n.Integer i)

pub tree_text : (w : List ℕ) → tree_of (v.Text w) ≡ t.Text w
unfolding tree_of
tree_text w = ap (fold-Node Tree layer) (sym (v.rolls-Text w)) ∙ fold-roll-Node Tree layer (n.Text w)

pub tree_constant : (c : Constant) → tree_of (v.Constant c) ≡ t.Const c
unfolding tree_of
tree_constant c = ap (fold-Node Tree layer) (sym (v.rolls-Constant c)) ∙ fold-roll-Node Tree layer (n.Constant c)

pub tree_variable : (w : List ℕ) → tree_of (v.Variable w) ≡ t.Variable w
unfolding tree_of
tree_variable w = ap (fold-Node Tree layer) (sym (v.rolls-Variable w)) ∙ fold-roll-Node Tree layer (n.Variable w)

pub tree_literal : (p e l : List ℕ) → tree_of (v.Literal p e l) ≡ t.Literal p e l
unfolding tree_of
tree_literal p e l = ap (fold-Node Tree layer) (sym (v.rolls-Literal p e l)) ∙ fold-roll-Node Tree layer (n.Literal p e l)

trees_in_map : (xs : List Node) → trees_of (map (fold-Node Tree layer) xs) ≡ trees_in xs
unfolding tree_of
trees_in_map [] = refl
trees_in_map (x ∷ xs) = ap (t.trees (fold-Node Tree layer x)) (trees_in_map xs)

pub tree_collection : (k : CollectionKind) (xs : List Node) → tree_of (v.Collection k xs) ≡ t.Collection k (trees_in xs)
unfolding tree_of
tree_collection k xs = ap (fold-Node Tree layer) (sym (v.rolls-Collection k xs)) ∙ (fold-roll-Node Tree layer (n.Collection k xs) ∙ ap (t.Collection k) (trees_in_map xs))

arguments_in_map : (xs : List (Argument Node)) →
    arguments_of (map ((Rattle.wb_aql_grammar.specs.declared.expr.Node.TheShapes.former-Node-Call-3-at-7).map Node Tree (fold-Node Tree layer)) xs) ≡ arguments_in xs
unfolding tree_of
arguments_in_map [] = refl
arguments_in_map (a.Lambda w x ∷ xs) = ap (t.lambda w (fold-Node Tree layer x)) (arguments_in_map xs)
arguments_in_map (a.Type p c ∷ xs) = ap (t.type_named p c) (arguments_in_map xs)
arguments_in_map (a.Expression x ∷ xs) = ap (t.expression (fold-Node Tree layer x)) (arguments_in_map xs)

pub tree_call : (k : CallKind) (x : Node) (w : List ℕ) (xs : List (Argument Node)) → tree_of (v.Call k x w xs) ≡ t.Call k (tree_of x) w (arguments_in xs)
unfolding tree_of
tree_call k x w xs = ap (fold-Node Tree layer) (sym (v.rolls-Call k x w xs)) ∙ (fold-roll-Node Tree layer (n.Call k x w xs) ∙ ap (t.Call k (fold-Node Tree layer x) w) (arguments_in_map xs))
