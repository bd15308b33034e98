use Rattle.std.proofs.Common.{rules, arith, ◌≡◌, ◌<◌, ◌+◌, ◌-◌, List, ◌∷◌, length, take, drop, ap, ◌∙◌}
use Rattle.wb_viewpoint.specs.OperationTrees.{count_all}
use Rattle.wb_viewpoint.specs.View.{trees_of}
use Rattle.wb_viewpoint.specs.declared.operations.Operation.{Operation, out-Operation}
use Rattle.wb_tools.proofs.Sequences.{count_first, places, split}
use Rattle.wb_tools.proofs.counting.+count_all.Goals as goal

pub count_all-requires : goal.count_all-requires
count_all-requires t c =
    let x = c.first-item.result in
    let here : c.args.operations.now ≡ x ∷ (take (length c.args.operations.now - 1) (drop 1 c.args.operations.now)) = split c.args.operations.now x (omega arith) c.first-item.is in
    let n : count_all (trees_of c.args.operations.now) ≡ places x + count_all (trees_of (take (length c.args.operations.now - 1) (drop 1 c.args.operations.now))) = ap (λ (ys : List Operation). count_all (trees_of ys)) here ∙ count_first x (take (length c.args.operations.now - 1) (drop 1 c.args.operations.now)) in
    let k : count_all (trees_of c.as_slice.result.now) ≡ count_all (trees_of (out-Operation x).inside) = ap (λ (ys : List Operation). count_all (trees_of ys)) c.as_slice.ensures in
    let f : count_all (trees_of c.args.operations.now) < 4294967296 = c.requires in
    search rules

pub overflow_add-result : goal.overflow_add-result
overflow_add-result t c =
    let x = c.first-item.result in
    let here : c.args.operations.now ≡ x ∷ (take (length c.args.operations.now - 1) (drop 1 c.args.operations.now)) = split c.args.operations.now x (omega arith) c.first-item.is in
    let n : count_all (trees_of c.args.operations.now) ≡ places x + count_all (trees_of (take (length c.args.operations.now - 1) (drop 1 c.args.operations.now))) = ap (λ (ys : List Operation). count_all (trees_of ys)) here ∙ count_first x (take (length c.args.operations.now - 1) (drop 1 c.args.operations.now)) in
    let k : count_all (trees_of c.as_slice.result.now) ≡ count_all (trees_of (out-Operation x).inside) = ap (λ (ys : List Operation). count_all (trees_of ys)) c.as_slice.ensures in
    let f : count_all (trees_of c.args.operations.now) < 4294967296 = c.requires in
    let a = c.count_all.ensures in search rules

pub count_all-requires-in-len1-up : goal.count_all-requires-in-len1-up
count_all-requires-in-len1-up t c =
    let x = c.first-item.result in
    let here : c.args.operations.now ≡ x ∷ (take (length c.args.operations.now - 1) (drop 1 c.args.operations.now)) = split c.args.operations.now x (omega arith) c.first-item.is in
    let n : count_all (trees_of c.args.operations.now) ≡ places x + count_all (trees_of (take (length c.args.operations.now - 1) (drop 1 c.args.operations.now))) = ap (λ (ys : List Operation). count_all (trees_of ys)) here ∙ count_first x (take (length c.args.operations.now - 1) (drop 1 c.args.operations.now)) in
    let k : count_all (trees_of c.as_slice.result.now) ≡ count_all (trees_of (out-Operation x).inside) = ap (λ (ys : List Operation). count_all (trees_of ys)) c.as_slice.ensures in
    let f : count_all (trees_of c.args.operations.now) < 4294967296 = c.requires in
    search rules

pub overflow_add-result-in-len1-up : goal.overflow_add-result-in-len1-up
overflow_add-result-in-len1-up t c =
    let x = c.first-item.result in
    let here : c.args.operations.now ≡ x ∷ (take (length c.args.operations.now - 1) (drop 1 c.args.operations.now)) = split c.args.operations.now x (omega arith) c.first-item.is in
    let n : count_all (trees_of c.args.operations.now) ≡ places x + count_all (trees_of (take (length c.args.operations.now - 1) (drop 1 c.args.operations.now))) = ap (λ (ys : List Operation). count_all (trees_of ys)) here ∙ count_first x (take (length c.args.operations.now - 1) (drop 1 c.args.operations.now)) in
    let k : count_all (trees_of c.as_slice.result.now) ≡ count_all (trees_of (out-Operation x).inside) = ap (λ (ys : List Operation). count_all (trees_of ys)) c.as_slice.ensures in
    let f : count_all (trees_of c.args.operations.now) < 4294967296 = c.requires in
    let a = c.count_all.ensures in let b = c.count_all-in-len1-up.ensures in search rules

pub returns-in-len1-up : goal.returns-in-len1-up
returns-in-len1-up t c =
    let x = c.first-item.result in
    let here : c.args.operations.now ≡ x ∷ (take (length c.args.operations.now - 1) (drop 1 c.args.operations.now)) = split c.args.operations.now x (omega arith) c.first-item.is in
    let n : count_all (trees_of c.args.operations.now) ≡ places x + count_all (trees_of (take (length c.args.operations.now - 1) (drop 1 c.args.operations.now))) = ap (λ (ys : List Operation). count_all (trees_of ys)) here ∙ count_first x (take (length c.args.operations.now - 1) (drop 1 c.args.operations.now)) in
    let k : count_all (trees_of c.as_slice.result.now) ≡ count_all (trees_of (out-Operation x).inside) = ap (λ (ys : List Operation). count_all (trees_of ys)) c.as_slice.ensures in
    let f : count_all (trees_of c.args.operations.now) < 4294967296 = c.requires in
    let a = c.count_all.ensures in let b = c.count_all-in-len1-up.ensures in omega (arith, n, k, a, b)
