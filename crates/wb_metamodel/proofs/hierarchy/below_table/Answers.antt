use Rattle.std.proofs.Common.{◌≡◌, ◌-◌, ◌<◌, List, [], length, map, get_or, sym, ap, ◌∙◌, arith}
use Rattle.std.specs.List.{range_with_len}
use Rattle.wb_ecore.specs.declared.classes.Class.{Class}
use Rattle.wb_base.specs.Paths.{leads_through}
use Rattle.wb_metamodel.specs.Metamodel.{is_supertype}
use Rattle.wb_metamodel.specs.invariants.Tables.{table_of, direct_row, widened}
use Rattle.wb_metamodel.proofs.Warshall.{direct-table, length-table, through-table, leads-table, ranged, at_last}
use Rattle.wb_metamodel.proofs.hierarchy.below_table.Goals as goal

pub loop-done-init : goal.loop-done-init
loop-done-init c =
    let mm = c.args.elements.now in
    c.in_ok-table.ensures
    ∙ ap (λ (cs : List Class). map (λ (class : Class). direct_row (length cs) class.supertypes) cs) c.as_slice.ensures
    ∙ direct-table mm
    ∙ ap (λ n. table_of n (leads_through (is_supertype mm) [])) (sym c.len-count.ensures)

pub through-requires : goal.through-requires
through-requires c =
    let n = ap length c.loop-done.invariant ∙ length-table c.len-count.result (leads_through (is_supertype c.args.elements.now) (range_with_len (c.len-count.result - c.loop-done.done) c.loop-done.done)) in
    omega arith

pub loop-done-preserved : goal.loop-done-preserved
loop-done-preserved c =
    let mm = c.args.elements.now in
    let n = c.len-count.result in
    let done = c.loop-done.done in
    let k = n - 1 - done in
    let ks = range_with_len (n - done) done in
    let low : k < n = omega arith in
    c.in_ok-table-2.ensures
    ∙ ap (λ t. map (widened k (get_or t k [])) t) c.loop-done.invariant
    ∙ through-table n k (leads_through (is_supertype mm) ks) low
    ∙ leads-table mm n k ks
    ∙ ap (λ l. table_of n (leads_through (is_supertype mm) l)) (ranged n done (omega arith))

pub returns : goal.returns
returns c =
    let all : c.loop-done.done ≡ c.len-count.result = omega arith in
    c.loop-done.invariant ∙ at_last c.args.elements.now c.len-count.result c.loop-done.done c.len-count.ensures all
