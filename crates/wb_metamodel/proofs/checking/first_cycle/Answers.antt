use Rattle.std.proofs.Common.{◌≡◌, false, length, get_or, subst, sym, ap, ◌∙◌, arith}
use Rattle.wb_metamodel.specs.Metamodel.{is_below}
use Rattle.wb_metamodel.proofs.TableLemmas.{length-below_table, length-below_row, below_read}
use Rattle.wb_ecore.proofs.Taken.{find-on, find-here, find-done}
use Rattle.wb_metamodel.proofs.checking.first_cycle.Goals as goal

pub bounds-as_slice-class : goal.bounds-as_slice-class
bounds-as_slice-class c =
    let mm = c.args.elements.now in
    let k = c.loop-class.class in
    let row = c.index-below-class.result in
    let n = ap length c.requires ∙ length-below_table mm in
    let at = subst (λ t. row ≡ get_or t k row) c.requires c.index-below-class.is in
    let size = ap length c.as_slice.ensures ∙ length-below_row mm k row (omega arith) at in
    omega arith

pub returns-then-as_slice-class : goal.returns-then-as_slice-class
returns-then-as_slice-class c =
    let mm = c.args.elements.now in
    let k = c.loop-class.class in
    let row = c.index-below-class.result in
    let n = ap length c.requires ∙ length-below_table mm in
    let at = subst (λ t. row ≡ get_or t k row) c.requires c.index-below-class.is in
    let read = ap (λ r. get_or r k false) c.as_slice.ensures ∙ below_read mm k k row false (omega arith) (omega arith) at in
    sym (c.loop-class.invariant ∙ find-here (λ j. is_below mm j j) (length mm.classes) k (omega arith) (sym read ∙ c.if-as_slice-class.true))

pub loop-class-preserved : goal.loop-class-preserved
loop-class-preserved c =
    let mm = c.args.elements.now in
    let k = c.loop-class.class in
    let row = c.index-below-class.result in
    let n = ap length c.requires ∙ length-below_table mm in
    let at = subst (λ t. row ≡ get_or t k row) c.requires c.index-below-class.is in
    let read = ap (λ r. get_or r k false) c.as_slice.ensures ∙ below_read mm k k row false (omega arith) (omega arith) at in
    c.loop-class.invariant ∙ find-on (λ j. is_below mm j j) (length mm.classes) k (omega arith) (sym read ∙ c.if-as_slice-class.false)

pub returns : goal.returns
returns c =
    let mm = c.args.elements.now in
    let n = ap length c.requires ∙ length-below_table mm in
    sym (c.loop-class.invariant ∙ find-done (λ j. is_below mm j j) (length mm.classes) c.loop-class.class (omega arith))
