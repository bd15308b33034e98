use Rattle.std.proofs.Common.{length, sym, ◌∙◌, arith}
use Rattle.wb_metamodel.specs.Checks.{has_clash}
use Rattle.wb_ecore.proofs.Taken.{find-on}
use Rattle.wb_metamodel.proofs.checking.first_clash.Goals as goal

pub loop-class-preserved : goal.loop-class-preserved
loop-class-preserved c =
    let n = c.len-class-end.ensures in
    c.loop-class.invariant ∙ find-on (has_clash c.args.elements.now) (length c.args.elements.now.classes) c.loop-class.class (omega arith) (sym c.if-has_clash.ensures)
