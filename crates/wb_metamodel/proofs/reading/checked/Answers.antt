use Rattle.std.proofs.Common.{Ok, sym, ap, ◌∙◌, arith}
use Rattle.wb_ecore.specs.declared.refusal.MetamodelCode.TheVariants.{SupertypeCycle}
use Rattle.wb_metamodel.specs.Checks.{no_cycle}
use Rattle.wb_json.proofs.Found.{coded_ok}
use Rattle.wb_metamodel.proofs.Wholes.{known, hierarchy-from, passed, check-ok, check-refused}
use Rattle.wb_metamodel.proofs.reading.checked.Goals as goal

pub below_table-requires : goal.below_table-requires
below_table-requires c = known c.args.document.now c.args.elements c.requires.resolved

pub tables-requires-clause-hierarchy : goal.tables-requires-clause-hierarchy
tables-requires-clause-hierarchy c =
    let cycle = coded_ok SupertypeCycle (no_cycle c.args.elements) tt (c.in_ok-coded.ensures (no_cycle c.args.elements) c.no_cycle.ensures) in
    hierarchy-from c.args.document.now c.args.elements c.requires.resolved cycle (omega (arith, c.len.ensures, c.if-len.false)) (omega (arith, c.len-else-len.ensures, c.if-len-2.false))

pub returns-in-Err : goal.returns-in-Err
returns-in-Err c =
    let cycle = coded_ok SupertypeCycle (no_cycle c.args.elements) tt (c.in_ok-coded.ensures (no_cycle c.args.elements) c.no_cycle.ensures) in
    check-refused c.args.elements c.in-Err.refusal cycle c.in-Err.ensures

pub new-requires-clause-well_formed : goal.new-requires-clause-well_formed
new-requires-clause-well_formed c =
    let cycle = coded_ok SupertypeCycle (no_cycle c.args.elements) tt (c.in_ok-coded.ensures (no_cycle c.args.elements) c.no_cycle.ensures) in
    passed c.args.document.now c.args.elements c.requires.names c.requires.resolved cycle c.in-Ok.ensures

pub returns-in-Ok : goal.returns-in-Ok
returns-in-Ok c =
    let cycle = coded_ok SupertypeCycle (no_cycle c.args.elements) tt (c.in_ok-coded.ensures (no_cycle c.args.elements) c.no_cycle.ensures) in
    check-ok c.args.elements cycle c.in-Ok.ensures ∙ ap Ok (sym c.new.ensures)
