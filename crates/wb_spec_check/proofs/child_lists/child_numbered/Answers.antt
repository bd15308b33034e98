use Rattle.wb_spec_check.proofs.Children.{child_first, child_reused}
use Rattle.wb_spec_check.proofs.child_lists.child_numbered.Goals as goal

pub returns-then-is_reused : goal.returns-then-is_reused
returns-then-is_reused c = λ earlier list i took held is.
    child_reused c.args.content.now earlier c.args.role list i c.args.number c.args.name.now c.args.taken.now c.args.seen.now is took held c.if-is_reused.ensures

pub returns-then-not-fits_mapping : goal.returns-then-not-fits_mapping
returns-then-not-fits_mapping c = λ earlier list i took held is.
    child_first c.args.content.now earlier c.args.role list i c.args.number c.args.name.now c.args.taken.now c.args.seen.now _ is took held c.if-is_reused.ensures c.if-not-fits_mapping.ensures

pub returns : goal.returns
returns c = λ earlier list i took held is.
    child_first c.args.content.now earlier c.args.role list i c.args.number c.args.name.now c.args.taken.now c.args.seen.now _ is took held c.if-is_reused.ensures c.if-not-fits_mapping.ensures
