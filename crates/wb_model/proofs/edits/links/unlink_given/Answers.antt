use Rattle.std.proofs.Common.{◌∙◌, ap, sym, []}
use Rattle.wb_store.specs.Relinking.{relink}
use Rattle.wb_store.specs.LinkSteps.{is_given}
use Rattle.wb_model.proofs.edits.links.unlink_given.Goals as goal
use Rattle.wb_store.proofs.Relinks.{relink_none}

pub returns-in_default : goal.returns-in_default
returns-in_default c =
    let m = c.args.store.now in
    sym (ap (λ r. relink (is_given m.metamodel c.args.o c.args.f r) [] m) c.in_default.is ∙ relink_none m)
