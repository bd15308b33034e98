use Rattle.wb_spec_check.proofs.Children.{child_unknown}
use Rattle.wb_spec_check.proofs.child_lists.child_found.Goals as goal

pub returns-in-Err : goal.returns-in-Err
returns-in-Err c = λ earlier list i took held.
    child_unknown c.args.names.now.1 earlier (record { role = c.args.role; names = list }) i c.as_str.result.now c.args.name.now c.in-Err.code c.as_str.ensures.same c.in-Err.ensures
