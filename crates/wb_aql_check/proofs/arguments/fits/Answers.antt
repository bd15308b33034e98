use Rattle.std.proofs.Common.{sym}
use Rattle.wb_aql_check.proofs.Fitting.{many_do_not_fit}
use Rattle.wb_aql_check.proofs.arguments.fits.Goals as goal

pub returns-in_default : goal.returns-in_default
returns-in_default c = sym (many_do_not_fit c.args.parameters c.args.arguments.now c.in_default.len_at_least)
