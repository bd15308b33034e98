use Rattle.std.proofs.Common.{arith}
use Rattle.wb_program.proofs.Numerals.{unread}
use Rattle.wb_program.proofs.forms.is_at_most.Goals as goal

pub returns-in-Err : goal.returns-in-Err
returns-in-Err c = unread c.args.digits.now c.in-Err.field-0 c.args.most c.requires (omega arith) c.in-Err.ensures.value.0
