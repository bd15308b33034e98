use Rattle.wb_commands.proofs.KeyTexts.{is_found, is_spelled}
use Rattle.wb_commands.proofs.spelled.what_is_spelled.Goals as goal

pub returns : goal.returns
returns c = (is_found c.args.text.now c.args.key.now, is_spelled c.args.text.now c.args.key.now)
