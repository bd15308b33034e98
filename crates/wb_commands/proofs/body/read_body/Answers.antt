use Rattle.serde_json.specs.View.{view}
use Rattle.wb_commands.specs.Forms.{command_of}
use Rattle.wb_commands.proofs.body.read_body.Goals as goal

pub returns : goal.returns
returns c = c.placeless.ensures (command_of (view c.args.value.now)) c.read_value.ensures
