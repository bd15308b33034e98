use Rattle.wb_diagram.proofs.Spelling.{one_key}
use Rattle.wb_diagram.proofs.key_reader.spells_one_key.Goals as goal

pub returns : goal.returns
returns c = one_key c.args.text.now c.args.left.now c.args.right.now c.requires.left c.requires.right
