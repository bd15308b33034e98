use Rattle.wb_program.proofs.Numerals.{is_read}
use Rattle.wb_program.proofs.forms.number_in.Goals as goal

pub unwrap-requires : goal.unwrap-requires
unwrap-requires c = (is_read c.args.word.now c.parse.result c.requires c.parse.ensures.value.0).0

pub returns : goal.returns
returns c = rw c.unwrap.ensures at ((is_read c.args.word.now c.parse.result c.requires c.parse.ensures.value.0).1)
