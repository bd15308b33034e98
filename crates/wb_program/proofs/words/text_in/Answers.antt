use Rattle.std.proofs.Common.{sym, ◌∙◌, ap, Some}
use Rattle.wb_program.proofs.Texts.{is_a_text, is_no_text}
use Rattle.wb_program.proofs.words.text_in.Goals as goal

pub returns-in-Ok : goal.returns-in-Ok
returns-in-Ok c = ap Some c.in-Ok.ensures.cases.0 ∙ sym (is_a_text c.args.word.now c.in-Ok.ensures.cases.1)

pub returns-in-Err : goal.returns-in-Err
returns-in-Err c = sym (is_no_text c.args.word.now c.in-Err.ensures.cases.0)
