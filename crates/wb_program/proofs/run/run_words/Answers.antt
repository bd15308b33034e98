use Rattle.wb_program.specs.Opening.{course_of}
use Rattle.wb_program.proofs.Endings.{ran, ran_out}
use Rattle.wb_program.proofs.Lawful.{causes_of_course}
use Rattle.wb_program.proofs.run.run_words.Goals as goal

pub returns-in-Ok : goal.returns-in-Ok
returns-in-Ok g c = ran (course_of c.args.words.now) c.in-Ok.answer c.print.result _ _ _ _ (causes_of_course c.args.words.now) c.in-Ok.ensures c.print.ensures

pub returns-in-Err : goal.returns-in-Err
returns-in-Err g c = ran_out c.in-Err.field-0 (course_of c.args.words.now) _ _ _ c.in-Err.ensures
