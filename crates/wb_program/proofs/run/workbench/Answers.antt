use Rattle.wb_program.specs.Words.{task_of, files_of}
use Rattle.wb_program.specs.Opening.{course_of}
use Rattle.wb_program.proofs.Endings.{shelf_fault_of, sink_fault_of, no_keeper_fault, no_door_fault, files_of_run, asked_of_run}
use Rattle.wb_program.proofs.Lawful.{causes_of_course, turns_of_course}
use Rattle.wb_program.proofs.run.workbench.Goals as goal

pub returns-clause-files : goal.returns-clause-files
returns-clause-files g c = files_of_run (course_of c.args.words.now) c.run_words.result _ _ _ _ c.run_words.ensures

pub returns-clause-asked : goal.returns-clause-asked
returns-clause-asked g c = asked_of_run (course_of c.args.words.now) c.run_words.result _ _ _ _ c.run_words.ensures (files_of (task_of c.args.words.now)) (turns_of_course c.args.words.now)

pub returns-clause-shelf_fault : goal.returns-clause-shelf_fault
returns-clause-shelf_fault g c = shelf_fault_of (course_of c.args.words.now) c.run_words.result _ _ _ _ (causes_of_course c.args.words.now) c.run_words.ensures

pub returns-clause-sink_fault : goal.returns-clause-sink_fault
returns-clause-sink_fault g c = sink_fault_of (course_of c.args.words.now) c.run_words.result _ _ _ _ (causes_of_course c.args.words.now) c.run_words.ensures

pub returns-clause-keeper_fault : goal.returns-clause-keeper_fault
returns-clause-keeper_fault g c = λ is. absurd (no_keeper_fault (course_of c.args.words.now) c.run_words.result _ _ _ _ (causes_of_course c.args.words.now) c.run_words.ensures is)

pub returns-clause-door_fault : goal.returns-clause-door_fault
returns-clause-door_fault g c = λ is. absurd (no_door_fault (course_of c.args.words.now) c.run_words.result _ _ _ _ (causes_of_course c.args.words.now) c.run_words.ensures is)
