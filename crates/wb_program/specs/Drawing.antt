-- The picture of a model as a session is opened over it: nothing is marked shown or hidden, nothing was placed, no filter is active,
-- and of the additional layers those are that the viewpoint declares active.
use Rattle.std.specs.Prelude.{ℕ, Bool, [], if◌then◌else◌}
use Rattle.wb_store.specs.Contents.{Contents}
use Rattle.wb_spec_check.specs.Checked.{Specification}
use Rattle.wb_aql_eval.specs.Outcomes.{outcome_of}
use Rattle.wb_refresh.specs.Openings as diagrams
use Rattle.wb_refresh.specs.Subjects.{subject}
use Rattle.wb_session.specs.Opening.{opened_state}
use Rattle.wb_session.specs.Pictures.{served}
use Rattle.wb_session.specs.States.{State}
use Rattle.wb_program.specs.declared.status.Status.TheVariants.{Done}
use Rattle.wb_program.specs.declared.answer.Answer.{Answer}
use Rattle.wb_program.specs.Answers.{line, diagram_too_large}
use Rattle.wb_program.specs.Course.{Course, gives, stops}

abbrev pub is_too_large : Specification → Contents → (root : ℕ) → Bool
is_too_large spec m root = diagrams.is_too_large outcome_of (subject spec m root [])

-- the picture of a state, and LF
abbrev pub picture_of : State → Answer
picture_of s = line Done (served outcome_of s)

abbrev pub picture_answer : Specification → Contents → (root : ℕ) → Answer
picture_answer spec m root = picture_of (opened_state spec m root)

-- the picture from a root element, unless the diagram is too large
unfoldable pub drawn : Specification → Contents → (root : ℕ) → Course Answer
drawn spec m root = if is_too_large spec m root then stops diagram_too_large else gives (picture_answer spec m root)
