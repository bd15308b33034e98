-- What follows on a state: the state that a command leaves, by the parts that it comes to.
use Rattle.std.specs.Prelude.{ℕ, ◌+◌, ◌<◌, ◌≤◌, Option}
use Rattle.wb_store.specs.Contents.{Contents}
use Rattle.wb_marks.specs.declared.marks.Marks.{Marks}
use Rattle.wb_refresh.specs.Openings.{IsOpened, Kept}
use Rattle.wb_refresh.specs.Outcomes.{Gives}
use Rattle.wb_refresh.specs.Subjects.{subject}
use Rattle.wb_session.specs.declared.turn.Turn.{Turn}
use Rattle.wb_session.specs.States.{IsGoodBody, State, body}
use Rattle.wb_session.specs.Steps.{Stepped, future_after, past_after}
use Rattle.wb_session.specs.invariants.Keeping.{CanTurn}

-- the state after this one, with this model and these marks
abbrev pub state_after : State → Contents → Marks → Turn → State
state_after s m marks turn = record {
  spec = s.spec;
  root = s.root;
  next = m.next;
  body = body m marks;
  revision = s.revision + 1;
  past = past_after turn s;
  future = future_after turn s;
}

abbrev pub stepped_to : State → Contents → Marks → Turn → (created : Option ℕ) → Stepped
stepped_to s m marks turn created = record { state = state_after s m marks turn; created = created }

-- these parts follow on a state: they make a good body with its diagram, no number is taken back, there is a next revision, and past and future can go on so
pub record Follows (gives : Gives) (s : State) (m : Contents) (marks : Marks) (turn : Turn) (diagram : Kept) : Type 0 where
  pub good : IsGoodBody gives s.spec s.root m.next (body m marks)
  pub opened : IsOpened gives (subject s.spec m s.root marks.shown) diagram
  pub later : s.next ≤ m.next
  pub revision : s.revision < 9007199254740991
  pub possible : CanTurn turn s
