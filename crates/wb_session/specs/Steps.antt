-- One command: the state after it, or its refusal.
use Rattle.std.specs.Prelude.{ℕ, ◌+◌, not, nat_eq, nat_le, List, [], ◌∷◌, ◌++◌, Option, Result, Ok, Err, ⊤, if◌then◌else◌}
use Rattle.circular_buffer.specs.Buffer.{keep_last}
use Rattle.wb_base.specs.Results.{◌>>=◌}
use Rattle.wb_history.specs.Stacks.{all_but_newest}
use Rattle.wb_diagram.specs.declared.commands.Command.{Command}
use Rattle.wb_model.specs.Edits.{is_live}
use Rattle.wb_spec_check.specs.Checked.{Specification}
use Rattle.wb_refresh.specs.Openings.{is_too_large}
use Rattle.wb_refresh.specs.Outcomes.{Gives}
use Rattle.wb_refresh.specs.Subjects.{Subject}
use Rattle.wb_declared.specs.Declarations.{declared_edges, declared_nodes}
use Rattle.wb_marks.specs.Marks.{settled}
use Rattle.wb_session.specs.declared.refusal.Refusal.{Refusal}
use Rattle.wb_session.specs.declared.refusal.Refusal.TheVariants as r
use Rattle.wb_session.specs.declared.turn.Turn.{Turn}
use Rattle.wb_session.specs.declared.turn.Turn.TheVariants as turn
use Rattle.wb_session.specs.States.{Body, State, model_at, subject_at}
use Rattle.wb_session.specs.Tries.{Tried, tried}

-- ---- before anything is tried

-- the command names the present revision, and there is a next one
unfoldable pub current : State → (revision : ℕ) → Result ⊤ Refusal
current s revision =
    if not (nat_eq revision s.revision) then Err r.Stale
    else if nat_le 9007199254740991 s.revision then Err r.RevisionsSpent
    else Ok tt

-- ---- after a state is tried

-- the root element is live in it, and its diagram is not too large
unfoldable pub stands : Gives → Specification → (root : ℕ) → Tried → Result ⊤ Refusal
stands gives spec root a =
    if not (is_live (model_at a.next a.body) root) then Err r.RootRemoved
    else if is_too_large gives (subject_at spec root a.next a.body) then Err r.DiagramTooLarge
    else Ok tt

-- ---- the common end

-- the body without marks and positions of what is not declared
abbrev pub settled_body : Gives → Subject → Body → Body
settled_body gives s b = record { model = b.model; marks = settled (declared_nodes gives s) (declared_edges gives s) b.marks }

-- a command goes last in the past, of which the last 100 are kept; an undo takes the newest of the past, and a redo gives it back
abbrev pub past_after : Turn → State → List Body
past_after turn.Forward s = keep_last 100 (s.past ++ s.body ∷ [])
past_after turn.Back s = all_but_newest s.past
past_after turn.Again s = s.past ++ s.body ∷ []

-- a command leaves no future; an undo puts the body into it, and a redo takes its newest
abbrev pub future_after : Turn → State → List Body
future_after turn.Forward s = []
future_after turn.Back s = s.future ++ s.body ∷ []
future_after turn.Again s = all_but_newest s.future

unfoldable pub accepted : Gives → State → Tried → State
accepted gives s a = record {
  spec = s.spec;
  root = s.root;
  next = a.next;
  body = settled_body gives (subject_at s.spec s.root a.next a.body) a.body;
  revision = s.revision + 1;
  past = past_after a.turn s;
  future = future_after a.turn s;
}

-- ---- the whole

-- an accepted command: the state after it, and the number of the object that it made, for `create` alone
pub record Stepped : Type 0 where
  pub state : State
  pub created : Option ℕ

abbrev pub stepped : Gives → State → Tried → Stepped
stepped gives s a = record { state = accepted gives s a; created = a.created }

unfoldable pub step : Gives → State → Command → Result Stepped Refusal
step gives s command =
    current s command.revision >>= (λ _.
    tried gives s command.action >>= (λ a.
    stands gives s.spec s.root a >>= (λ _. Ok (stepped gives s a))))
