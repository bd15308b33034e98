-- What stands for what in a session's memory.
use Rattle.std.specs.Prelude.{◌≡◌, ℕ, ◌≤◌, ◌<◌, List, [], ◌∷◌, ◌++◌, length, map, true, refl}
use Rattle.std.specs.List.{AllByRecursion}
use Rattle.std.specs.Coded.{Coded, code_by, coded×, coded_list, coded_ℕ}
use Rattle.circular_buffer.specs.Buffer.{keep_last}
use Rattle.wb_store.specs.Contents.{Contents}
use Rattle.wb_validity.specs.Valid.{conforms_to}
use Rattle.wb_spec_check.specs.Checked.{IsCheckedBy, Specification}
use Rattle.wb_model.specs.Edits.{is_live}
use Rattle.wb_history.specs.Stacks.{Stacks, all_but_newest, stacks}
use Rattle.wb_refresh.specs.Openings.{IsOpened, Kept}
use Rattle.wb_refresh.specs.Outcomes.{Gives}
use Rattle.wb_refresh.specs.Subjects.{subject}
use Rattle.wb_marks.specs.declared.marks.Marks.{Marks}
use Rattle.wb_session.specs.declared.entries.Entry.{Entry}
use Rattle.wb_session.specs.declared.entries.TriedState.{TriedState}
use Rattle.wb_session.specs.declared.turn.Turn.{Turn}
use Rattle.wb_session.specs.declared.turn.Turn.TheVariants as turn
use Rattle.wb_session.specs.States.{AreLawful, Body, IsGood, State, body}
use Rattle.wb_session.specs.Tries.{Tried}

-- ---- codes

abbrev pub body_code : Coded Contents → Coded Marks → Coded Body
body_code model marks = code_by (Contents × Marks) (coded× model marks) (λ b. (b.model, b.marks)) (λ p. record { model = p.0; marks = p.1 }) (λ _. refl)

abbrev pub state_code : Coded Specification → Coded Body → Coded State
state_code spec b =
    code_by (Specification × (ℕ × (ℕ × (Body × (ℕ × (List Body × List Body)))))) (coded× spec (coded× coded_ℕ (coded× coded_ℕ (coded× b (coded× coded_ℕ (coded× (coded_list b) (coded_list b)))))))
    (λ s. (s.spec, (s.root, (s.next, (s.body, (s.revision, (s.past, s.future)))))))
    (λ p. record { spec = p.0; root = p.1.0; next = p.1.1.0; body = p.1.1.1.0; revision = p.1.1.1.1.0; past = p.1.1.1.1.1.0; future = p.1.1.1.1.1.1 })
    (λ _. refl)

-- ---- what is seen

abbrev pub body_of : Entry → Body
body_of entry = body entry.model entry.marks

abbrev pub tried_of : TriedState → Tried
tried_of a = record { next = a.model.next; body = body a.model a.marks; created = a.created; turn = a.turn }

abbrev pub state_of : Specification → ℕ → Contents → Marks → ℕ → Stacks Entry → State
state_of spec root model marks revision history = record {
  spec = spec;
  root = root;
  next = model.next;
  body = body model marks;
  revision = revision;
  past = map body_of history.past;
  future = map body_of history.future;
}

-- ---- what is true of a session's memory

-- each kept model has numbers that were given
abbrev pub AreOlder : ℕ → List Entry → Type 0
AreOlder next entries = AllByRecursion (λ (e : Entry). e.model.next ≤ next) entries

pub record IsKept (gives : Gives) (spec : Specification) (root : ℕ) (model : Contents) (marks : Marks) (revision : ℕ) (history : Stacks Entry) (diagram : Kept) : Type 0 where
  pub good : IsGood gives (state_of spec root model marks revision history)
  pub opened : IsOpened gives (subject spec model root marks.shown) diagram
  pub past : AreOlder model.next history.past
  pub future : AreOlder model.next history.future
  pub capacity : history.capacity ≡ 100

-- ---- what is true of a state that is tried

-- there is something to undo, or to do again
abbrev pub CanTurn : Turn → State → Type 0
CanTurn turn.Forward s = Unit {0}
CanTurn turn.Back s = 0 < length s.past
CanTurn turn.Again s = 0 < length s.future

-- it goes on from this state: its numbers are not less, the viewpoint was checked against its metamodel, a root element that is live has its class, and its marks are lawful
pub record GoesOn (s : State) (a : TriedState) : Type 0 where
  pub later : s.next ≤ a.model.next
  pub checked : IsCheckedBy a.model.metamodel s.spec
  pub root : is_live a.model s.root ≡ true → conforms_to a.model s.spec.1.domain s.root ≡ true
  pub lawful : AreLawful s.spec a.marks
  pub possible : CanTurn a.turn s

-- ---- the history

abbrev pub IsPossible : Turn → Stacks Entry → Type 0
IsPossible turn.Forward h = Unit {0}
IsPossible turn.Back h = 0 < length h.past
IsPossible turn.Again h = 0 < length h.future

abbrev pub turned : Turn → Entry → Stacks Entry → Stacks Entry
turned turn.Forward e h = stacks (keep_last h.capacity (h.past ++ e ∷ [])) [] h.capacity
turned turn.Back e h = stacks (all_but_newest h.past) (h.future ++ e ∷ []) h.capacity
turned turn.Again e h = stacks (h.past ++ e ∷ []) (all_but_newest h.future) h.capacity
