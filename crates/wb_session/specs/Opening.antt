-- A session as it is opened: nothing is marked or placed, no filter is active, and of the layers beside the first those are that the viewpoint declares active.
use Rattle.std.specs.Prelude.{◌≡◌, ℕ, [], find, Option, Some, None, Result, Ok, Err, if◌then◌else◌}
use Rattle.wb_base.specs.Answering.{IsRefusal}
use Rattle.wb_store.specs.Contents.{Contents}
use Rattle.wb_validity.specs.Valid.{conforms_to}
use Rattle.wb_spec_check.specs.Checked.{Specification}
use Rattle.wb_picture.specs.Opening.{opening_layers}
use Rattle.wb_refresh.specs.Openings.{is_too_large}
use Rattle.wb_refresh.specs.Outcomes.{Gives}
use Rattle.wb_refresh.specs.Subjects.{subject}
use Rattle.wb_marks.specs.Marks.{unmarked}
use Rattle.wb_session.specs.declared.opening.OpenRefusal.{OpenRefusal}
use Rattle.wb_session.specs.declared.opening.OpenRefusal.TheVariants.{NoRoot, TooLarge, NoMemory}
use Rattle.wb_session.specs.States.{State, body}

-- the first root that conforms to a class
abbrev pub root_element : Contents → (class : ℕ) → Option ℕ
root_element m class = find (conforms_to m class) m.roots

abbrev pub opened_state : Specification → Contents → (root : ℕ) → State
opened_state spec m root = record { spec = spec; root = root; next = m.next; body = body m (unmarked (opening_layers spec)); revision = 0; past = []; future = [] }

-- from a root element, unless the diagram is too large
unfoldable pub opened_from : Gives → Specification → Contents → (root : ℕ) → Result State OpenRefusal
opened_from gives spec m root = if is_too_large gives (subject spec m root []) then Err TooLarge else Ok (opened_state spec m root)

abbrev pub from_root : Gives → Specification → Contents → Option ℕ → Result State OpenRefusal
from_root gives spec m None = Err NoRoot
from_root gives spec m (Some root) = opened_from gives spec m root

-- a session over a model: the root element is the first root of the domain class
unfoldable pub opening : Gives → Specification → Contents → Result State OpenRefusal
opening gives spec m = from_root gives spec m (root_element m spec.1.domain)

-- the refusal that an error names; want of memory is none
abbrev pub open_named : OpenRefusal → Option OpenRefusal
open_named NoRoot = Some NoRoot
open_named TooLarge = Some TooLarge
open_named NoMemory = None

-- a step on the way: what it opens is this state
abbrev pub Opens : {A : Type 0} → Result State OpenRefusal → State → Result A OpenRefusal → Type 0
Opens given state (Ok _) = given ≡ Ok state
Opens given state (Err e) = IsRefusal (open_named e) given
