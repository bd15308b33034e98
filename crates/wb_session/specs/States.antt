-- A state of a session, its body, and what is true of a good one.
use Rattle.std.specs.Prelude.{◌≡◌, ◌+◌, ◌≤◌, ℕ, Bool, true, false, List, length, IsSome, IfSome}
use Rattle.std.specs.FinMap as positions
use Rattle.std.specs.List.{AllByRecursion}
use Rattle.std.specs.Option.{option_map_or}
use Rattle.wb_store.specs.Contents.{Contents, with_next}
use Rattle.wb_validity.specs.Valid.{IsValid, conforms_to}
use Rattle.wb_diagram.specs.declared.keys.AnyKey.{AnyKey}
use Rattle.wb_diagram.specs.declared.keys.AnyKey.TheVariants.{Node}
use Rattle.wb_diagram.specs.declared.keys.Key.{Key}
use Rattle.wb_spec_check.specs.Checked.{IsCheckedBy, Specification}
use Rattle.wb_spec_check.specs.Units.{mapping_of_key}
use Rattle.wb_layout.specs.Positions.{IsInRange}
use Rattle.wb_refresh.specs.Openings.{is_too_large}
use Rattle.wb_refresh.specs.Outcomes.{Gives}
use Rattle.wb_refresh.specs.Subjects.{Subject, subject}
use Rattle.wb_declared.specs.Declarations.{declared_edges, declared_nodes}
use Rattle.wb_marks.specs.Marks as marks
use Rattle.wb_marks.specs.Marks.{AreDistinct, AreOf}
use Rattle.wb_marks.specs.declared.marks.Marks.{Marks}
use Rattle.wb_targets.specs.Targets.{is_placeable, is_unsynchronised}

-- what an undo restores: a model, but for the number that its next object gets, and what users put on the diagram
pub record Body : Type 0 where
  pub model : Contents
  pub marks : Marks

-- a body under a viewpoint, with what was before it and what was undone, the newest last
pub record State : Type 0 where
  pub spec : Specification
  pub root : ℕ
  -- the number that the next object gets
  pub next : ℕ
  pub body : Body
  -- the number of accepted commands
  pub revision : ℕ
  pub past : List Body
  pub future : List Body

-- a body says nothing of the next number: it has 0 there
abbrev pub body : Contents → Marks → Body
body m marks = record { model = with_next 0 m; marks = marks }

abbrev pub model_at : (next : ℕ) → Body → Contents
model_at next b = with_next next b.model

abbrev pub model_of : State → Contents
model_of s = model_at s.next s.body

-- ---- the diagram of a body

abbrev pub subject_at : Specification → (root next : ℕ) → Body → Subject
subject_at spec root next b = subject spec (model_at next b) root b.marks.shown

abbrev pub subject_of : State → Subject
subject_of s = subject_at s.spec s.root s.next s.body

-- is the element or edge declared?
abbrev pub is_declared : Gives → Subject → AnyKey → Bool
is_declared gives s key = marks.is_declared (declared_nodes gives s) (declared_edges gives s) key

-- ---- good states

-- shown marks stand in unsynchronised mappings, and positions on what can be placed; nothing is marked or switched twice
pub record AreLawful (spec : Specification) (marks : Marks) : Type 0 where
  pub shown : AllByRecursion (λ (key : Key). option_map_or (is_unsynchronised spec) (mapping_of_key (Node key)) false ≡ true) marks.shown
  pub placed : (key : Key) → IsSome (positions.get marks.layout key) → is_placeable spec key ≡ true
  pub distinct : AreDistinct marks

-- each mark and position stands on what is declared
abbrev pub AreSettled : Gives → Subject → Marks → Type 0
AreSettled gives s m = AreOf (declared_nodes gives s) (declared_edges gives s) m

module _ (gives : Gives) where
  -- the model is valid, its root element is live and of the domain class, the diagram is not too large, and its marks are settled
  pub record IsGoodBody (spec : Specification) (root next : ℕ) (b : Body) : Type 0 where
    pub checked : IsCheckedBy b.model.metamodel spec
    pub valid : IsValid (model_at next b)
    pub rooted : conforms_to b.model spec.1.domain root ≡ true
    pub fits : is_too_large gives (subject_at spec root next b) ≡ false
    pub settled : AreSettled gives (subject_at spec root next b) b.marks
    pub lawful : AreLawful spec b.marks
    pub in_range : (key : Key) → IfSome (positions.get b.marks.layout key) IsInRange

  -- the same holds of every body in past and future, whose objects' numbers are less than the next, and together they are at most 100
  pub record IsGood (s : State) : Type 0 where
    pub body : IsGoodBody s.spec s.root s.next s.body
    pub past : AllByRecursion (IsGoodBody s.spec s.root s.next) s.past
    pub future : AllByRecursion (IsGoodBody s.spec s.root s.next) s.future
    pub together : length s.past + length s.future ≤ 100
    pub revision : s.revision ≤ 9007199254740991
