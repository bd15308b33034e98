-- What a tool that is asked for makes.
use Rattle.std.proofs.Common.{◌≡◌, ◌≤◌, ℕ, true, None, sym, subst}
use Rattle.wb_metamodel.specs.Metamodel.{Metamodel, conforms}
use Rattle.wb_metamodel.specs.WellFormed.{WellFormed}
use Rattle.wb_store.specs.Contents.{Contents}
use Rattle.wb_validity.specs.Valid.{IsValid, conforms_to}
use Rattle.wb_model.specs.EditLaws.{AreEdited}
use Rattle.wb_model.proofs.EditLaws.{same_metamodel-many}
use Rattle.wb_model.proofs.KeptLinks.{sound}
use Rattle.wb_model.proofs.Live.{kind-at, live-below, some-kind}
use Rattle.wb_spec_check.specs.Checked.{IsCheckedBy}
use Rattle.wb_session.specs.declared.entries.TriedState.{TriedState}
use Rattle.wb_session.specs.declared.turn.Turn.TheVariants as turns
use Rattle.wb_session.specs.States.{AreLawful, State, model_of}
use Rattle.wb_session.specs.invariants.Keeping.{GoesOn}
use Rattle.wb_session.proofs.Rooted.{conforms_through}

-- ---- what it makes

abbrev pub onward : State → Contents → TriedState
onward s n = record { model = n; marks = s.body.marks; created = None; turn = turns.Forward }

-- ---- it goes on

pub tool_goes_on : (s : State) (n : Contents) → WellFormed s.body.model.metamodel → IsValid (model_of s) → AreLawful s.spec s.body.marks → conforms_to (model_of s) s.spec.1.domain s.root ≡ true
    → AreEdited (model_of s) n → s.next ≤ n.next → IsCheckedBy s.body.model.metamodel s.spec → GoesOn s (onward s n)
tool_goes_on s n well valid lawful rooted edited later checked =
    let there = kind-at (model_of s) s.root (λ (d : ℕ). conforms s.body.model.metamodel d s.spec.1.domain) rooted in
    let below = live-below (model_of s) (sound (model_of s) valid) s.root (some-kind (model_of s) s.root there.0 there.1) in
    record {
      later = later;
      checked = subst (λ (mm : Metamodel). IsCheckedBy mm s.spec) (sym (same_metamodel-many (model_of s) n edited)) checked;
      root = λ live. conforms_through (model_of s) n s.spec.1.domain s.root well valid edited below rooted live;
      lawful = lawful;
      possible = tt;
    }
