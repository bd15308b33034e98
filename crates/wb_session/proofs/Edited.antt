-- What an edit that is asked for makes.
use Rattle.std.proofs.Common.{◌≡◌, ◌≤◌, ◌∙◌, ℕ, true, Option, Some, None, Result, Ok, Err, sym, ap}
use Rattle.std.specs.Option.{option_map_or, option_transpose}
use Rattle.wb_base.specs.Answering.{IsRefusal}
use Rattle.wb_diagram.specs.declared.commands.Action.{Action}
use Rattle.wb_metamodel.specs.WellFormed.{WellFormed}
use Rattle.wb_store.specs.Contents.{Contents}
use Rattle.wb_validity.specs.Valid.{IsValid, conforms_to}
use Rattle.wb_model.specs.declared.edits.edit.Edit.{Edit}
use Rattle.wb_model.specs.declared.refusals.ModelRefusal.{ModelRefusal}
use Rattle.wb_model.specs.declared.refusals.ModelRefusal.TheVariants as m
use Rattle.wb_model.specs.Edits as edits
use Rattle.wb_model.specs.Edits.{is_live}
use Rattle.wb_model.specs.GivenEdits.{edit_of, number_made}
use Rattle.wb_spec_check.specs.Checked.{IsCheckedBy}
use Rattle.wb_command_edits.specs.NamedEdits.{edit_named}
use Rattle.wb_command_edits.specs.declared.refusal.NameRefusal.{NameRefusal}
use Rattle.wb_session.specs.declared.entries.TriedState.{TriedState}
use Rattle.wb_session.specs.declared.turn.Turn.TheVariants as turns
use Rattle.wb_session.specs.Answering.{named, of_edit}
use Rattle.wb_session.specs.States.{AreLawful, State, model_of}
use Rattle.wb_session.specs.Tries.{after_edit, asked_edit, by_name, edited, marked}
use Rattle.wb_session.specs.invariants.Keeping.{GoesOn, tried_of}
use Rattle.wb_session.proofs.Rooted.{conforms_still}

-- ---- an edit that is asked for

transposed : {A E : Type 0} (o : Option (Result A E)) (x : A) → option_transpose o ≡ Ok (Some x) → o ≡ Some (Ok x)
transposed None x e = cc
transposed (Some (Ok y)) x e = cc
transposed (Some (Err r)) x e = cc

pub asked_is_edited : (s : State) (action : Action) (edit : Edit) → option_transpose (edit_named (model_of s) action) ≡ Ok (Some edit) → asked_edit s action ≡ edited s edit
unfolding asked_edit
asked_is_edited s action edit e = ap (λ (o : Option (Result Edit NameRefusal)). option_map_or (by_name s) o (marked s s.body.marks)) (transposed (edit_named (model_of s) action) edit e)

-- ---- what it makes

abbrev pub onward : State → Contents → Option ℕ → TriedState
onward s n created = record { model = n; marks = s.body.marks; created = created; turn = turns.Forward }

pub edited_is : (s : State) (edit : Edit) (n : Contents) (created : Option ℕ) → edit_of edit (model_of s) ≡ Ok n → created ≡ number_made edit (model_of s) → edited s edit ≡ Ok (tried_of (onward s n created))
edited_is s edit n created e made =
    ap (after_edit s (number_made edit (model_of s))) e ∙ ap (λ (c : Option ℕ). after_edit s c (Ok n)) (sym made)

-- ---- why it is refused

refused_by : (s : State) (created : Option ℕ) (given : Result Contents ModelRefusal) (refusal : ModelRefusal) → IsRefusal (edits.named refusal) given → IsRefusal (named (of_edit refusal)) (after_edit s created given)
refused_by s created given m.UnknownObject e = ap (after_edit s created) e
refused_by s created given m.KindMismatch e = ap (after_edit s created) e
refused_by s created given m.UpperBound e = ap (after_edit s created) e
refused_by s created given m.ContainmentCycle e = ap (after_edit s created) e
refused_by s created given m.AbstractClass e = ap (after_edit s created) e
refused_by s created given m.TooManyObjects e = ap (after_edit s created) e
refused_by s created given m.IdsSpent e = ap (after_edit s created) e
refused_by s created given m.NoMemory e = tt

pub edit_refused : (s : State) (edit : Edit) (refusal : ModelRefusal) → IsRefusal (edits.named refusal) (edit_of edit (model_of s)) → IsRefusal (named (of_edit refusal)) (edited s edit)
edit_refused s edit refusal e = refused_by s (number_made edit (model_of s)) (edit_of edit (model_of s)) refusal e

-- ---- it goes on

pub edit_goes_on : (s : State) (edit : Edit) (n : Contents) (created : Option ℕ) → WellFormed s.body.model.metamodel → IsValid (model_of s) → AreLawful s.spec s.body.marks
    → conforms_to (model_of s) s.spec.1.domain s.root ≡ true → edit_of edit (model_of s) ≡ Ok n → s.next ≤ n.next → IsCheckedBy n.metamodel s.spec → GoesOn s (onward s n created)
edit_goes_on s edit n created well valid lawful rooted e later checked = record {
  later = later;
  checked = checked;
  root = λ live. conforms_still edit (model_of s) n s.spec.1.domain s.root well valid e rooted live;
  lawful = lawful;
  possible = tt;
}
