-- What an undo or a redo tries.
use Rattle.std.proofs.Common.{◌≡◌, ◌<◌, ◌-◌, ℕ, zero, suc, List, [], ◌∷◌, length, map, Some, None, Ok, Err, ap, subst, arith}
use Rattle.std.specs.Prelude.{slice_get}
use Rattle.std.specs.List.{AllByRecursion}
use Rattle.circular_buffer.specs.Buffer.{last_item}
use Rattle.wb_diagram.specs.declared.commands.Action.TheVariants.{Undo, Redo}
use Rattle.wb_history.specs.Stacks.{Stacks}
use Rattle.wb_spec_check.specs.Checked.{Specification}
use Rattle.wb_store.specs.Contents.{Contents, with_next}
use Rattle.wb_refresh.specs.Outcomes.{Gives}
use Rattle.wb_marks.specs.declared.marks.Marks.{Marks}
use Rattle.wb_session.specs.declared.entries.Entry.{Entry}
use Rattle.wb_session.specs.declared.entries.TriedState.{TriedState}
use Rattle.wb_session.specs.declared.refusal.Refusal.{Refusal}
use Rattle.wb_session.specs.declared.refusal.Refusal.TheVariants as r
use Rattle.wb_session.specs.declared.turn.Turn.{Turn}
use Rattle.wb_session.specs.declared.turn.Turn.TheVariants as turns
use Rattle.wb_session.specs.States.{IsGood, IsGoodBody, State}
use Rattle.wb_session.specs.Tries.{restored, tried}
use Rattle.wb_session.specs.invariants.Keeping.{CanTurn, GoesOn, body_of, state_of, tried_of}
use Rattle.wb_session.proofs.Histories.{last_mapped, none_mapped}

-- what is true of each item is true of the last
at_place : {A : Type 0} (P : A → Type 0) (xs : List A) (k : ℕ) (x : A) → AllByRecursion P xs → slice_get xs k ≡ Some x → P x
at_place P [] k x all e = cc
at_place {A} P (y ∷ ys) zero x all e = let same : y ≡ x = cc in subst P same all.0
at_place P (y ∷ ys) (suc k) x all e = at_place P ys k x all.1 e

some_there : {A : Type 0} (xs : List A) (x : A) → last_item xs ≡ Some x → 0 < length xs
some_there [] x e = absurd cc
some_there (y ∷ ys) x e = omega arith

-- what an entry keeps, with this number for the next object
abbrev pub restored_state : Entry → ℕ → Turn → TriedState
restored_state entry n turn = record { model = with_next n entry.model; marks = entry.marks; created = None; turn = turn }

module _ (gives : Gives) (spec : Specification) (root : ℕ) (m : Contents) (marks : Marks) (revision : ℕ) (h : Stacks Entry) where
  abbrev s : State
  s = state_of spec root m marks revision h

  restores : (entries : List Entry) (way : Turn) (refusal : Refusal) (entry : Entry) → last_item entries ≡ Some entry
      → restored s way refusal (last_item (map body_of entries)) ≡ Ok (tried_of (restored_state entry m.next way))
  restores entries way refusal entry found = ap (restored s way refusal) (last_mapped body_of entries entry found)

  pub undoes : (entry : Entry) → last_item h.past ≡ Some entry → tried gives s Undo ≡ Ok (tried_of (restored_state entry m.next turns.Back))
  unfolding tried
  undoes entry found = restores h.past turns.Back r.NothingToUndo entry found

  pub redoes : (entry : Entry) → last_item h.future ≡ Some entry → tried gives s Redo ≡ Ok (tried_of (restored_state entry m.next turns.Again))
  unfolding tried
  redoes entry found = restores h.future turns.Again r.NothingToRedo entry found

  pub undoes_nothing : last_item h.past ≡ None → tried gives s Undo ≡ Err r.NothingToUndo
  unfolding tried
  undoes_nothing none = ap (restored s turns.Back r.NothingToUndo) (none_mapped body_of h.past none)

  pub redoes_nothing : last_item h.future ≡ None → tried gives s Redo ≡ Err r.NothingToRedo
  unfolding tried
  redoes_nothing none = ap (restored s turns.Again r.NothingToRedo) (none_mapped body_of h.future none)

  -- ---- it goes on

  goes_on_with : (entry : Entry) (way : Turn) → IsGoodBody gives spec root m.next (body_of entry) → CanTurn way s → GoesOn s (restored_state entry m.next way)
  goes_on_with entry way good can = record {
    later = omega arith;
    checked = good.checked;
    root = λ live. good.rooted;
    lawful = good.lawful;
    possible = can;
  }

  kept_good : (entries : List Entry) (entry : Entry) → AllByRecursion (IsGoodBody gives spec root m.next) (map body_of entries) → last_item entries ≡ Some entry → IsGoodBody gives spec root m.next (body_of entry)
  kept_good entries entry all found = at_place (IsGoodBody gives spec root m.next) (map body_of entries) (length (map body_of entries) - 1) (body_of entry) all (last_mapped body_of entries entry found)

  pub undo_goes_on : (entry : Entry) → IsGood gives s → last_item h.past ≡ Some entry → GoesOn s (restored_state entry m.next turns.Back)
  undo_goes_on entry good found = goes_on_with entry turns.Back (kept_good h.past entry good.past found) (some_there (map body_of h.past) (body_of entry) (last_mapped body_of h.past entry found))

  pub redo_goes_on : (entry : Entry) → IsGood gives s → last_item h.future ≡ Some entry → GoesOn s (restored_state entry m.next turns.Again)
  redo_goes_on entry good found = goes_on_with entry turns.Again (kept_good h.future entry good.future found) (some_there (map body_of h.future) (body_of entry) (last_mapped body_of h.future entry found))
