-- A state that was tried becomes the session's.
use Rattle.std.proofs.Common.{◌≡◌, ◌≤◌, ◌<◌, ◌+◌, ℕ, Bool, true, false, not, nat_eq, nat_le, cond, map, Result, Ok, Err, refl, sym, ap, subst, ◌∙◌, arith}
use Rattle.std.specs.Prelude.{⊤}
use Rattle.wb_history.specs.Stacks.{Stacks}
use Rattle.wb_store.specs.Contents.{Contents}
use Rattle.wb_spec_check.specs.Checked.{Specification}
use Rattle.wb_refresh.specs.Openings.{IsOpened, Kept}
use Rattle.wb_refresh.specs.Outcomes.{Gives}
use Rattle.wb_refresh.specs.Subjects.{Subject, subject}
use Rattle.wb_declared.specs.Declarations.{DeclaresAlike, renumbered}
use Rattle.wb_marks.specs.declared.marks.Marks.{Marks}
use Rattle.wb_session.specs.declared.entries.Entry.{Entry}
use Rattle.wb_session.specs.declared.entries.TriedState.{TriedState}
use Rattle.wb_session.specs.declared.refusal.Refusal.{Refusal}
use Rattle.wb_session.specs.declared.refusal.Refusal.TheVariants as r
use Rattle.wb_session.specs.declared.turn.Turn.{Turn}
use Rattle.wb_session.specs.States.{IsGood, IsGoodBody, State, body, subject_at}
use Rattle.wb_session.specs.Planning.{state_after}
use Rattle.wb_session.specs.Steps.{accepted, current, future_after, past_after, settled_body}
use Rattle.wb_session.specs.invariants.Keeping.{CanTurn, IsKept, body_of, state_of, tried_of, turned}
use Rattle.wb_session.proofs.Goods.{good_after}
use Rattle.wb_session.proofs.Histories.{capacity_stays, future_goes_on, future_older, past_goes_on, past_older}

-- ---- the new memory

module _ (s : State) (spec : Specification) (root : ℕ) (m : Contents) (marks : Marks) (revision : ℕ) (h : Stacks Entry) (is : state_of spec root m marks revision h ≡ s)
    (n : Contents) (left : Marks) (turn : Turn) (full : h.capacity ≡ 100) where
  abbrev entry : Entry
  entry = record { model = m; marks = marks }

  pub becomes : state_of spec root n left (revision + 1) (turned turn entry h) ≡ state_after s n left turn
  becomes = subst (λ (s : State). state_of spec root n left (revision + 1) (turned turn entry h) ≡ state_after s n left turn) is
      (ap (λ p. let x : State = record { spec = spec; root = root; next = n.next; body = body n left; revision = revision + 1; past = p; future = map body_of (turned turn entry h).future } in x) (past_goes_on spec root m marks revision h turn full)
      ∙ ap (λ f. let x : State = record { spec = spec; root = root; next = n.next; body = body n left; revision = revision + 1; past = past_after turn (state_of spec root m marks revision h); future = f } in x) (future_goes_on spec root m marks revision h turn))

  module _ (gives : Gives) (unseen : (s : Subject) (next : ℕ) → DeclaresAlike gives s (renumbered next s)) (old new : Kept) (kept : IsKept gives spec root m marks revision h old) where
    pub stays_kept : IsGoodBody gives s.spec s.root n.next (body n left) → IsOpened gives (subject s.spec n s.root left.shown) new → s.next ≤ n.next → s.revision < 9007199254740991 → CanTurn turn s
        → IsKept gives spec root n left (revision + 1) (turned turn entry h) new
    stays_kept good opened later rises can =
        let later_ : m.next ≤ n.next = subst (λ (s : State). s.next ≤ n.next) (sym is) later in
        let s_good : IsGood gives s = subst (IsGood gives) is kept.good in
        let new_good : IsGood gives (state_after s n left turn) = good_after gives unseen s n.next (s.revision + 1) (body n left) later (omega (arith, rises)) s_good good turn can in
        record {
          good = subst (IsGood gives) (sym becomes) new_good;
          opened = subst (λ (s : State). IsOpened gives (subject s.spec n s.root left.shown) new) (sym is) opened;
          past = past_older spec root m marks revision h turn n.next later_ kept.past;
          future = future_older spec root m marks revision h turn n.next later_ kept.future;
          capacity = capacity_stays spec root m marks revision h turn entry ∙ kept.capacity;
        }

-- ---- the revision

rises_by : (b c : Bool) (n : ℕ) → nat_le 9007199254740991 n ≡ c → cond (not b) (Err r.Stale) (cond c (Err r.RevisionsSpent) (let x : Result ⊤ Refusal = Ok tt in x)) ≡ Ok tt → n < 9007199254740991
rises_by true true n e h = absurd cc
rises_by true false n e h = grind arith
rises_by false c n e h = absurd cc

pub can_rise : (s : State) (revision : ℕ) → current s revision ≡ Ok tt → s.revision < 9007199254740991
unfolding current
can_rise s revision e = rises_by (nat_eq revision s.revision) (nat_le 9007199254740991 s.revision) s.revision refl e

-- ---- the whole

pub accepts : (gives : Gives) (s : State) (a : TriedState) (left : Marks)
    → body a.model left ≡ settled_body gives (subject_at s.spec s.root a.model.next (tried_of a).body) (tried_of a).body → accepted gives s (tried_of a) ≡ state_after s a.model left a.turn
unfolding accepted
accepts gives s a left e =
    ap (λ b. let x : State = record { spec = s.spec; root = s.root; next = a.model.next; body = b; revision = s.revision + 1; past = past_after a.turn s; future = future_after a.turn s } in x) (sym e)
