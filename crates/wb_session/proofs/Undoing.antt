-- Undo and redo give what was.
use Rattle.std.proofs.Common.{◌≡◌, ℕ, List, [], ◌∷◌, ◌++◌, Option, Some, None, Ok, refl, sym, ap, subst, ◌∙◌}
use Rattle.circular_buffer.specs.Buffer.{keep_last, last_item}
use Rattle.wb_base.proofs.Steps.{same_ok}
use Rattle.wb_diagram.specs.declared.commands.Action.TheVariants.{Undo, Redo}
use Rattle.wb_diagram.specs.declared.commands.Command.{Command}
use Rattle.wb_spec_check.specs.Checked.{Specification}
use Rattle.wb_diagram.specs.declared.keys.EdgeKey.{EdgeKey}
use Rattle.wb_diagram.specs.declared.keys.Key.{Key}
use Rattle.wb_refresh.specs.Outcomes.{Gives}
use Rattle.wb_refresh.specs.Subjects.{Setting, Subject, subject_in}
use Rattle.wb_declared.specs.Declarations.{DeclaresAlike, declared_edges, declared_nodes, renumbered}
use Rattle.wb_declared.specs.Marks.{settled as settled_marks}
use Rattle.wb_marks.specs.Marks.{settled}
use Rattle.wb_marks.specs.declared.marks.Marks.{Marks}
use Rattle.wb_session.specs.declared.refusal.Refusal.{Refusal}
use Rattle.wb_session.specs.declared.refusal.Refusal.TheVariants as r
use Rattle.wb_session.specs.declared.turn.Turn.{Turn}
use Rattle.wb_session.specs.declared.turn.Turn.TheVariants as turns
use Rattle.wb_session.specs.Laws.{IsForward, redo, undo}
use Rattle.wb_session.specs.States.{AreSettled, Body, IsGood, State, subject_at, subject_of}
use Rattle.wb_session.specs.Steps.{Stepped, accepted, future_after, past_after, settled_body, step}
use Rattle.wb_session.specs.Tries.{Tried, restored, tried}
use Rattle.wb_session.proofs.Lists.{last_kept, last_of_more}
use Rattle.wb_session.proofs.Settling.{becomes_settled, settled_stays}
use Rattle.wb_session.proofs.Taking.{goes_forward, taken}

restored_is : (s : State) (turn : Turn) (refusal : Refusal) (found : Option Body) (b : Body) (a : Tried) → found ≡ Some b → restored s turn refusal found ≡ Ok a
    → record { next = s.next; body = b; created = None; turn = turn } ≡ a
restored_is s turn refusal found b a e h = same_ok {E = Refusal} (record { next = s.next; body = b; created = None; turn = turn }) a (subst (λ (x : Option Body). restored s turn refusal x ≡ Ok a) e h)

undo_tried : (gives : Gives) (s : State) (b : Body) (a : Tried) → last_item s.past ≡ Some b → tried gives s Undo ≡ Ok a → record { next = s.next; body = b; created = None; turn = turns.Back } ≡ a
unfolding tried
undo_tried gives s b a e h = restored_is s turns.Back r.NothingToUndo (last_item s.past) b a e h

redo_tried : (gives : Gives) (s : State) (b : Body) (a : Tried) → last_item s.future ≡ Some b → tried gives s Redo ≡ Ok a → record { next = s.next; body = b; created = None; turn = turns.Again } ≡ a
unfolding tried
redo_tried gives s b a e h = restored_is s turns.Again r.NothingToRedo (last_item s.future) b a e h

module _ (gives : Gives) (unseen : (s : Subject) (next : ℕ) → DeclaresAlike gives s (renumbered next s)) where
  -- the body where only the next number is another
  abbrev body_with : Body → Marks → Body
  body_with b marks = record { model = b.model; marks = marks }

  -- a settled body stays as it is, whatever number the next object gets
  settles_to : (spec : Specification) (root n k : ℕ) (b : Body) → AreSettled gives (subject_at spec root n b) b.marks → settled_body gives (subject_at spec root k b) b ≡ b
  settles_to spec root n k b h =
      let alike = unseen (subject_at spec root n b) k in
      ap (λ (ns : List Key). body_with b (settled ns (declared_edges gives (subject_at spec root k b)) b.marks)) alike.nodes
      ∙ (ap (λ (es : List EdgeKey). body_with b (settled (declared_nodes gives (subject_at spec root n b)) es b.marks)) alike.edges
      ∙ ap (body_with b) (settled_stays gives (subject_at spec root n b) b.marks h))

  -- what an accepted command leaves is its settled body, in the same viewpoint, with the same root element
  abbrev settled_at : State → Body → Body
  settled_at s b = settled_body gives (subject_at s.spec s.root s.next b) b

  accepted_body : (s : State) (next : ℕ) (b : Body) (created : Option ℕ) (turn : Turn)
      → (accepted gives s (record { next = next; body = b; created = created; turn = turn })).body ≡ settled_body gives (subject_at s.spec s.root next b) b
  unfolding accepted
  accepted_body s next b created turn = refl

  accepted_past : (s : State) (a : Tried) → a.turn ≡ turns.Forward → (accepted gives s a).past ≡ keep_last 100 (s.past ++ s.body ∷ [])
  unfolding accepted
  accepted_past s a e = ap (λ (x : Turn). past_after x s) e

  accepted_future : (s : State) (a : Tried) → a.turn ≡ turns.Back → (accepted gives s a).future ≡ s.future ++ s.body ∷ []
  unfolding accepted
  accepted_future s a e = ap (λ (x : Turn). future_after x s) e

  -- a body settles in an accepted state as in the state before, but for the next number
  settles_after : (s : State) (a : Tried) (b : Body) → settled_at (accepted gives s a) b ≡ settled_body gives (subject_at s.spec s.root a.next b) b
  unfolding accepted
  settles_after s a b = refl

  pub undo_gives : (s : State) (command : Command) (t u : Stepped) → IsGood gives s → IsForward command.action
      → step gives s command ≡ Ok t → step gives t.state (undo t.state.revision) ≡ Ok u → u.state.body ≡ s.body
  undo_gives s command t u good f one two =
      let x = taken gives s command t one in
      let y = taken gives t.state (undo t.state.revision) u two in
      let past : t.state.past ≡ keep_last 100 (s.past ++ s.body ∷ []) = ap (λ (z : State). z.past) (sym x.new_is) ∙ accepted_past s x.a (goes_forward gives s command.action x.a f x.tried_is) in
      let found : last_item t.state.past ≡ Some s.body = ap last_item past ∙ last_kept s.past s.body in
      let is = undo_tried gives t.state s.body y.a found y.tried_is in
      ap (λ (z : State). z.body) (sym y.new_is)
      ∙ (ap (λ (a : Tried). (accepted gives t.state a).body) (sym is)
      ∙ (accepted_body t.state t.state.next s.body None turns.Back
      ∙ (ap (λ (z : State). settled_at z s.body) (sym x.new_is)
      ∙ (settles_after s x.a s.body
      ∙ settles_to s.spec s.root s.next x.a.next s.body good.body.settled))))

  module _ (undropped : (st : Setting) (shown : List Key) → DeclaresAlike gives (subject_in st shown) (subject_in st (settled_marks gives st shown))) where
    -- what is accepted is settled
    accepted_is_settled : (s : State) (a : Tried) → AreSettled gives (subject_of (accepted gives s a)) (accepted gives s a).body.marks
    unfolding accepted
    accepted_is_settled s a = becomes_settled gives undropped s.spec s.root a.next a.body

    pub redo_gives : (s : State) (command : Command) (t u v : Stepped) → IsGood gives s → IsForward command.action
        → step gives s command ≡ Ok t → step gives t.state (undo t.state.revision) ≡ Ok u → step gives u.state (redo u.state.revision) ≡ Ok v → v.state.body ≡ t.state.body
    redo_gives s command t u v good f one two three =
        let x = taken gives s command t one in
        let y = taken gives t.state (undo t.state.revision) u two in
        let w = taken gives u.state (redo u.state.revision) v three in
        let past : t.state.past ≡ keep_last 100 (s.past ++ s.body ∷ []) = ap (λ (z : State). z.past) (sym x.new_is) ∙ accepted_past s x.a (goes_forward gives s command.action x.a f x.tried_is) in
        let back = undo_tried gives t.state s.body y.a (ap last_item past ∙ last_kept s.past s.body) y.tried_is in
        let future : u.state.future ≡ t.state.future ++ t.state.body ∷ [] = ap (λ (z : State). z.future) (sym y.new_is) ∙ accepted_future t.state y.a (ap (λ (a : Tried). a.turn) (sym back)) in
        let is = redo_tried gives u.state t.state.body w.a (ap last_item future ∙ last_of_more t.state.future t.state.body) w.tried_is in
        let settled_t : AreSettled gives (subject_of t.state) t.state.body.marks = subst (λ (z : State). AreSettled gives (subject_of z) z.body.marks) x.new_is (accepted_is_settled s x.a) in
        ap (λ (z : State). z.body) (sym w.new_is)
        ∙ (ap (λ (a : Tried). (accepted gives u.state a).body) (sym is)
        ∙ (accepted_body u.state u.state.next t.state.body None turns.Again
        ∙ (ap (λ (z : State). settled_at z t.state.body) (sym y.new_is)
        ∙ (settles_after t.state y.a t.state.body
        ∙ settles_to t.state.spec t.state.root t.state.next y.a.next t.state.body settled_t))))
