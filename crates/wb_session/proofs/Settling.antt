-- Marks that are settled, and lawful ones.
use Rattle.std.proofs.Common.{◌≡◌, ℕ, List, sym, subst}
use Rattle.wb_diagram.specs.declared.keys.EdgeKey.{EdgeKey}
use Rattle.wb_diagram.specs.declared.keys.Key.{Key}
use Rattle.wb_spec_check.specs.Checked.{Specification}
use Rattle.wb_refresh.specs.Outcomes.{Gives}
use Rattle.wb_refresh.specs.Subjects.{Setting, Subject, setting, subject_in}
use Rattle.wb_declared.specs.Declarations.{DeclaresAlike, declared_edges, declared_nodes}
use Rattle.wb_declared.specs.Marks.{settled as settled_marks}
use Rattle.wb_marks.specs.Marks.{AreOf, settled}
use Rattle.wb_marks.specs.declared.marks.Marks.{Marks}
use Rattle.wb_marks.proofs.Settled.{settled_of, settled_stay}
use Rattle.wb_session.specs.States.{AreSettled, Body, model_at, subject_at}
use Rattle.wb_session.specs.Steps.{settled_body}

module _ (gives : Gives) where
  -- marks that are settled in one subject are settled in another of which the same is declared
  pub settled_alike : (a b : Subject) (marks : Marks) → DeclaresAlike gives a b → AreSettled gives a marks → AreSettled gives b marks
  settled_alike a b marks alike h =
      subst (λ (ns : List Key). AreOf ns (declared_edges gives b) marks) (sym alike.nodes)
      (subst (λ (es : List EdgeKey). AreOf (declared_nodes gives a) es marks) (sym alike.edges) h)

  module _ (undropped : (st : Setting) (shown : List Key) → DeclaresAlike gives (subject_in st shown) (subject_in st (settled_marks gives st shown))) where
    -- a body that is settled for what it declares declares the same
    pub settling_declares_alike : (spec : Specification) (root next : ℕ) (b : Body)
        → DeclaresAlike gives (subject_at spec root next b) (subject_at spec root next (settled_body gives (subject_at spec root next b) b))
    settling_declares_alike spec root next b = undropped (setting spec (model_at next b) root) b.marks.shown

    pub becomes_settled : (spec : Specification) (root next : ℕ) (b : Body)
        → AreSettled gives (subject_at spec root next (settled_body gives (subject_at spec root next b) b)) (settled_body gives (subject_at spec root next b) b).marks
    becomes_settled spec root next b =
        let s = subject_at spec root next b in
        settled_alike s (subject_at spec root next (settled_body gives s b)) (settled_body gives s b).marks (settling_declares_alike spec root next b)
        (settled_of (declared_nodes gives s) (declared_edges gives s) b.marks)

  -- settled marks stay
  pub settled_stays : (s : Subject) (marks : Marks) → AreSettled gives s marks → settled (declared_nodes gives s) (declared_edges gives s) marks ≡ marks
  settled_stays s marks h = settled_stay (declared_nodes gives s) (declared_edges gives s) marks h
