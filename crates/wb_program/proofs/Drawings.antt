-- The picture of a session that was opened, or why none was.
use Rattle.std.proofs.Common.{◌≡◌, ◌∙◌, sym, ap, subst, ℕ, Bool, true, false, cond, List, Option, Some, None, Result, Ok, Err, refl}
use Rattle.wb_base.proofs.Steps.{same_ok}
use Rattle.wb_store.specs.Contents.{Contents}
use Rattle.wb_spec_check.specs.Checked.{Specification}
use Rattle.wb_aql_eval.specs.Outcomes.{outcome_of}
use Rattle.wb_session.specs.declared.opening.OpenRefusal.{OpenRefusal}
use Rattle.wb_session.specs.declared.opening.OpenRefusal.TheVariants.{NoRoot, TooLarge, NoMemory}
use Rattle.wb_session.specs.Opening.{from_root, opened_from, opened_state, opening, root_element}
use Rattle.wb_session.specs.States.{State}
use Rattle.wb_program.specs.declared.answer.Answer.{Answer}
use Rattle.wb_program.specs.Answers.{diagram_too_large, no_root_element}
use Rattle.wb_program.specs.Course.{Course, gives, stops, ◌>>=◌}
use Rattle.wb_program.specs.Drawing.{drawn, is_too_large, picture_answer, picture_of}
use Rattle.wb_program.specs.Opening.{picture_from}
use Rattle.wb_program.specs.Reading.{or_else}

module _ (spec : Specification) (m : Contents) where
  -- the course of a picture from what is found as root element
  abbrev course_from : List ℕ → Option ℕ → Course Answer
  course_from name found = or_else (no_root_element name) found >>= drawn spec m

  opened_by : (root : ℕ) (large : Bool) (s : State) → cond large (Err TooLarge) (let x : Result State OpenRefusal = Ok (opened_state spec m root) in x) ≡ Ok s
      → cond large (stops diagram_too_large) (gives (picture_answer spec m root)) ≡ gives (picture_of s)
  opened_by root true s e = absurd cc
  opened_by root false s e = ap (λ (x : State). gives (picture_of x)) (same_ok {E = OpenRefusal} (opened_state spec m root) s e)

  drawn_from : (name : List ℕ) (found : Option ℕ) (s : State) → from_root outcome_of spec m found ≡ Ok s → course_from name found ≡ gives (picture_of s)
  unfolding ◌>>=◌ drawn opened_from
  drawn_from name (Some root) s e = opened_by root (is_too_large spec m root) s e
  drawn_from name None s e = absurd cc

  pub draws : (name : List ℕ) (s : State) → opening outcome_of spec m ≡ Ok s → picture_from name spec m ≡ gives (picture_of s)
  unfolding picture_from opening
  draws name s e = drawn_from name (root_element m spec.1.domain) s e

  rootless_by : (root : ℕ) (large : Bool) → cond large (Err TooLarge) (let x : Result State OpenRefusal = Ok (opened_state spec m root) in x) ≡ Err NoRoot → ⊥
  rootless_by root true e = cc
  rootless_by root false e = cc

  no_root_from : (name : List ℕ) (found : Option ℕ) → from_root outcome_of spec m found ≡ Err NoRoot → course_from name found ≡ stops (no_root_element name)
  unfolding ◌>>=◌ drawn opened_from
  no_root_from name (Some root) e = absurd (rootless_by root (is_too_large spec m root) e)
  no_root_from name None e = refl

  pub has_no_root : (name : List ℕ) → opening outcome_of spec m ≡ Err NoRoot → picture_from name spec m ≡ stops (no_root_element name)
  unfolding picture_from opening
  has_no_root name e = no_root_from name (root_element m spec.1.domain) e

  large_by : (root : ℕ) (large : Bool) → cond large (Err TooLarge) (let x : Result State OpenRefusal = Ok (opened_state spec m root) in x) ≡ Err TooLarge
      → cond large (stops diagram_too_large) (gives (picture_answer spec m root)) ≡ stops diagram_too_large
  large_by root true e = refl
  large_by root false e = absurd cc

  too_large_from : (name : List ℕ) (found : Option ℕ) → from_root outcome_of spec m found ≡ Err TooLarge → course_from name found ≡ stops diagram_too_large
  unfolding ◌>>=◌ drawn opened_from
  too_large_from name (Some root) e = large_by root (is_too_large spec m root) e
  too_large_from name None e = absurd cc

  pub is_large : (name : List ℕ) → opening outcome_of spec m ≡ Err TooLarge → picture_from name spec m ≡ stops diagram_too_large
  unfolding picture_from opening
  is_large name e = too_large_from name (root_element m spec.1.domain) e
