-- Runs of what is done one after another.
use Rattle.std.proofs.Common.{◌≡◌, ◌≤◌, ◌+◌, ℕ, Bool, true, false, nat_le, if◌then◌else◌, List, [], ◌∷◌, Option, Some, None, Result, Ok, Err, refl, sym, ap, subst, ◌∙◌, arith}
use Rattle.std.specs.Prelude.{option_map}
use Rattle.std.specs.Result.{IsErrAnd}
use Rattle.std.proofs.lemmas.Bool.{leb-false}
use Rattle.wb_base.specs.Answering.{IsRefusal}
use Rattle.wb_store.specs.Contents.{Contents}
use Rattle.wb_model.specs.Edits as model
use Rattle.wb_model.specs.EditLaws.{IsEdited, AreEdited}
use Rattle.wb_model.specs.EditLaws.AreEdited.{by_none, by_more}
use Rattle.wb_model.specs.declared.edits.edit.Edit.{Edit}
use Rattle.wb_model.specs.declared.refusals.ModelRefusal.{ModelRefusal}
use Rattle.wb_model.specs.declared.refusals.ModelRefusal.TheVariants as e
use Rattle.wb_model.proofs.EditLaws.{numbers-fresh}
use Rattle.wb_model.proofs.GivenEdits.{given-edited}
use Rattle.wb_aql_values.specs.declared.faults.Fault.{Fault}
use Rattle.wb_aql_values.specs.declared.values.Value.{Value}
use Rattle.wb_aql_eval.specs.declared.env.Env.{Env}
use Rattle.wb_spec_check.specs.Units.{Expression}
use Rattle.wb_tools.specs.Doings.{Doing, done, refuse, evaluate, edit, look, asked, edited, given, each, ◌>>=◌}
use Rattle.wb_tools.specs.Runs.{Outcomes, Work, work, Ended, went, stopped, total, one_expression_more, one_edit_more, answer_at, edit_at, evaluated, changed, made, onward, run, named, IsStop, Went, Counts}
use Rattle.wb_tools.specs.declared.refusals.ToolRefusal.{ToolRefusal}
use Rattle.wb_tools.specs.declared.refusals.ToolRefusal.TheVariants as r
use Rattle.wb_tools.specs.declared.tally.Tally.{Tally}

-- ---- the count never falls

pub answer_grows : (place : ℕ) (answer : Result Value Fault) (w : Work) → w.tally.expressions ≤ total (answer_at place answer w)
answer_grows place (Ok v) w = omega arith
answer_grows place (Err fault) w = omega arith

choice_grows : {A : Type 0} (b : Bool) (n : ℕ) (first second : Ended A) → n ≤ total first → n ≤ total second → n ≤ total (if b then first else second)
choice_grows true n first second h k = h
choice_grows false n first second h k = k

pub edit_grows : (place o : ℕ) (outcome : Result Contents ModelRefusal) (t : Tally) → t.expressions ≤ total (edit_at place o outcome t)
edit_grows place o (Ok m) t = omega arith
edit_grows place o (Err refusal) t = omega arith

module _ (out : Outcomes) where
  evaluated_grows : (place : ℕ) (e : Expression) (env : Env) (w : Work) → w.tally.expressions ≤ total (evaluated out place e env w)
  unfolding evaluated
  evaluated_grows place e env w =
      choice_grows (nat_le 1000000 w.tally.expressions) w.tally.expressions (stopped r.ToolTooLong w.tally.expressions) (answer_at place (out e env w.model).gave (work w.model (one_expression_more w.tally))) (omega arith)
      (let h : w.tally.expressions + 1 ≤ total (answer_at place (out e env w.model).gave (work w.model (one_expression_more w.tally))) = answer_grows place (out e env w.model).gave (work w.model (one_expression_more w.tally)) in omega arith)

  changed_grows : (place : ℕ) (change : Result Edit ModelRefusal) (w : Work) → w.tally.expressions ≤ total (changed place change w)
  unfolding changed
  changed_grows place change w =
      choice_grows (nat_le 10000 w.tally.edits) w.tally.expressions (stopped r.ToolTooLong w.tally.expressions) (edit_at place w.model.next (made change w.model) (one_edit_more w.tally)) (omega arith)
      (edit_grows place w.model.next (made change w.model) (one_edit_more w.tally))

  onward_grows : {A B : Type 0} (n : ℕ) (ended : Ended A) (next : A → Work → Ended B) → n ≤ total ended → ((x : A) (w : Work) → w.tally.expressions ≤ total (next x w)) → n ≤ total (onward ended next)
  onward_grows n (went x w) next h k = let l = k x w in omega arith
  onward_grows n (stopped refusal m) next h k = h

  pub grows : {A : Type 0} (d : Doing A) (w : Work) → w.tally.expressions ≤ total (run out d w)
  unfolding run
  grows (done x) w = omega arith
  grows (refuse refusal) w = omega arith
  grows (evaluate place e env next) w = onward_grows w.tally.expressions (evaluated out place e env w) (λ v. run out (next v)) (evaluated_grows place e env w) (λ v. grows (next v))
  grows (look next) w = grows (next w.model) w
  grows (edit place change next) w = onward_grows w.tally.expressions (changed place change w) (λ o. run out (next o)) (changed_grows place change w) (λ o. grows (next o))

  -- ---- expressions are few

  answer_few : (place : ℕ) (answer : Result Value Fault) (w : Work) → w.tally.expressions ≤ 1000000 → total (answer_at place answer w) ≤ 1000000
  answer_few place (Ok v) w h = h
  answer_few place (Err fault) w h = h

  edit_few : (place o : ℕ) (outcome : Result Contents ModelRefusal) (t : Tally) → t.expressions ≤ 1000000 → total (edit_at place o outcome t) ≤ 1000000
  edit_few place o (Ok m) t h = h
  edit_few place o (Err refusal) t h = h

  choice_few : {A : Type 0} (b : Bool) (first second : Ended A) → total first ≤ 1000000 → (b ≡ false → total second ≤ 1000000) → total (if b then first else second) ≤ 1000000
  choice_few true first second h k = h
  choice_few false first second h k = k refl

  evaluated_few : (place : ℕ) (e : Expression) (env : Env) (w : Work) → w.tally.expressions ≤ 1000000 → total (evaluated out place e env w) ≤ 1000000
  unfolding evaluated
  evaluated_few place e env w h =
      choice_few (nat_le 1000000 w.tally.expressions) (stopped r.ToolTooLong w.tally.expressions) (answer_at place (out e env w.model).gave (work w.model (one_expression_more w.tally))) h
      (λ less. answer_few place (out e env w.model).gave (work w.model (one_expression_more w.tally)) (let below = leb-false 1000000 w.tally.expressions less in omega (arith, below)))

  changed_few : (place : ℕ) (change : Result Edit ModelRefusal) (w : Work) → w.tally.expressions ≤ 1000000 → total (changed place change w) ≤ 1000000
  unfolding changed
  changed_few place change w h =
      choice_few (nat_le 10000 w.tally.edits) (stopped r.ToolTooLong w.tally.expressions) (edit_at place w.model.next (made change w.model) (one_edit_more w.tally)) h
      (λ less. edit_few place w.model.next (made change w.model) (one_edit_more w.tally) h)

  onward_few : {A B : Type 0} (ended : Ended A) (next : A → Work → Ended B) → total ended ≤ 1000000 → ((x : A) (w : Work) → w.tally.expressions ≤ 1000000 → total (next x w) ≤ 1000000) → total (onward ended next) ≤ 1000000
  onward_few (went x w) next h k = k x w h
  onward_few (stopped refusal n) next h k = h

  -- the count never passes its limit
  pub few : {A : Type 0} (d : Doing A) (w : Work) → w.tally.expressions ≤ 1000000 → total (run out d w) ≤ 1000000
  unfolding run
  few (done x) w h = h
  few (refuse refusal) w h = h
  few (evaluate place e env next) w h = onward_few (evaluated out place e env w) (λ v. run out (next v)) (evaluated_few place e env w h) (λ v. few (next v))
  few (look next) w h = few (next w.model) w h
  few (edit place change next) w h = onward_few (changed place change w) (λ o. run out (next o)) (changed_few place change w h) (λ o. few (next o))

  -- ---- one after another

  onward_onward : {A B C : Type 0} (ended : Ended A) (f : A → Work → Ended B) (g : A → Work → Ended C) (h : B → Work → Ended C) → ((x : A) (w : Work) → g x w ≡ onward (f x w) h) → onward ended g ≡ onward (onward ended f) h
  onward_onward (went x w) f g h k = k x w
  onward_onward (stopped refusal n) f g h k = refl

  module _ {A B : Type 0} (next : A → Doing B) where
    pub goes_on : (d : Doing A) (w : Work) → run out (d >>= next) w ≡ onward (run out d w) (λ x. run out (next x))
    unfolding run ◌>>=◌
    goes_on (done x) w = refl
    goes_on (refuse refusal) w = refl
    goes_on (evaluate place e env through) w = onward_onward (evaluated out place e env w) (λ v. run out (through v)) (λ v. run out (through v >>= next)) (λ x. run out (next x)) (λ v. goes_on (through v))
    goes_on (look through) w = goes_on (through w.model) w
    goes_on (edit place change through) w = onward_onward (changed place change w) (λ o. run out (through o)) (λ o. run out (through o >>= next)) (λ x. run out (next x)) (λ o. goes_on (through o))

    pub followed : (d : Doing A) (w : Work) (x : A) (v : Work) → run out d w ≡ went x v → run out (d >>= next) w ≡ run out (next x) v
    followed d w x v e = goes_on d w ∙ ap (λ ended. onward ended (λ x. run out (next x))) e

    -- what stops the first stops both
    pub halted : (d : Doing A) (w : Work) (refusal : Option ToolRefusal) (t : Tally) → IsStop refusal (run out d w) t → IsStop refusal (run out (d >>= next) w) t
    halted d w (Some refusal) t h = goes_on d w ∙ ap (λ ended. onward ended (λ x. run out (next x))) h
    halted d w None t h = subst (λ ended. t.expressions ≤ total ended) (sym (goes_on d w)) (onward_grows t.expressions (run out d w) (λ x. run out (next x)) h (λ x. grows (next x)))

    -- after the first gave a value, both give what the second gives
    pub went_next : (d : Doing A) (w : Work) (x : A) (v : Work) (result : Result B ToolRefusal) (m : Contents) (t : Tally)
        → run out d w ≡ went x v → Went (run out (next x) v) result m t → Went (run out (d >>= next) w) result m t
    went_next d w x v result m t e h = subst (λ ended. Went ended result m t) (sym (followed d w x v e)) h

  pub run_done : {A : Type 0} (x : A) (w : Work) → run out (done x) w ≡ went x w
  unfolding run
  run_done x w = refl

  pub run_look : {A : Type 0} (next : Contents → Doing A) (w : Work) → run out (look next) w ≡ run out (next w.model) w
  unfolding run
  run_look next w = refl

  -- ---- a refusal that is passed on

  pub returned : {A : Type 0} (ended : Ended A) (result : Result A ToolRefusal) (refusal : ToolRefusal) (m : Contents) (t : Tally) → IsErrAnd result (λ other. other ≡ refusal) → IsStop (named refusal) ended t → Went ended result m t
  returned ended (Ok x) refusal m t h g = absurd h
  returned ended (Err other) refusal m t h g = subst (λ (y : ToolRefusal). IsStop (named y) ended t) (sym h) g

  pub stopped_first : {A B : Type 0} (d : Doing A) (next : A → Doing B) (w : Work) (result : Result B ToolRefusal) (refusal : ToolRefusal) (m : Contents) (t : Tally) → IsErrAnd result (λ other. other ≡ refusal) → IsStop (named refusal) (run out d w) t → Went (run out (d >>= next) w) result m t
  stopped_first d next w result refusal m t h g = returned (run out (d >>= next) w) result refusal m t h (halted next d w (named refusal) t g)

  -- want of memory, before or after a step
  pub no_memory : {A : Type 0} (d : Doing A) (w : Work) (result : Result A ToolRefusal) (m : Contents) → IsErrAnd result (λ other. other ≡ r.NoMemory) → Went (run out d w) result m w.tally
  no_memory d w result m h = returned (run out d w) result r.NoMemory m w.tally h (grows d w)

  pub no_memory_next : {A B : Type 0} (d : Doing A) (next : A → Doing B) (w : Work) (x : A) (v : Work) (result : Result B ToolRefusal) (m : Contents) → run out d w ≡ went x v → IsErrAnd result (λ other. other ≡ r.NoMemory) → Went (run out (d >>= next) w) result m v.tally
  no_memory_next d next w x v result m e h = went_next next d w x v result m v.tally e (no_memory (next x) v result m h)

  -- ---- what is asked alone

  onward_went : {A : Type 0} (ended : Ended A) → onward ended went ≡ ended
  onward_went (went x w) = refl
  onward_went (stopped refusal n) = refl

  pub run_asked : (place : ℕ) (e : Expression) (env : Env) (w : Work) → run out (asked place e env) w ≡ evaluated out place e env w
  unfolding run
  run_asked place e env w = onward_went (evaluated out place e env w)

  pub run_edited : (place : ℕ) (change : Result Edit ModelRefusal) (w : Work) → run out (edited place change) w ≡ changed place change w
  unfolding run
  run_edited place change w = onward_went (changed place change w)

  -- ---- what needs no step

  pub stops : (A : Type 0) (refusal : ToolRefusal) (t : Tally) → IsStop {A = A} (named refusal) (stopped refusal t.expressions) t
  stops A r.PreconditionFalse t = refl
  stops A (r.Evaluation place fault) t = refl
  stops A (r.BadContext place) t = refl
  stops A (r.Model place e.UnknownObject) t = refl
  stops A (r.Model place e.KindMismatch) t = refl
  stops A (r.Model place e.UpperBound) t = refl
  stops A (r.Model place e.ContainmentCycle) t = refl
  stops A (r.Model place e.AbstractClass) t = refl
  stops A (r.Model place e.TooManyObjects) t = refl
  stops A (r.Model place e.IdsSpent) t = refl
  stops A (r.Model place e.NoMemory) t = omega arith
  stops A r.ToolTooLong t = refl
  stops A r.NoMemory t = omega arith

  pub run_refuse : {A : Type 0} (refusal : ToolRefusal) (w : Work) → run {A = A} out (refuse refusal) w ≡ stopped refusal w.tally.expressions
  unfolding run
  run_refuse refusal w = refl

  pub refused_as : {A : Type 0} (refusal : ToolRefusal) (w : Work) (result : Result A ToolRefusal) (m : Contents) → result ≡ Err refusal → Went (run out (refuse refusal) w) result m w.tally
  unfolding run
  refused_as {A = A} refusal w result m is = subst (λ (x : Result A ToolRefusal). Went (stopped refusal w.tally.expressions) x m w.tally) (sym is) (stops A refusal w.tally)

  pub given_went : {A : Type 0} (known : Result A ToolRefusal) (w : Work) → Went (run out (given known) w) known w.model w.tally
  unfolding run
  given_went (Ok x) w = refl
  given_went {A = A} (Err refusal) w = stops A refusal w.tally

  pub given_is : {A : Type 0} (known result : Result A ToolRefusal) (w : Work) → result ≡ known → Went (run out (given known) w) result w.model w.tally
  given_is {A = A} known result w is = subst (λ (x : Result A ToolRefusal). Went (run out (given known) w) x w.model w.tally) (sym is) (given_went known w)

  -- ---- in a loop, whose steps from here on end as all of them do

  module _ {A X : Type 0} (step : X → Doing A) where
    pub each_none : (w : Work) → run out (each step []) w ≡ went tt w
    unfolding run each
    each_none w = refl

    pub turn_next : (ys : List X) (x : X) (xs : List X) (w : Work) (a : A) (u : Work) (all : Ended Unit) → ys ≡ x ∷ xs → run out (step x) w ≡ went a u → run out (each step ys) w ≡ all → run out (each step xs) u ≡ all
    unfolding each
    turn_next ys x xs w a u all here e h = sym (followed (λ _. each step xs) (step x) w a u e) ∙ (ap (λ zs. run out (each step zs) w) (sym here) ∙ h)

    pub turn_stopped : (ys : List X) (x : X) (xs : List X) (w : Work) (result : Result Unit ToolRefusal) (refusal : ToolRefusal) (m : Contents) (t : Tally) (all : Ended Unit) → ys ≡ x ∷ xs → IsErrAnd result (λ other. other ≡ refusal) → IsStop (named refusal) (run out (step x) w) t → run out (each step ys) w ≡ all → Went all result m t
    unfolding each
    turn_stopped ys x xs w result refusal m t all here is h e = subst (λ ended. Went {A = Unit} ended result m t) (ap (λ zs. run out (each step zs) w) (sym here) ∙ e) (stopped_first (step x) (λ _. each step xs) w result refusal m t is h)

    pub turns_over : (ys : List X) (w : Work) (all : Ended Unit) → ys ≡ [] → run out (each step ys) w ≡ all → all ≡ went tt w
    turns_over ys w all none h = sym h ∙ (ap (λ zs. run out (each step zs) w) none ∙ each_none w)

-- ---- an edit as the code makes it

choice_false : {A : Type 0} (b : Bool) (first second : A) → b ≡ false → (if b then first else second) ≡ second
choice_false true first second h = absurd cc
choice_false false first second h = refl

choice_true : {A : Type 0} (b : Bool) (first second : A) → b ≡ true → (if b then first else second) ≡ first
choice_true true first second h = refl
choice_true false first second h = absurd cc

-- an edit that is not one too many
pub counted_edit : (place : ℕ) (change : Result Edit ModelRefusal) (m : Contents) (t u : Tally) → u ≡ one_edit_more t → nat_le 10000 t.edits ≡ false → changed place change (work m t) ≡ edit_at place m.next (made change m) u
unfolding changed
counted_edit place change m t u is less = choice_false (nat_le 10000 t.edits) (stopped r.ToolTooLong t.expressions) (edit_at place m.next (made change m) (one_edit_more t)) less ∙ ap (edit_at place m.next (made change m)) (sym is)

pub uncounted_edit : (place : ℕ) (change : Result Edit ModelRefusal) (m : Contents) (t : Tally) → nat_le 10000 t.edits ≡ true → changed place change (work m t) ≡ stopped r.ToolTooLong t.expressions
unfolding changed
uncounted_edit place change m t more = choice_true (nat_le 10000 t.edits) (stopped r.ToolTooLong t.expressions) (edit_at place m.next (made change m) (one_edit_more t)) more

module _ (out : Outcomes) (place : ℕ) (change : Result Edit ModelRefusal) (m n : Contents) (t u : Tally) (result : Result ℕ ToolRefusal) where
  pub edit_uncounted : (refusal : ToolRefusal) → IsErrAnd result (λ other. other ≡ refusal) → Counts (Err refusal) t u → Went (run out (edited place change) (work m t)) result n u
  edit_uncounted refusal is h =
      let end : Ended ℕ = run out (edited place change) (work m t) in
      returned out end result refusal n u is
      (subst (λ (x : ToolRefusal). IsStop (named x) end u) (sym h.0) (subst (λ (y : Tally). IsStop (Some r.ToolTooLong) end y) (sym h.1) (run_edited out place change (work m t) ∙ uncounted_edit place change m t h.2)))

  pub edit_counted : Counts (Ok tt) t u → Went (edit_at place m.next (made change m) u) result n u → Went (run out (edited place change) (work m t)) result n u
  edit_counted h g = subst (λ (ended : Ended ℕ). Went ended result n u) (sym (run_edited out place change (work m t) ∙ counted_edit place change m t u h.0 h.1)) g

-- a refusal of an edit
pub edit_refused : (place o : ℕ) (outcome : Result Contents ModelRefusal) (refusal : ModelRefusal) (t : Tally) → IsRefusal (model.named refusal) outcome → IsStop (named (r.Model place refusal)) (edit_at place o outcome t) t
edit_refused place o outcome refusal t h = by (model.named refusal) h
  where
    by : (known : Option ModelRefusal) → IsRefusal known outcome → IsStop (option_map (r.Model place) known) (edit_at place o outcome t) t
    by (Some other) is = ap (λ found. edit_at place o found t) is
    by None is = edit_grows place o outcome t

-- ---- what is done makes one accepted edit after another

module _ (out : Outcomes) where
  went_asked : (place : ℕ) (answer : Result Value Fault) (w u : Work) (v : Value) → answer_at place answer w ≡ went v u → u.model ≡ w.model
  went_asked place (Ok x) w u v e = cc
  went_asked place (Err fault) w u v e = absurd cc

  choice_went : {A : Type 0} (b : Bool) (n : ℕ) (first : Ended A) (x : A) (u : Work) → (if b then stopped r.ToolTooLong n else first) ≡ went x u → first ≡ went x u
  choice_went true n first x u e = absurd cc
  choice_went false n first x u e = e

  evaluated_leaves : (place : ℕ) (e : Expression) (env : Env) (w u : Work) (v : Value) → evaluated out place e env w ≡ went v u → u.model ≡ w.model
  unfolding evaluated
  evaluated_leaves place e env w u v h = went_asked place (out e env w.model).gave (work w.model (one_expression_more w.tally)) u v (choice_went (nat_le 1000000 w.tally.expressions) w.tally.expressions (answer_at place (out e env w.model).gave (work w.model (one_expression_more w.tally))) v u h)

  went_edited : (place o : ℕ) (outcome : Result Contents ModelRefusal) (t : Tally) (u : Work) (p : ℕ) → edit_at place o outcome t ≡ went p u → outcome ≡ Ok u.model
  went_edited place o (Ok m) t u p e = cc
  went_edited place o (Err refusal) t u p e = absurd cc

  made_edited : (change : Result Edit ModelRefusal) (m n : Contents) → made change m ≡ Ok n → IsEdited m n
  made_edited (Ok change) m n h = given-edited change m n h
  made_edited (Err refusal) m n h = absurd cc

  changed_edits : (place : ℕ) (change : Result Edit ModelRefusal) (w u : Work) (p : ℕ) → changed place change w ≡ went p u → IsEdited w.model u.model
  unfolding changed
  changed_edits place change w u p h = made_edited change w.model u.model (went_edited place w.model.next (made change w.model) (one_edit_more w.tally) u p (choice_went (nat_le 10000 w.tally.edits) w.tally.expressions (edit_at place w.model.next (made change w.model) (one_edit_more w.tally)) p u h))

  onward_went_by : {A B : Type 0} (P : Contents → Type 0) (ended : Ended A) (next : A → Work → Ended B) (x : B) (u : Work)
      → ((a : A) (w : Work) → ended ≡ went a w → P w.model) → ((a : A) (w : Work) → next a w ≡ went x u → P w.model → P u.model) → onward ended next ≡ went x u → P u.model
  onward_went_by P (went a w) next x u h k e = k a w e (h a w refl)
  onward_went_by P (stopped refusal n) next x u h k e = absurd cc

  -- from a model that edits lead to, they lead to the model at the end
  pub edits : {A : Type 0} (m : Contents) (d : Doing A) (w u : Work) (x : A) → AreEdited m w.model → run out d w ≡ went x u → AreEdited m u.model
  unfolding run
  edits m (done y) w u x h e = let f : w ≡ u = cc in subst (λ (v : Work). AreEdited m v.model) f h
  edits m (refuse refusal) w u x h e = absurd cc
  edits m (evaluate place e env next) w u x h k = onward_went_by (AreEdited m) (evaluated out place e env w) (λ v. run out (next v)) x u
      (λ v n g. subst (AreEdited m) (sym (evaluated_leaves place e env w n v g)) h) (λ v n g i. edits m (next v) n u x i g) k
  edits m (look next) w u x h k = edits m (next w.model) w u x h k
  edits m (edit place change next) w u x h k = onward_went_by (AreEdited m) (changed place change w) (λ o. run out (next o)) x u
      (λ o n g. by_more h (changed_edits place change w n o g)) (λ o n g i. edits m (next o) n u x i g) k

-- no number is taken back
pub edited_next : (m n : Contents) → AreEdited m n → m.next ≤ n.next
edited_next m n by_none = omega arith
edited_next m n (by_more {k = k} h e) = let a = edited_next m k h in let b = (numbers-fresh k n e).never_falls in omega (arith, a, b)
