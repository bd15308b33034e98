-- Operations one after another, and the steps of one.
use Rattle.std.proofs.Common.{◌≡◌, ◌≤◌, ◌+◌, ℕ, suc, ◌-◌, List, [], ◌∷◌, length, get_or, take, drop, Some, Result, refl, sym, ap, subst, ◌∙◌, arith}
use Rattle.std.proofs.lemmas.List.{take_all}
use Rattle.std.specs.Result.{IsErrAnd}
use Rattle.wb_store.specs.Contents.{Contents}
use Rattle.wb_store.specs.declared.scalars.Scalar.{Scalar}
use Rattle.wb_store.specs.declared.scalars.Scalar.TheVariants.{Object}
use Rattle.wb_model.specs.declared.edits.edit.Edit.{Edit}
use Rattle.wb_model.specs.declared.refusals.ModelRefusal.{ModelRefusal}
use Rattle.wb_aql_eval.specs.declared.env.Env.{Env}
use Rattle.wb_viewpoint.proofs.Trees.{tree_out, count_out}
use Rattle.wb_viewpoint.specs.OperationTrees.{Tree, trees, count_all}
use Rattle.wb_viewpoint.specs.View.{trees_of}
use Rattle.wb_viewpoint.specs.declared.operations.Operation.{Operation, out-Operation}
use Rattle.wb_spec_check.specs.Checked.{Specification}
use Rattle.wb_tools.specs.Bindings.{context_with, inside_with}
use Rattle.wb_tools.specs.Doings.{Doing, after, edited, look}
use Rattle.wb_tools.specs.FeatureEdits.{creation, edit_by, moving}
use Rattle.wb_tools.specs.Operations.{Inside, act, creating, turn}
use Rattle.wb_tools.specs.Runs.{Outcomes, Work, Ended, went, run, named, IsStop, Went}
use Rattle.wb_tools.specs.Tools.{perform}
use Rattle.wb_tools.specs.declared.refusals.ToolRefusal.{ToolRefusal}
use Rattle.wb_tools.specs.declared.tally.Tally.{Tally}
use Rattle.wb_tools.proofs.RunLemmas.{run_look, stopped_first, went_next}

-- ---- parts of a list

pub nothing : {A : Type 0} (ys : List A) → length ys ≡ 0 → ys ≡ []
nothing [] h = refl
nothing (y ∷ ys) h = absurd (omega (arith, h))

-- the first, and the rest
pub split : {A : Type 0} (ys : List A) (x : A) → 1 ≤ length ys → x ≡ get_or ys 0 x → ys ≡ x ∷ take (length ys - 1) (drop 1 ys)
split [] x h is = absurd (omega (arith, h))
split (y ∷ ys) x h is = sym (ap (λ zs. x ∷ zs) (take_all (length (y ∷ ys) - 1) ys (omega arith)) ∙ ap (λ z. z ∷ ys) is)

-- ---- operations one after another

-- how many places an operation takes
abbrev pub places : Operation → ℕ
places x = suc (count_all (trees_of (out-Operation x).inside))

pub count_first : (x : Operation) (xs : List Operation) → count_all (trees_of (x ∷ xs)) ≡ places x + count_all (trees_of xs)
count_first x xs = let e = count_out x in omega (arith, e)

module _ (out : Outcomes) (spec : Specification) (tool : ℕ) (env : Env) (o : ℕ) where
  -- what the first operation does
  abbrev pub acted : ℕ → Operation → Doing Unit
  acted place x = act spec tool place (out-Operation x).action (perform spec tool (place + 1) (trees_of (out-Operation x).inside)) env o

  perform_out : (place : ℕ) (x : Operation) (xs : List Operation) → perform spec tool place (trees_of (x ∷ xs)) env o ≡ after (acted place x) (λ _. perform spec tool (place + places x) (trees_of xs) env o)
  unfolding perform
  perform_out place x xs = ap (λ (t : Tree). perform spec tool place (trees t (trees_of xs)) env o) (tree_out x)

  pub perform_none : (place : ℕ) (ys : List Operation) (w : Work) → ys ≡ [] → run out (perform spec tool place (trees_of ys) env o) w ≡ went tt w
  unfolding run perform
  perform_none place ys w is = ap (λ (zs : List Operation). run out (perform spec tool place (trees_of zs) env o) w) is

  module _ (place : ℕ) (ys : List Operation) (x : Operation) (xs : List Operation) (w : Work) (here : ys ≡ x ∷ xs) where
    perform_first : run out (perform spec tool place (trees_of ys) env o) w ≡ run out (after (acted place x) (λ _. perform spec tool (place + places x) (trees_of xs) env o)) w
    perform_first = ap (λ (zs : List Operation). run out (perform spec tool place (trees_of zs) env o) w) here ∙ ap (λ (d : Doing Unit). run out d w) (perform_out place x xs)

    pub perform_more : (u : Work) (result : Result Unit ToolRefusal) (m : Contents) (t : Tally) → run out (acted place x) w ≡ went tt u → Went (run out (perform spec tool (place + places x) (trees_of xs) env o) u) result m t → Went (run out (perform spec tool place (trees_of ys) env o) w) result m t
    perform_more u result m t e h =
        subst (λ (ended : Ended Unit). Went ended result m t) (sym perform_first) (went_next out (λ _. perform spec tool (place + places x) (trees_of xs) env o) (acted place x) w tt u result m t e h)

    pub perform_stopped : (result : Result Unit ToolRefusal) (refusal : ToolRefusal) (m : Contents) (t : Tally) → IsErrAnd result (λ other. other ≡ refusal) → IsStop (named refusal) (run out (acted place x) w) t → Went (run out (perform spec tool place (trees_of ys) env o) w) result m t
    perform_stopped result refusal m t is h =
        subst (λ (ended : Ended Unit). Went ended result m t) (sym perform_first) (stopped_first out (acted place x) (λ _. perform spec tool (place + places x) (trees_of xs) env o) w result refusal m t is h)

-- ---- an object is made

module _ (out : Outcomes) (place class : ℕ) (reference variable : List ℕ) (inside : Inside) (env : Env) (o : ℕ) (w : Work) (change : Result Edit ModelRefusal) (is : change ≡ creation w.model o class reference) where
  abbrev next : ℕ → Doing Unit
  next p = inside (inside_with variable (Object p) p env) p

  abbrev making : Doing ℕ
  making = look (λ m. edited place (creation m o class reference))

  made_is : run out (edited place change) w ≡ run out making w
  made_is = ap (λ (it : Result Edit ModelRefusal). run out (edited place it) w) is ∙ sym (run_look out (λ m. edited place (creation m o class reference)) w)

  pub create_stopped : (result : Result Unit ToolRefusal) (refusal : ToolRefusal) (m : Contents) (t : Tally) → IsErrAnd result (λ other. other ≡ refusal) → IsStop (named refusal) (run out (edited place change) w) t → Went (run out (creating place (Some class) reference variable inside env o) w) result m t
  create_stopped result refusal m t e h = stopped_first out making next w result refusal m t e (subst (λ (ended : Ended ℕ). IsStop (named refusal) ended t) made_is h)

  pub create_next : (p : ℕ) (u : Work) (result : Result Unit ToolRefusal) (m : Contents) (t : Tally) → run out (edited place change) w ≡ went p u → Went (run out (next p) u) result m t → Went (run out (creating place (Some class) reference variable inside env o) w) result m t
  create_next p u result m t e h = went_next out next making w p u result m t (sym made_is ∙ e) h

-- ---- an object is moved

module _ (out : Outcomes) (place o p : ℕ) (reference : List ℕ) (w : Work) (change : Result Edit ModelRefusal) (is : change ≡ moving w.model o p reference) where
  pub moved_is : (result : Result Unit ToolRefusal) (m : Contents) (t : Tally) → Went (run out (edit_by place change) w) result m t → Went (run out (look (λ m. edit_by place (moving m o p reference))) w) result m t
  moved_is result m t h = subst (λ (ended : Ended Unit). Went ended result m t) (ap (λ (it : Result Edit ModelRefusal). run out (edit_by place it) w) is ∙ sym (run_look out (λ m. edit_by place (moving m o p reference)) w)) h

-- ---- a turn

-- with the context as it was found
pub turn_as : (out : Outcomes) (inside : Inside) (name : List ℕ) (x : Scalar) (env : Env) (o p : ℕ) (w : Work) (result : Result Unit ToolRefusal) (m : Contents) (t : Tally) → p ≡ context_with x o → Went (run out (inside (inside_with name x p env) p) w) result m t → Went (run out (turn name inside env o x) w) result m t
turn_as out inside name x env o p w result m t is h = subst (λ (q : ℕ). Went (run out (inside (inside_with name x q env) q) w) result m t) is h
