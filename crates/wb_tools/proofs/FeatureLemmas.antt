-- Edits of features, as they are checked.
use Rattle.std.proofs.Common.{◌≡◌, ℕ, List, Option, None, Result, Ok, Err, sym, ap, subst}
use Rattle.std.specs.Result.{IsErrAnd}
use Rattle.wb_store.specs.Contents.{Contents}
use Rattle.wb_store.specs.declared.scalars.Scalar.{Scalar}
use Rattle.wb_model.specs.declared.edits.edit.Edit.{Edit}
use Rattle.wb_model.specs.declared.refusals.ModelRefusal.TheVariants.{KindMismatch}
use Rattle.wb_tools.specs.Doings.{Doing, given, after}
use Rattle.wb_tools.specs.FeatureEdits.{at_place, change_of, edit_or_mismatch, feature_in, with_feature, with_value}
use Rattle.wb_tools.specs.Runs.{Outcomes, Work, Ended, stopped, run, Went}
use Rattle.wb_tools.specs.declared.feature_sorts.Way.{Way}
use Rattle.wb_tools.specs.declared.refusals.ToolRefusal.{ToolRefusal}
use Rattle.wb_tools.specs.declared.refusals.ToolRefusal.TheVariants as r
use Rattle.wb_tools.specs.declared.tally.Tally.{Tally}
use Rattle.wb_tools.proofs.RunLemmas.{given_is, run_look, stopped_first, went_next}

module _ (out : Outcomes) where
  -- a value that asks for no edit
  pub value_refused : (way : Way) (place o f : ℕ) (x : Scalar) (w : Work) → change_of way o f x ≡ None → run out (with_value way place o f x) w ≡ stopped (r.Model place KindMismatch) w.tally.expressions
  unfolding run
  value_refused way place o f x w e = ap (λ (found : Option Edit). run out (edit_or_mismatch place found) w) e

  -- an object must have the feature first
  module _ (place o : ℕ) (name : List ℕ) (next : Contents → ℕ → Doing Unit) (w : Work) where
    abbrev found : Result ℕ ToolRefusal
    found = at_place place (feature_in w.model o name)

    pub feature_refused : (refusal : ToolRefusal) (result : Result Unit ToolRefusal) (m : Contents) → Err refusal ≡ found → IsErrAnd result (λ other. other ≡ refusal) → Went (run out (with_feature place o name next) w) result m w.tally
    feature_refused refusal result m is h =
        subst (λ (ended : Ended Unit). Went ended result m w.tally) (sym (run_look out (λ m. after (given (at_place place (feature_in m o name))) (next m)) w))
        (stopped_first out (given found) (next w.model) w result refusal m w.tally h (given_is out found (Err refusal) w is))

    pub feature_next : (f : ℕ) (result : Result Unit ToolRefusal) (m : Contents) (t : Tally) → Ok f ≡ found → Went (run out (next w.model f) w) result m t → Went (run out (with_feature place o name next) w) result m t
    feature_next f result m t is h =
        subst (λ (ended : Ended Unit). Went ended result m t) (sym (run_look out (λ m. after (given (at_place place (feature_in m o name))) (next m)) w))
        (went_next out (next w.model) (given found) w f w result m t (given_is out found (Ok f) w is) h)
