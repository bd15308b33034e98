-- What is asked at a place.
use Rattle.std.proofs.Common.{◌≡◌, ℕ, Option, Some, None, Result, sym, ap, subst, ◌∙◌}
use Rattle.wb_store.specs.Contents.{Contents}
use Rattle.wb_aql_values.specs.declared.values.Value.{Value}
use Rattle.wb_aql_values.specs.declared.values.Value.TheVariants.{Null}
use Rattle.wb_aql_eval.specs.declared.env.Env.{Env}
use Rattle.wb_spec_check.specs.Checked.{Specification}
use Rattle.wb_spec_check.specs.Units.{Expression, tool_expression}
use Rattle.wb_tools.specs.Operations.{asked_at, asked_of}
use Rattle.wb_tools.specs.Runs.{Outcomes, Work, Ended, went, evaluated, run, Went}
use Rattle.wb_tools.specs.declared.refusals.ToolRefusal.{ToolRefusal}
use Rattle.wb_tools.specs.declared.tally.Tally.{Tally}
use Rattle.wb_tools.proofs.RunLemmas.{run_asked, run_done}

module _ (out : Outcomes) (spec : Specification) (tool place : ℕ) (env : Env) (w : Work) where
  pub asked_is : (found : Option Expression) → tool_expression spec tool place ≡ found → run out (asked_at spec tool place env) w ≡ run out (asked_of place found env) w
  unfolding asked_at
  asked_is found is = ap (λ (it : Option Expression). run out (asked_of place it env) w) is

  pub asked_some : (e : Expression) (result : Result Value ToolRefusal) (m : Contents) (t : Tally) → tool_expression spec tool place ≡ Some e → Went (evaluated out place e env w) result m t → Went (run out (asked_at spec tool place env) w) result m t
  asked_some e result m t is h = subst (λ (ended : Ended Value). Went ended result m t) (sym (asked_is (Some e) is ∙ run_asked out place e env w)) h

  pub asked_none : tool_expression spec tool place ≡ None → run out (asked_at spec tool place env) w ≡ went Null w
  asked_none is = asked_is None is ∙ run_done out Null w
