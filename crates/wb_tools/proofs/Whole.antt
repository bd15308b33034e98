-- A whole tool, which is accepted or refused.
use Rattle.std.proofs.Common.{◌≡◌, ◌≤◌, ◌+◌, ℕ, Option, Some, None, Ok, Err, refl, sym, ap, subst, arith}
use Rattle.wb_base.specs.Answering.{IsRefusal}
use Rattle.wb_store.specs.Contents.{Contents}
use Rattle.wb_model.specs.EditLaws.{AreEdited}
use Rattle.wb_model.specs.EditLaws.AreEdited.{by_none}
use Rattle.wb_aql_eval.specs.declared.env.Env.{Env}
use Rattle.wb_spec_check.specs.Checked.{Specification}
use Rattle.wb_tools.specs.Answers.{Ran, Rose, Counted}
use Rattle.wb_tools.specs.Runs.{Outcomes, Ended, went, total, IsStop, named, run, work}
use Rattle.wb_tools.specs.Tools.{accepted, ended, evaluations, ran, tool_of}
use Rattle.wb_tools.specs.declared.refusals.ToolRefusal.{ToolRefusal}
use Rattle.wb_tools.specs.declared.tally.Tally.{Tally}
use Rattle.wb_tools.proofs.RunLemmas.{edits, edited_next, few}

module _ (given : Ended Unit) (t : Tally) where
  refused_by : (known : Option ToolRefusal) → IsStop {A = Unit} known given t → IsRefusal known (accepted given)
  refused_by (Some refusal) h = ap accepted h
  refused_by None h = tt

  rose_by : (known : Option ToolRefusal) (before now : ℕ) → now + 0 ≡ before + t.expressions → IsStop {A = Unit} known given t → Rose known (total given) before now
  rose_by (Some refusal) before now e h = let n : total given ≡ t.expressions = ap total h in omega (arith, e, n)
  rose_by None before now e h = omega (arith, e, h)

module _ (out : Outcomes) (spec : Specification) (tool : ℕ) (env : Env) (o : ℕ) (m : Contents) where
  abbrev none : Tally
  none = record { edits = 0; expressions = 0 }

  abbrev end : Ended Unit
  end = run out (tool_of spec tool env o) (work m none)

  -- the code's refusal, and another that names the same
  pub tool_refused : (refusal other : ToolRefusal) (t : Tally) → named other ≡ named refusal → IsStop (named refusal) end t → Ran (Err other) (ran out spec tool env o m) m m
  unfolding ran ended
  tool_refused refusal other t same h = (subst (λ known. IsRefusal known (accepted end)) (sym same) (refused_by end t (named refusal) h), refl)

  pub tool_refused_counted : (refusal other : ToolRefusal) (t : Tally) (before now : ℕ) → named other ≡ named refusal → now + 0 ≡ before + t.expressions → IsStop (named refusal) end t → Counted (Err other) (evaluations out spec tool env o m) before now
  unfolding evaluations ended
  tool_refused_counted refusal other t before now same e h = subst (λ known. Rose known (total end) before now) (sym same) (rose_by end t (named refusal) before now e h)

  pub tool_ran : (n : Contents) (t : Tally) → end ≡ went tt (work n t) → Ran (Ok t.expressions) (ran out spec tool env o m) m n
  unfolding ran ended
  tool_ran n t h = ap accepted h

  pub tool_counted : (n : Contents) (t : Tally) (before now : ℕ) → now + 0 ≡ before + t.expressions → end ≡ went tt (work n t) → Counted (Ok t.expressions) (evaluations out spec tool env o m) before now
  unfolding evaluations ended
  tool_counted n t before now e h = let k : total end ≡ t.expressions = ap total h in omega (arith, e, k)

  pub tool_few : (n : Contents) (t : Tally) → end ≡ went tt (work n t) → t.expressions ≤ 1000000
  tool_few n t h =
      let k : total end ≡ t.expressions = ap total h in
      let few_there : total end ≤ 1000000 = few out (tool_of spec tool env o) (work m none) (omega arith) in
      subst (λ (count : ℕ). count ≤ 1000000) k few_there

  pub tool_edited : (n : Contents) (t : Tally) → end ≡ went tt (work n t) → AreEdited m n
  tool_edited n t h = edits out m (tool_of spec tool env o) (work m none) (work n t) tt by_none h

  pub tool_next : (n : Contents) (t : Tally) → end ≡ went tt (work n t) → m.next ≤ n.next
  tool_next n t h = edited_next m n (tool_edited n t h)
