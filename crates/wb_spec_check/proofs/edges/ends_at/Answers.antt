use Rattle.std.proofs.Common.{List, ℕ, Some, sym, subst}
use Rattle.wb_spec_check.specs.Findings.{end_found}
use Rattle.wb_spec_check.specs.Places.{◌!◌, place_of}
use Rattle.wb_spec_check.specs.Validated.{Validated, at}
use Rattle.wb_spec_check.specs.invariants.Reports.{Gathers}
use Rattle.wb_spec_check.proofs.Joined.{gathers_none, gathers_on, gathers_all}
use Rattle.wb_spec_check.proofs.Steps.{place_item}
use Rattle.wb_spec_check.proofs.edges.ends_at.Goals as goal

abbrev end_check : goal.After-new → ℕ → List ℕ → Validated ℕ
end_check c i name = at (place_of c.args.path.now ! i) (end_found c.args.names.now.1 name)

pub loop-number-init : goal.loop-number-init
loop-number-init c =
    subst (λ none. Gathers (end_check c) c.args.list.now 0 c.args.problems.now (Some none) c.args.problems.now) (sym c.new.ensures) (gathers_none (end_check c) c.args.list.now c.args.problems.now)

pub loop-number-preserved : goal.loop-number-preserved
loop-number-preserved c =
    let told = c.in_ok-end.ensures (end_found c.args.names.now.1 c.as_str-name.result.now) c.end-found.ensures in
    gathers_on c.index-list-number.result c.gather.new.items c.loop-number.invariant c.loop-number-test.true c.index-list-number.is (rw (place_item, c.as_str-name.ensures.same) at told) c.in_ok-gather.ensures

pub returns : goal.returns
returns c = gathers_all c.loop-number.invariant c.loop-number-test.false
