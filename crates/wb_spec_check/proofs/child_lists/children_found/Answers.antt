use Rattle.std.proofs.Common.{List, ℕ, Some, sym, ◌∙◌, subst, ap}
use Rattle.std.specs.Option.{is_some}
use Rattle.wb_spec_check.specs.ChildLists.{ChildList, child_found}
use Rattle.wb_spec_check.specs.Places.{◌!◌, place_of}
use Rattle.wb_spec_check.specs.Validated.{Validated, at}
use Rattle.wb_spec_check.specs.invariants.Findings.{Finds}
use Rattle.wb_spec_check.specs.invariants.Reports.{Gathers}
use Rattle.wb_spec_check.proofs.Children.{seen_more}
use Rattle.wb_spec_check.proofs.Joined.{gathers_none, gathers_on, gathers_all}
use Rattle.wb_spec_check.proofs.Steps.{place_item}
use Rattle.wb_spec_check.proofs.child_lists.children_found.Goals as goal

abbrev child_check : goal.After-new-seen → List ChildList → ℕ → List ℕ → Validated ℕ
child_check c earlier i name = at (place_of c.args.path.now ! i) (child_found c.args.names.now.1 earlier (record { role = c.args.role; names = c.args.list.now }) i name)

pub loop-number-init : goal.loop-number-init
loop-number-init c = record {
  seen = λ name. ap is_some (c.new-seen.ensures name);
  told = λ earlier took. subst (λ none. Gathers (child_check c earlier) c.args.list.now 0 c.args.problems.now (Some none) c.args.problems.now) (sym c.new.ensures) (gathers_none (child_check c earlier) c.args.list.now c.args.problems.now);
}

pub loop-number-preserved : goal.loop-number-preserved
loop-number-preserved c =
    let name = c.index-list-number.result in
    let i = c.loop-number.number in
    record {
      seen = seen_more c.args.list.now i name c.as_bytes.result.now c.loop-number.seen c.add.new.self c.loop-number.invariant.seen
          (c.as_bytes.ensures.value ∙ c.as_str-in-loop-number.ensures.same) c.in_ok-add.ensures c.loop-number-test.true c.index-list-number.is;
      told = λ earlier took.
          let found = child_found c.args.names.now.1 earlier (record { role = c.args.role; names = c.args.list.now }) i name in
          let finds : Finds c.as_str.result.now c.child_found-found.result found =
          subst (λ text. Finds text c.child_found-found.result found) (sym c.as_str.ensures.same) (c.child_found-found.ensures earlier c.args.list.now i took c.loop-number.invariant.seen) in
          gathers_on name c.gather.new.items (c.loop-number.invariant.told earlier took) c.loop-number-test.true c.index-list-number.is (rw place_item at (c.in_ok-child.ensures found finds)) c.in_ok-gather.ensures;
    }

pub returns : goal.returns
returns c = λ earlier took. gathers_all (c.loop-number.invariant.told earlier took) c.loop-number-test.false
