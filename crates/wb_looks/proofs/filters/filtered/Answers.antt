use Rattle.std.proofs.Common.{◌<◌, ◌≤◌, ◌∙◌, ◌+◌, ℕ, List, length, map, ap, sym, arith}
use Rattle.std.specs.List.{flat_map}
use Rattle.wb_answers.specs.Seen.{Told, after}
use Rattle.wb_answers.proofs.SeenLaws.{after_none}
use Rattle.wb_answers.proofs.SeenLoops.{goes_on, not_over, refused_at, short_at}
use Rattle.wb_looks.specs.Filters.{filter_numbers, filter_unit, filter_units, filtered, hides}
use Rattle.wb_looks.proofs.MapLoops.{all_numbers, found_before, mapped_on, number_here, number_within}
use Rattle.wb_looks.proofs.filters.filtered.Goals as goal

pub loop-filter-init : goal.loop-filter-init
loop-filter-init g c = record { found = c.new-found.ensures.items; asked = sym (after_none (g.A.Answers.seen c.args.answers.now)) }

pub hidden_each-requires : goal.hidden_each-requires
hidden_each-requires g c = not_over _ _ _ c.loop-filter.invariant.asked c.requires.fine

pub returns-in_err-flags-clause-asks : goal.returns-in_err-flags-clause-asks
unfolding filter_units
returns-in_err-flags-clause-asks g c =
    let f = λ (t : Told) (n : ℕ). flat_map (filter_unit c.args.spec.now n) c.args.keys.now in
    let n = length c.args.spec.now.1.filters in
    let i = c.loop-filter.filter in
    let within : i < n = omega (arith, c.loop-filter-test.true, c.filter_count-filter-end.ensures) in
    refused_at f (filter_numbers c.args.spec.now) i 0 i (g.A.Answers.seen c.args.answers.now) _ _ (number_within n i within) (number_here n i 0 within) c.loop-filter.invariant.asked _ _ c.from_residual.ensures c.in_err-flags.ensures.asks

pub returns-in_err-push-clause-asks : goal.returns-in_err-push-clause-asks
unfolding filter_units
returns-in_err-push-clause-asks g c =
    let f = λ (t : Told) (n : ℕ). flat_map (filter_unit c.args.spec.now n) c.args.keys.now in
    let n = length c.args.spec.now.1.filters in
    let i = c.loop-filter.filter in
    let s = g.A.Answers.seen c.args.answers.now in
    let within : i < n = omega (arith, c.loop-filter-test.true, c.filter_count-filter-end.ensures) in
    let asked = goes_on f (filter_numbers c.args.spec.now) i 0 i s _ _ (number_within n i within) (number_here n i 0 within) c.loop-filter.invariant.asked c.in_ok-flags.ensures.asks in
    short_at f (filter_numbers c.args.spec.now) (i + 1) s _ _ c.from_residual-in_err-push.ensures asked

pub loop-filter-preserved : goal.loop-filter-preserved
loop-filter-preserved g c =
    let f = λ (t : Told) (n : ℕ). flat_map (filter_unit c.args.spec.now n) c.args.keys.now in
    let h = λ (t : Told) (n : ℕ). map (hides c.args.spec.now t n) c.args.keys.now in
    let n = length c.args.spec.now.1.filters in
    let i = c.loop-filter.filter in
    let s = g.A.Answers.seen c.args.answers.now in
    let within : i < n = omega (arith, c.loop-filter-test.true, c.filter_count-filter-end.ensures) in
    let value = found_before (λ (t : Told). h t i) s _ _ _ c.loop-filter.invariant.asked c.in_ok-flags.ensures.value in
    record {
      found = mapped_on (h s.told) (filter_numbers c.args.spec.now) i 0 i _ _ _ (number_within n i within) (number_here n i 0 within) c.loop-filter.invariant.found value c.in_ok-push.ensures.items;
      asked = goes_on f (filter_numbers c.args.spec.now) i 0 i s _ _ (number_within n i within) (number_here n i 0 within) c.loop-filter.invariant.asked c.in_ok-flags.ensures.asks;
    }

pub returns-clause-value : goal.returns-clause-value
unfolding filtered
returns-clause-value g c =
    let n = length c.args.spec.now.1.filters in
    let done : n ≤ c.loop-filter.filter = omega (arith, c.loop-filter-test.false, c.filter_count-filter-end.ensures) in
    let h = λ (f : ℕ). map (hides c.args.spec.now (g.A.Answers.seen c.args.answers.now).told f) c.args.keys.now in
    c.from_vec.ensures ∙ (c.loop-filter.invariant.found ∙ ap (map h) (all_numbers n c.loop-filter.filter done))

pub returns-clause-asks : goal.returns-clause-asks
unfolding filter_units
returns-clause-asks g c =
    let n = length c.args.spec.now.1.filters in
    let done : n ≤ c.loop-filter.filter = omega (arith, c.loop-filter-test.false, c.filter_count-filter-end.ensures) in
    let units = λ (fs : List ℕ). flat_map (λ (f : ℕ). flat_map (filter_unit c.args.spec.now f) c.args.keys.now) fs in
    c.loop-filter.invariant.asked ∙ ap (λ (fs : List ℕ). after (g.A.Answers.seen c.args.answers.now) (units fs)) (all_numbers n c.loop-filter.filter done)
