use Rattle.std.proofs.Common.{◌≡◌, ◌∙◌, ◌<◌, ℕ, List, ap, arith, length, sym, take}
use Rattle.std.specs.List.{flat_map}
use Rattle.wb_answers.specs.Seen.{Told, after}
use Rattle.wb_answers.proofs.SeenLaws.{after_none}
use Rattle.wb_answers.proofs.SeenLoops.{not_over}
use Rattle.wb_base.specs.Lists.{numbers}
use Rattle.wb_edges.specs.Edges.{edges_by, units_by}
use Rattle.wb_edges.specs.Grounds.{scene}
use Rattle.wb_edges.specs.Puts.{put_all}
use Rattle.wb_edges.proofs.Putting.{put_none}
use Rattle.wb_edges.proofs.Draws.{drawn_on, undrawn_at}
use Rattle.wb_edges.proofs.Numbers.{all_numbers, number_is, number_within}
use Rattle.wb_edges.proofs.declaring.declare_all.Goals as goal

pub loop-number-init : goal.loop-number-init
loop-number-init g c = record { asked = sym (after_none (g.A.Answers.seen c.args.answers.now)); put = sym (put_none c.args.edges.now.keys); few = c.requires.few }

pub declare_by-requires-clause-fine : goal.declare_by-requires-clause-fine
declare_by-requires-clause-fine g c = not_over _ _ _ c.loop-number.invariant.asked c.requires.fine

pub returns-in_err-declare_by : goal.returns-in_err-declare_by
returns-in_err-declare_by g c =
    let f = λ (t : Told) (n : ℕ). units_by (scene c.args.grounds.now) t n in
    let h = λ (t : Told) (n : ℕ). edges_by (scene c.args.grounds.now) t n in
    let count = length c.args.grounds.now.spec.now.1.mappings in
    let n = c.loop-number.number in
    let within : n < count = omega arith in
    undrawn_at f h (numbers count) n 0 n (g.A.Answers.seen c.args.answers.now) (g.A.Answers.seen c.loop-number.answers) _ c.args.edges.now.keys c.loop-number.edges.keys c.args.grounds.now.room (number_within count n within) (number_is count n within) c.loop-number.invariant.asked c.loop-number.invariant.put _ _ _ c.from_residual.ensures c.in_err-declare_by.ensures

pub loop-number-preserved : goal.loop-number-preserved
loop-number-preserved g c =
    let f = λ (t : Told) (n : ℕ). units_by (scene c.args.grounds.now) t n in
    let h = λ (t : Told) (n : ℕ). edges_by (scene c.args.grounds.now) t n in
    let count = length c.args.grounds.now.spec.now.1.mappings in
    let n = c.loop-number.number in
    let within : n < count = omega arith in
    drawn_on f h (numbers count) n 0 n (g.A.Answers.seen c.args.answers.now) (g.A.Answers.seen c.loop-number.answers) _ c.args.edges.now.keys c.loop-number.edges.keys c.args.grounds.now.room (number_within count n within) (number_is count n within) c.loop-number.invariant.asked c.loop-number.invariant.put _ c.in_ok-declare_by.ensures

pub returns : goal.returns
returns g c =
    let s = g.A.Answers.seen c.args.answers.now in
    let here = scene c.args.grounds.now in
    let count = length c.args.grounds.now.spec.now.1.mappings in
    let whole : take c.loop-number.number (numbers count) ≡ numbers count = all_numbers count c.loop-number.number (omega arith) in
    record {
      asked = c.loop-number.invariant.asked ∙ ap (λ (ns : List ℕ). after s (flat_map (units_by here s.told) ns)) whole;
      put = c.loop-number.invariant.put ∙ ap (λ (ns : List ℕ). put_all c.args.edges.now.keys (flat_map (edges_by here s.told) ns)) whole;
      few = c.loop-number.invariant.few;
    }
