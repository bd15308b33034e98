use Rattle.std.proofs.Common.{List, Option, ℕ, ◌∙◌, ap, map, arith}
use Rattle.wb_validity.specs.invariants.Rings.{beyond}
use Rattle.wb_validity.proofs.LinkLemmas.{contained_once}
use Rattle.wb_validity.proofs.RingLemmas.{far_twice}
use Rattle.wb_validity.proofs.rings.far_above.Goals as goal

pub loop-steps-init : goal.loop-steps-init
loop-steps-init c = record { far = record { steps = 1; far = omega arith; is_above = c.in_ok-above.ensures }; some = omega arith }

pub loop-steps-preserved : goal.loop-steps-preserved
loop-steps-preserved c = record {
  far = far_twice c.args.store.now c.args.records.now c.requires.kept (contained_once c.args.store.now c.args.records.now c.requires.kept c.args.holders.now c.requires.knows)
      c.loop-steps.steps c.loop-steps.above.items c.in_ok-above-2.above.items c.loop-steps.invariant.far
      (c.in_ok-above-2.ensures ∙ ap (λ (ps : List (Option ℕ)). map (beyond ps) ps) c.as_slice.ensures.value);
  some = let some = c.loop-steps.invariant.some in omega (arith, some);
}

pub returns : goal.returns
returns c = let far = c.loop-steps.invariant.far in let enough = c.loop-steps-test.false in record { steps = far.steps; far = let l = far.far in omega (arith, l, enough); is_above = far.is_above }
