use Rattle.std.proofs.Common.{◌∙◌, ap, Bor}
use Rattle.wb_store.specs.declared.scalars.Scalar.{Scalar}
use Rattle.wb_validity.proofs.Differing.{differ_from, differ_from_none, differ_later, seen_again}
use Rattle.wb_validity.proofs.conditions.differ.Goals as goal

pub loop-value-init : goal.loop-value-init
loop-value-init c =
    ap (λ keys. differ_from {K = Bor Scalar} (λ k. k.now) keys c.args.values.now) c.new-seen.ensures.empty
    ∙ differ_from_none {K = Bor Scalar} (λ k. k.now) c.args.values.now

pub returns-then-not-is_new : goal.returns-then-not-is_new
returns-then-not-is_new c =
    let facts = c.in_ok-is_new.ensures in
    seen_again {K = Bor Scalar} (λ k. k.now) c.loop-value.seen.keys _ _ c.in_ok-is_new.is_new c.args.values.now c.loop-value.value-index facts.keys facts.added c.loop-value-test.true c.value-item.is c.loop-value.invariant c.if-not-is_new.true

pub loop-value-preserved : goal.loop-value-preserved
loop-value-preserved c =
    let facts = c.in_ok-is_new.ensures in
    differ_later {K = Bor Scalar} (λ k. k.now) c.loop-value.seen.keys _ _ c.in_ok-is_new.is_new c.args.values.now c.loop-value.value-index facts.keys facts.added c.loop-value-test.true c.value-item.is c.loop-value.invariant c.if-not-is_new.false
