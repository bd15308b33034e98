use Rattle.std.proofs.Common.{◌≡◌, subst, ap, ◌∙◌, arith, cond, None, List}
use Rattle.std.proofs.lemmas.List.{take_all}
use Rattle.std.specs.FinMap.{get, get-empty}
use Rattle.std.specs.Prelude.{IfOk}
use Rattle.wb_diagram.specs.declared.keys.Key.{Key}
use Rattle.wb_layout.specs.Orders.{key_cmp, is_key}
use Rattle.wb_layout.specs.Positions.{Positions}
use Rattle.wb_layout.proofs.Kept.{kept_more, all_kept}
use Rattle.wb_layout.proofs.restricting.restricted_to.Goals as goal

pub loop-key-init : goal.loop-key-init
loop-key-init c = λ q. ap (λ m. get m q) c.new-kept.ensures ∙ get-empty key_cmp q

pub loop-key-preserved : goal.loop-key-preserved
loop-key-preserved c = λ q. kept_more c.args.layout.now c.args.declared.now c.loop-key.key-index c.key-item.result (get c.loop-key.kept q) (get c.keep.new.kept q) q (omega arith) c.key-item.is (c.loop-key.invariant q) (c.in_ok-keep.ensures q)

pub returns : goal.returns
returns c =
    let whole = all_kept c.args.layout.now c.loop-key.kept c.args.declared.now
    (subst (λ (ks : List Key). (q : Key) → get c.loop-key.kept q ≡ cond (is_key ks q) (get c.args.layout.now q) None) (take_all c.loop-key.key-index c.args.declared.now (omega arith)) c.loop-key.invariant) in
    subst (λ (m : Positions). IfOk c.settled.result (λ (layout : Positions). layout ≡ m)) whole c.settled.ensures
