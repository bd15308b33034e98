use Rattle.std.proofs.Common.{◌≡◌, ◌<◌, ◌∙◌, subst, sym, ap, List, ℕ, length, take, None, Some, arith}
use Rattle.wb_http.specs.Ends.{head_length}
use Rattle.wb_http.specs.Requests.{head_limit, Takes, Short}
use Rattle.wb_http.specs.Fronts.{IsEnd}
use Rattle.wb_http.proofs.Moving.{fills_none, fills_on}
use Rattle.wb_http.proofs.Fronting.{seen_none, seen_on, seen_at, takes_short}
use Rattle.wb_http.proofs.requests.read_head.Goals as goal

pub reads-init : goal.reads-init
reads-init g c = record { fills = fills_none c.args.held.now (g.D.Door.told c.args.door.now); seen = seen_none c.args.held.now }

pub find_head-end-requires : goal.find_head-end-requires
find_head-end-requires g c = seen_at c.reads.progress c.reads.held c.as_slice.result.now (sym c.as_slice.ensures) c.reads.invariant.seen

pub fill-requires-clause-at_hand : goal.fill-requires-clause-at_hand
fill-requires-clause-at_hand g c = c.reads.invariant.fills.gives.last ∙ c.requires

pub reads-preserved : goal.reads-preserved
reads-preserved g c =
    let fills = c.in-Ok.ensures.fills in
    record {
      fills = fills_on _ _ _ _ _ _ None c.reads.invariant.fills fills;
      seen = seen_on c.find_head-end.new.progress c.reads.held fills.got c.fill.new.self fills.grown (seen_at c.find_head-end.new.progress c.as_slice.result.now c.reads.held c.as_slice.ensures c.in-None.ensures.seen);
    }

pub returns-in-Err-clause-fills : goal.returns-in-Err-clause-fills
returns-in-Err-clause-fills g c = fills_on _ _ _ _ _ _ _ c.reads.invariant.fills c.in-Err.ensures.fills

pub returns-in-Err-clause-short : goal.returns-in-Err-clause-short
returns-in-Err-clause-short g c =
    let none : head_length (take head_limit c.reads.held) ≡ None = ap (λ (bytes : List ℕ). head_length (take head_limit bytes)) (sym c.as_slice.ensures) ∙ sym c.in-None.ensures.found in
    let less : length c.reads.held < head_limit = omega (arith, c.if-len-ge16384.false, c.len.ensures) in
    subst (λ (bytes : List ℕ). Takes bytes Short) (sym c.in-Err.ensures.same) (takes_short c.reads.held none less)

pub returns-in-Some-clause-end : goal.returns-in-Some-clause-end
returns-in-Some-clause-end g c =
    let found : head_length (take head_limit c.reads.held) ≡ Some c.in-Some.field-0 = ap (λ (bytes : List ℕ). head_length (take head_limit bytes)) (sym c.as_slice.ensures) ∙ sym c.in-Some.ensures.found in
    subst (IsEnd c.reads.held) (sym c.in-Some.is) found
