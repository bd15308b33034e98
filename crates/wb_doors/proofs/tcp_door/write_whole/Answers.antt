use Rattle.std.proofs.Common.{refl, ◌∙◌, ◌++◌, inl, inr, take, length, drop, ◌-◌, ap, sym, arith, rules, List, ℕ}
use Rattle.std.proofs.lemmas.List.{append-nil}
use Rattle.wb_outer.proofs.Puts.{take_on}
use Rattle.wb_outer.specs.Door.{marked, change_at_hand}
use Rattle.wb_doors.specs.declared.sockets.SocketsTold.{SocketsTold}
use Rattle.wb_doors.proofs.Fronts.{write_none, write_more, write_marked}
use Rattle.wb_doors.proofs.tcp_door.write_whole.Goals as goal
use Rattle.wb_doors.proofs.tcp_door.write_whole.Goals.{in-Took, in-Interrupted}

pub calls-init : goal.calls-init
calls-init g c = record {
  peers = refl;
  given = refl;
  took = sym (append-nil _);
  taken = sym (write_none c.args.piece.now c.args.taken.now);
  within = omega arith;
  calls = omega arith;
  failures = search rules;
}

pub returns-in-Failed : goal.returns-in-Failed
returns-in-Failed g c =
    let took = ap (λ (t : SocketsTold). t.took) c.in-Failed.ensures.told in
    let failures = ap (λ (t : SocketsTold). t.failures) c.in-Failed.ensures.told in
    ((c.calls.written, took ∙ c.calls.invariant.took, c.mark.ensures ∙ ap (change_at_hand marked) c.calls.invariant.taken ∙ write_marked (take c.calls.written c.args.piece.now) c.args.taken.now), (ap (λ (t : SocketsTold). t.peers) c.in-Failed.ensures.told ∙ c.calls.invariant.peers, ap (λ (t : SocketsTold). t.given) c.in-Failed.ensures.told ∙ c.calls.invariant.given), inl (omega (arith, failures, c.calls.invariant.failures)))

pub calls-preserved : goal.calls-preserved
calls-preserved g c =
    elim c.match-put.branch [
      | in-Took w ↦ rw w.written-is (record {
        peers = search rules;
        given = search rules;
        took = ap (λ (t : SocketsTold). t.took) w.in-Took.ensures.told ∙ ap (λ (ys : List ℕ). ys ++ take w.in-Took.count (take (length c.args.piece.now - c.calls.written) (drop c.calls.written c.args.piece.now))) c.calls.invariant.took ∙ take_on _ c.calls.written w.in-Took.count c.args.piece.now;
        taken = w.taken-is ∙ w.write.ensures ∙ write_more c.calls.written w.in-Took.count c.args.piece.now c.args.taken.now c.calls.taken c.calls.invariant.taken;
        within = search rules;
        calls = search rules;
        failures = search rules;
      })
      | in-Interrupted w ↦ rw w.written-is (record {
        peers = search rules;
        given = search rules;
        took = ap (λ (t : SocketsTold). t.took) w.in-Interrupted.ensures.told ∙ c.calls.invariant.took;
        taken = w.taken-is ∙ c.calls.invariant.taken;
        within = c.calls.invariant.within;
        calls = search rules;
        failures = search rules;
      })
    ]

pub returns : goal.returns
returns g c =
    ((c.calls.written, c.calls.invariant.took, c.mark-2.ensures ∙ ap (change_at_hand marked) c.calls.invariant.taken ∙ write_marked (take c.calls.written c.args.piece.now) c.args.taken.now), (c.calls.invariant.peers, c.calls.invariant.given), inr (omega (arith, c.calls.invariant.calls)))
