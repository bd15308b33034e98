use Rattle.std.proofs.Common.{◌∙◌, ◌++◌, inl, take, length, drop, ◌-◌, ap, arith, rules, List, ℕ}
use Rattle.wb_outer.specs.declared.output.OutputTold.{OutputTold}
use Rattle.wb_outer.proofs.Puts.{take_on}
use Rattle.wb_outer.proofs.stdout_sink.write_whole.Goals as goal
use Rattle.wb_outer.proofs.stdout_sink.write_whole.Goals.{in-Took, in-Interrupted}

pub returns-in-Failed : goal.returns-in-Failed
returns-in-Failed g c =
    let took = ap (λ (t : OutputTold). t.took) c.in-Failed.ensures.told in
    let failures = ap (λ (t : OutputTold). t.failures) c.in-Failed.ensures.told in
    ((c.writes.written, took ∙ c.writes.invariant.took), inl (omega (arith, failures, c.writes.invariant.failures)))

pub writes-preserved : goal.writes-preserved
writes-preserved g c =
    elim c.match-put.branch [
      | in-Took w ↦ rw w.written-is (record {
        took = ap (λ (t : OutputTold). t.took) w.in-Took.ensures.told ∙ ap (λ (ys : List ℕ). ys ++ take w.in-Took.count (take (length c.args.piece.now - c.writes.written) (drop c.writes.written c.args.piece.now))) c.writes.invariant.took ∙ take_on _ c.writes.written w.in-Took.count c.args.piece.now;
        within = search rules;
        writes = search rules;
        failures = search rules;
      })
      | in-Interrupted w ↦ rw w.written-is (record {
        took = ap (λ (t : OutputTold). t.took) w.in-Interrupted.ensures.told ∙ c.writes.invariant.took;
        within = c.writes.invariant.within;
        writes = search rules;
        failures = search rules;
      })
    ]
