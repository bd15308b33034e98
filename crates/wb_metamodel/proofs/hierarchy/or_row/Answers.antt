use Rattle.std.proofs.Common.{◌<◌, false, length, sym, ◌∙◌, ⊎_elim, arith}
use Rattle.std.proofs.lemmas.Bool.{cases_lt}
use Rattle.wb_metamodel.specs.invariants.Tables.{or_row}
use Rattle.wb_metamodel.proofs.Cells.{same_cells, length-or_row, or_row-within, or_row-past}
use Rattle.wb_metamodel.proofs.hierarchy.or_row.Goals as goal

pub returns : goal.returns
returns c =
    let row = c.args.row.now.items in
    let via = c.args.via.now in
    same_cells false c.loop-b.row.items (or_row row via) (c.loop-b.invariant.0 ∙ sym (length-or_row row via))
    (λ k h.
    let l : k < length row = omega (arith, length-or_row row via) in
    ⊎_elim
    (λ w. c.loop-b.invariant.1 k (omega arith) ∙ sym (or_row-within row via k l w))
    (λ p. c.loop-b.invariant.2 k (omega arith) ∙ sym (or_row-past row via k p))
    (cases_lt k (length via)))
