use Rattle.std.proofs.Common.{[], length, subst, sym, ap, ◌∙◌, arith}
use Rattle.std.specs.Option.{is_some}
use Rattle.wb_ecore.specs.invariants.NumberedNames.{number_of, GainsName}
use Rattle.wb_ecore.specs.Repeats.{repeats}
use Rattle.wb_ecore.proofs.Taken.{added, holds-more, not-repeated, find-on}
use Rattle.wb_ecore.proofs.repeats.first_repeated.Goals as goal

pub loop-number-preserved : goal.loop-number-preserved
loop-number-preserved g c =
    let f : g.row.T.Denot → _ = λ x. g.T.Named.name_of x in
    let xs = c.args.items.now in
    let i = c.loop-number.number in
    let item = c.index-items-number.result in
    let taken = c.loop-number.taken in
    let absent = not-repeated f xs i item taken c.loop-number.invariant.0 (omega arith) c.index-items-number.is in
    let missing = absent ∙ ap (λ n. is_some (number_of taken n)) (sym c.name.ensures) ∙ ap is_some (sym c.get.ensures) ∙ sym c.if-is_some.ensures in
    let takes = subst (λ n. GainsName taken n c.add.new.self) c.name-in-loop-number.ensures (added taken c.add.new.self c.name-in-loop-number.result.now 0 c.in_ok-add.ensures) in (
      holds-more f [] xs i item taken c.add.new.self c.loop-number.invariant.0 takes (omega arith) c.index-items-number.is,
      c.loop-number.invariant.1 ∙ find-on (repeats f xs) (length xs) i (omega arith) missing,
    )
