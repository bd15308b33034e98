use Rattle.std.proofs.Common.{◌<◌, Some, sym, ap, ◌∙◌, length, arith, refl}
use Rattle.std.proofs.lemmas.Bool.{false≢true}
use Rattle.std.proofs.lemmas.Option.{slice_get_read}
use Rattle.wb_store.specs.invariants.Links.Notes.{dead, fresh, again, clash}
use Rattle.wb_store.proofs.holding.note.Goals as goal

pub returns-in-None : goal.returns-in-None
returns-in-None c = dead c.in-None.ensures

pub returns-in-None-index : goal.returns-in-None-index
returns-in-None-index c =
    let within : c.in-Some.place < length c.args.first.now.items = omega (arith, c.in-Some.ensures.0, c.requires.each) in
    let read = slice_get_read c.args.first.now.items (length c.args.first.now.items) c.in-Some.place c.index.result.now refl within c.index.ensures in
    fresh c.in-Some.place c.in-Some.ensures (read ∙ ap Some c.in-None-index.is)

pub returns-then-not-is_same : goal.returns-then-not-is_same
returns-then-not-is_same c =
    let within : c.in-Some.place < length c.args.first.now.items = omega (arith, c.in-Some.ensures.0, c.requires.each) in
    let read = slice_get_read c.args.first.now.items (length c.args.first.now.items) c.in-Some.place c.index.result.now refl within c.index.ensures in
    clash c.in-Some.place c.in-Some-index.held c.in-Some.ensures (read ∙ ap Some c.in-Some-index.is) (λ e. false≢true (sym c.if-not-is_same.true ∙ c.is_same.ensures.1 e))

pub returns-else-not-is_same : goal.returns-else-not-is_same
returns-else-not-is_same c =
    let within : c.in-Some.place < length c.args.first.now.items = omega (arith, c.in-Some.ensures.0, c.requires.each) in
    let read = slice_get_read c.args.first.now.items (length c.args.first.now.items) c.in-Some.place c.index.result.now refl within c.index.ensures in
    again c.in-Some.place c.in-Some.ensures (read ∙ ap Some (c.in-Some-index.is ∙ ap Some (c.is_same.ensures.0 c.if-not-is_same.false)))
