use Rattle.std.proofs.Common.{◌<◌, ◌∙◌, ap, length, Some, refl, arith}
use Rattle.std.proofs.lemmas.Option.{slice_get_read, slice_get-get_or}
use Rattle.wb_validity.specs.invariants.Roots.IsNoRoot.{contained, again}
use Rattle.wb_validity.proofs.uncontained.take_root.Goals as goal

pub returns-then-index-clause-refused : goal.returns-then-index-clause-refused
returns-then-index-clause-refused c =
    let within : c.in-Some.place < length c.args.seen.now.items = omega (arith, c.in-Some.ensures.0, c.requires.seen) in
    again c.in-Some.place c.in-Some.ensures (slice_get_read c.args.seen.now.items (length c.args.seen.now.items) c.in-Some.place c.index.result.now refl within c.index.ensures ∙ ap Some c.if-index.true)

pub returns-in-Some-holders-clause-refused : goal.returns-in-Some-holders-clause-refused
returns-in-Some-holders-clause-refused c =
    let within : c.in-Some.place < length c.args.holders.now = omega (arith, c.in-Some.ensures.0, c.requires.holders) in
    contained c.in-Some.place c.in-Some-holders.field-0 c.in-Some.ensures (slice_get-get_or c.args.holders.now c.in-Some.place _ within ∙ ap Some c.in-Some-holders.is)

pub returns-else-index-clause-taken : goal.returns-else-index-clause-taken
returns-else-index-clause-taken c =
    let held : c.in-Some.place < length c.args.holders.now = omega (arith, c.in-Some.ensures.0, c.requires.holders) in
    let within : c.in-Some.place < length c.args.seen.now.items = omega (arith, c.in-Some.ensures.0, c.requires.seen) in
    record {
      place = c.in-Some.place;
      is_place = c.in-Some.ensures;
      free = slice_get-get_or c.args.holders.now c.in-Some.place _ held ∙ ap Some c.in-None-holders.is;
      unseen = slice_get_read c.args.seen.now.items (length c.args.seen.now.items) c.in-Some.place c.index.result.now refl within c.index.ensures ∙ ap Some c.if-index.false;
      after = refl;
    }
