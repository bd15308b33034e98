use Rattle.std.proofs.Common.{ap, ◌∙◌, sym, ℕ}
use Rattle.std.specs.List.{find, flat_map}
use Rattle.std.specs.Option.{option_map}
use Rattle.wb_store.specs.Records.{slot_entries}
use Rattle.wb_store.specs.Cells.{holds, holder}
use Rattle.wb_store.specs.Contents.{Filled}
use Rattle.wb_store.proofs.Maps.{entries-slots}
use Rattle.wb_store.proofs.store.Store.holder.Goals as goal

pub returns : goal.returns
returns c =
    let whole = entries-slots c.self.inside.metamodel c.self.inside.next c.self.inside.records.items c.self.inside.roots c.self.invariant.objects_rise c.self.invariant.slots_rise in
    c.holding_object.ensures
    ∙ ap (λ records. option_map (λ (e : (ℕ × ℕ) × Filled). e.0) (find (holds c.self.inside.metamodel c.args.o) (flat_map slot_entries records))) c.as_slice.ensures.value
    ∙ ap (λ es. option_map (λ (e : (ℕ × ℕ) × Filled). e.0) (find (holds c.self.inside.metamodel c.args.o) es)) (sym whole)
    ∙ ap (λ m. holder m c.args.o) c.self.view_is
