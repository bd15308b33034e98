use Rattle.std.proofs.Common.{ℕ, List, map, sym, ap, ◌∙◌, ◌++◌}
use Rattle.wb_store.proofs.Shown.{shown-kinds}
use Rattle.wb_store.specs.Records.{kind_entry}
use Rattle.wb_store.proofs.store.Store.objects.Goals as goal

pub loop-record-init : goal.loop-record-init
loop-record-init c =
    let store = c.args.self.now in
    let records = c.records-record-items in
    let ids = λ (es : List (ℕ × ℕ)). map (λ (e : ℕ × ℕ). e.0) es in
    ap (λ (os : List ℕ). os ++ ids (map kind_entry records.result.now)) c.new-objects.ensures.items
    ∙ ap ids (sym (shown-kinds store records.result.now records.ensures.shown records.ensures.plain))
