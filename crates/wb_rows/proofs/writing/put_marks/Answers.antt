use Rattle.std.proofs.Common.{◌≡◌, ℕ, List, OnOk, ap, map, subst, sym, ◌∙◌}
use Rattle.std.specs.FinMap.{entries}
use Rattle.wb_diagram.specs.declared.keys.AnyKey.{AnyKey}
use Rattle.wb_diagram.specs.declared.keys.Key.{Key}
use Rattle.wb_picture.specs.Picture.{active_filters, active_layers}
use Rattle.wb_rows.specs.Rows.{filter_row, hidden_row, layer_row, position_row, shown_row}
use Rattle.wb_rows.specs.Texts.{Texts, with_rows}
use Rattle.wb_rows.proofs.Steps.{five_on}
use Rattle.wb_rows.proofs.writing.put_marks.Goals as goal

pub returns : goal.returns
returns c =
    let content = c.args.content.now in
    let m = c.args.marks.now in
    let placed = map position_row (entries m.layout) in
    let shown = map shown_row m.shown in
    let hidden = map hidden_row m.hidden in
    let layers = map layer_row (active_layers m.layers content) in
    let filters = map filter_row (active_filters m.filters content) in
    let with_shown = c.in_ok-put_shown.ensures ∙ ap (λ (keys : List Key). with_rows (map shown_row keys) c.put_positions.new.rows) c.as_slice.ensures ∙ ap (with_rows shown) c.in_ok-put_positions.ensures in
    let with_hidden = c.in_ok-put_hidden.ensures ∙ ap (λ (keys : List AnyKey). with_rows (map hidden_row keys) c.put_shown.new.rows) c.as_slice-2.ensures ∙ ap (with_rows hidden) with_shown in
    let with_layers = c.in_ok-put_layers.ensures ∙ ap (λ (on : List ℕ). with_rows (map layer_row (active_layers on content)) c.put_hidden.new.rows) c.as_slice-3.ensures ∙ ap (with_rows layers) with_hidden in
    let all =
    ap (λ (on : List ℕ). with_rows (map filter_row (active_filters on content)) c.put_layers.new.rows) c.as_slice-4.ensures ∙ ap (with_rows filters) with_layers
    ∙ sym (five_on placed shown hidden layers filters c.args.rows.now) in
    subst (λ (rows : Texts). OnOk c.put_filters.result (c.put_filters.new.rows ≡ rows)) all c.put_filters.ensures
