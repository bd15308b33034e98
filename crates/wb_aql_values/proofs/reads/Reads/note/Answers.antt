use Rattle.std.proofs.Common.{Bool, List, [], ◌∷◌, ◌++◌, ap, ◌∙◌, if◌then◌else◌}
use Rattle.std.specs.List.{list_any}
use Rattle.wb_store.specs.declared.scalars.Cell.{Cell}
use Rattle.wb_aql_values.specs.Runs.{with_read}
use Rattle.wb_aql_values.proofs.CellLemmas.{same_cells}
use Rattle.wb_aql_values.proofs.reads.Reads.note.Goals as goal

pub returns-clause-ok : goal.returns-clause-ok
returns-clause-ok c =
    let keys = c.self.inside.cells.keys in
    c.in_ok-insert_full.ensures.keys
    ∙ (ap (λ (f : Cell → Bool). if list_any f keys then keys else keys ++ c.args.cell ∷ []) (λ i y. same_cells c.args.cell y i) ∙ ap (λ (ks : List Cell). with_read ks c.args.cell) c.self.view_is)
