use Rattle.std.proofs.Common.{◌≡◌, ℕ, List, IfOk, map, subst}
use Rattle.wb_rows.specs.Texts.{row_of}
use Rattle.wb_rows.proofs.Trees.{entries_of}
use Rattle.wb_rows.proofs.row_map.RowMap.into_rows.Goals as goal

pub returns : goal.returns
returns c =
    subst (λ (es : List (List ℕ × List ℕ)). IfOk c.listed.result (λ rows. rows ≡ map row_of es)) (entries_of c.self.inside.texts.entries c.args.self c.self.invariant c.self.view_is) c.listed.ensures
