use Rattle.std.proofs.Common.{◌≡◌, ap, ◌∙◌, rules}
use Rattle.wb_outer.specs.Keeper.{changed}
use Rattle.wb_rows.specs.Changes.{changes_between}
use Rattle.wb_rows.proofs.Leading.{leads_on}
use Rattle.wb_rows.proofs.changing.changes.Goals as goal

pub returns-clause-made : goal.returns-clause-made
returns-clause-made c =
    let old = c.args.old.now in
    let new = c.args.new.now in
    let exact : c.from_vec.result ≡ changes_between old new = search rules in
    ap (λ it. changed it old) exact ∙ leads_on old new c.requires.old c.requires.new
