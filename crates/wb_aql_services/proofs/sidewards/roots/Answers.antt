use Rattle.std.proofs.Common.{Ok, sym, ◌∙◌}
use Rattle.wb_store.specs.declared.scalars.Cell.TheVariants.{Roots}
use Rattle.wb_aql_values.specs.Readings.{contents}
use Rattle.wb_aql_values.proofs.RunLemmas.{run_held}
use Rattle.wb_aql_services.proofs.sidewards.roots.Goals as goal

pub returns : goal.returns
returns c =
    let e = c.in_ok-copied.ensures ∙ c.roots.ensures in
    run_held (contents c.args.model.now) Roots c.args.reads.now ∙ (λ i. record { gave = Ok (sym e i); reads = sym c.in_ok-note.ensures.ok i })
