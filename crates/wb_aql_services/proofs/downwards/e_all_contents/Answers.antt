use Rattle.std.proofs.Common.{subst, ◌∙◌}
use Rattle.wb_store.specs.declared.scalars.Cell.TheVariants.{Tree}
use Rattle.wb_aql_values.specs.Readings.{contents}
use Rattle.wb_aql_values.specs.Runs.{Gives, run}
use Rattle.wb_aql_services.specs.Navigation.{e_all_contents, sequence}
use Rattle.wb_aql_services.proofs.Choices.{as_given, noted}
use Rattle.wb_aql_services.proofs.downwards.e_all_contents.Goals as goal

pub returns : goal.returns
unfolding e_all_contents
returns c =
    let next = sequence c.args.model.now.metamodel c.args.asked.now in
    as_given _ _ c.sequence.result c.sequence.new.reads (noted (contents c.args.model.now) (Tree c.args.o) next c.args.reads.now c.note.new.self c.in_ok-note.ensures.ok)
    (subst (λ os. Gives (run (next os) (contents c.args.model.now) c.note.new.self) c.sequence.result c.sequence.new.reads) (c.as_slice.ensures ∙ c.in_ok-os.ensures) c.sequence.ensures)
